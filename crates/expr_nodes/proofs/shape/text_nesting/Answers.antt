-- Proves what is asked of `text_nesting`.
use Rattle.std.proofs.Common.{sym, ap, ◌∙◌}
use Rattle.expr_nodes.specs.declared.shape.Shape.{Shape}
use Rattle.expr_nodes.proofs.ShapeLemmas.{nesting_is}
use Rattle.expr_nodes.proofs.shape.text_nesting.Goals as goal

pub returns : goal.returns
returns c = λ w a e. sym (ap (λ (s : Shape). s.nesting) e) ∙ nesting_is w a
