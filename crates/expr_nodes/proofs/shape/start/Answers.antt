-- Proves what is asked of `start`.
use Rattle.std.proofs.Common.{sym, ap, ◌∙◌}
use Rattle.expr_nodes.specs.declared.shape.Shape.{Shape}
use Rattle.expr_nodes.proofs.ShapeLemmas.{start_is}
use Rattle.expr_nodes.proofs.shape.start.Goals as goal

pub returns : goal.returns
returns c = λ w a e. sym (ap (λ (s : Shape). s.start) e) ∙ start_is w a
