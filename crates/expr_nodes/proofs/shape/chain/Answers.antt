-- Proves what is asked of `chain`.
use Rattle.std.proofs.Common.{sym, ap, ◌∙◌}
use Rattle.expr_nodes.specs.declared.shape.Shape.{Shape}
use Rattle.expr_nodes.proofs.ShapeLemmas.{chain_is}
use Rattle.expr_nodes.proofs.shape.chain.Goals as goal

pub returns : goal.returns
returns c = λ w a e. sym (ap (λ (s : Shape). s.chain) e) ∙ chain_is w a
