-- Proves what is asked of `can_be_under`.
use Rattle.expr_nodes.proofs.ShapeLemmas.{under_is}
use Rattle.expr_nodes.proofs.shape.can_be_under.Goals as goal

pub returns : goal.returns
returns c = λ w a e. under_is w _ _ _ a c.stands_under.ensures e
