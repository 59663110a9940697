-- Proves what is asked of `can_be_right`.
use Rattle.expr_nodes.proofs.ShapeLemmas.{right_is}
use Rattle.expr_nodes.proofs.shape.can_be_right.Goals as goal

pub returns : goal.returns
returns c = λ w a e. right_is w _ _ _ a c.stands_right.ensures e
