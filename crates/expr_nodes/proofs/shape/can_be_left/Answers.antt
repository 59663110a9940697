-- Proves what is asked of `can_be_left`.
use Rattle.expr_nodes.proofs.ShapeLemmas.{left_is}
use Rattle.expr_nodes.proofs.shape.can_be_left.Goals as goal

pub returns : goal.returns
returns c = λ w a e. left_is w _ _ _ _ a c.stands_left.ensures e
