-- Proves what is asked of `can_be_head`.
use Rattle.expr_nodes.proofs.ShapeLemmas.{head_of_is}
use Rattle.expr_nodes.proofs.shape.can_be_head.Goals as goal

pub returns : goal.returns
returns c = λ w a e. head_of_is w _ _ _ a c.stands_at_head.ensures e
