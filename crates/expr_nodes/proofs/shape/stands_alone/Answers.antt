-- Proves what is asked of `stands_alone`.
use Rattle.expr_nodes.proofs.ShapeLemmas.{alone_is}
use Rattle.expr_nodes.proofs.shape.stands_alone.Goals as goal

pub returns : goal.returns
returns c = λ w a e. alone_is w _ _ a c.is_primary.ensures e
