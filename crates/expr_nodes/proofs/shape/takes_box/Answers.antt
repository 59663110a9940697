-- Proves what is asked of `takes_box`.
use Rattle.expr_nodes.proofs.ShapeLemmas.{box_is}
use Rattle.expr_nodes.proofs.shape.takes_box.Goals as goal

pub returns : goal.returns
returns c = λ w a e. box_is w _ _ _ a c.takes.ensures e
