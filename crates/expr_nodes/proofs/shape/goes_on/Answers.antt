-- Proves what is asked of `goes_on`.
use Rattle.expr_nodes.proofs.ShapeLemmas.{goes_is}
use Rattle.expr_nodes.proofs.shape.goes_on.Goals as goal

pub returns-clause-phrase : goal.returns-clause-phrase
returns-clause-phrase c = λ w a e. goes_is w _ c.args.shape c.args.above c.args.place c.args.op a c.continues.ensures e
