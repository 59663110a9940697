-- Proves what is asked of `read_step`.
use Rattle.expr_nodes.specs.Ahead.{ahead}
use Rattle.algorithm_reader.specs.PartsRead.{parts_in}
use Rattle.c_reading.specs.ReadStatements as reader
use Rattle.c_syntax.specs.AfterRead.{TurnsTo}
use Rattle.c_syntax.proofs.AfterStatement.{begins_is, ended_is}
use Rattle.c_syntax.proofs.sequence.read_step.Goals as goal

pub returns-in-Begins-clause-read : goal.returns-in-Begins-clause-read
returns-in-Begins-clause-read c n s k h =
    let v = c.args.tokens.now in
    begins_is c.args.pool.now c.args.state s c.in-Begins.is h (λ (z : reader.State). TurnsTo v c.read_begun.new.pool c.read_begun.result (reader.step (parts_in v) n z (ahead v c.args.at))) (λ ls st i. c.read_begun.ensures.read n ls st k i)

pub returns-in-Ended-clause-read : goal.returns-in-Ended-clause-read
returns-in-Ended-clause-read c n s k h =
    let v = c.args.tokens.now in
    ended_is c.args.pool.now c.args.state s c.in-Ended.end c.in-Ended.is h (λ (z : reader.State). TurnsTo v c.read_after.new.pool c.read_after.result (reader.step (parts_in v) n z (ahead v c.args.at))) (λ a o st i j. c.read_after.ensures.read n a o st k i j)
