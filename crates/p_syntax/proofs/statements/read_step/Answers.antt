-- Proves what is asked of `read_step`.
use Rattle.std.proofs.Common.{ℕ}
use Rattle.std.proofs.lemmas.Result.{err_from_is_err_and}
use Rattle.expr_nodes.specs.ReadIn.{Told, Reads, Fails}
use Rattle.expr_nodes.specs.Ahead.{ahead}
use Rattle.algorithm_reader.specs.PartsRead.{parts_in}
use Rattle.p_reading.specs.ReadStatements as reader
use Rattle.p_syntax.specs.declared.open.Turn.{Turn}
use Rattle.p_syntax.specs.declared.open.Turn.TheVariants as turn
use Rattle.p_syntax.specs.StatesRead.{TurnStands}
use Rattle.p_syntax.proofs.AfterStatement.{begins_is, begins_not}
use Rattle.p_syntax.proofs.statements.read_step.Goals as goal

pub returns-in_ok-next-in-Begins-clause-read : goal.returns-in_ok-next-in-Begins-clause-read
returns-in_ok-next-in-Begins-clause-read c n s k h =
    let v = c.args.tokens.now in
    let said = c.in_ok-next-in-Begins in
    begins_is c.args.pool.now c.args.state s c.in-Begins.is h (λ (z : reader.State). Reads (λ (t : reader.Turn). TurnStands c.read_statement.new.pool (turn.On said.next) t) (ahead v said.end) (reader.step (parts_in v) n z (ahead v c.args.at)))
    (λ b ls st i. said.ensures.read n b ls st k i)

pub returns-in_err-next-in-Begins-clause-read : goal.returns-in_err-next-in-Begins-clause-read
returns-in_err-next-in-Begins-clause-read c n s k h =
    let v = c.args.tokens.now in
    let r = err_from_is_err_and c.from_residual.result c.from_residual.ensures.1 in
    let e = c.in_err-next-in-Begins.field-0.0 in
    rw (r.1, r.2) (begins_is c.args.pool.now c.args.state s c.in-Begins.is h (λ (z : reader.State). Fails e (reader.step (parts_in v) n z (ahead v c.args.at))) (λ b ls st i. c.in_err-next-in-Begins.ensures.read n b ls st k i))

pub returns-in_default-clause-read : goal.returns-in_default-clause-read
returns-in_default-clause-read c n s k h =
    let v = c.args.tokens.now in
    begins_not c.args.pool.now c.args.state s c.in_default.not-Begins h (λ (z : reader.State). Told (λ (x : Turn × ℕ) (t : reader.Turn). TurnStands c.read_after.new.pool x.0 t) (λ x. ahead v x.1) c.read_after.result (reader.step (parts_in v) n z (ahead v c.args.at)))
    (λ b ls a o st i j. c.read_after.ensures.read n b ls a o st k i j)
