-- Proves that a first value is that of its expression.
use Rattle.step_moves.specs.Programs.{program_at}
use Rattle.step_moves.specs.StatesOf.{state_of}
use Rattle.step_moves.proofs.EntryForms.{first_equals}
use Rattle.step_moves.proofs.entries.start_value.Goals as goal

pub returns-in-Equals : goal.returns-in-Equals
returns-in-Equals c v p b =
    let r = c.args.runner.now in
    first_equals (program_at r.program) r.program.pool.now v p c.args.at c.args.start.now c.in-Equals.e _ (state_of c.args.state.now) c.value.result c.in-Equals.is b c.value.ensures
