-- Proves that the variable has the value that its declaration gives.
use Rattle.std.proofs.Common.{drop}
use Rattle.step_spots.specs.InMemory.{routine_at}
use Rattle.step_moves.specs.StatesOf.{state_of}
use Rattle.step_meaning.proofs.FlowLaws.{flows_is}
use Rattle.step_meaning.proofs.LocalLaws.{plain_seen}
use Rattle.step_meaning.proofs.locals.plain_local.Goals as goal

pub returns-clause-set : goal.returns-clause-set
returns-clause-set c v vs h =
    flows_is _ c.set_plain.result _ _ _
    (plain_seen c.args.origin.now.program (routine_at c.args.origin.now.program.pool.now c.args.routine.now) v c.args.bound.now.names.items c.args.bound.now.values.items h vs _ c.args.one.now c.one.view_is c.args.prepared.now c.local-name.result.now
    (state_of c.args.state.now) (drop c.args.used.now c.args.choices.now) c.requires.prepared c.local-name.ensures)
    c.set_plain.ensures.set
