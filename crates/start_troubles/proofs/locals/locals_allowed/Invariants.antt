-- What the loop keeps: those so far are allowed.
use Rattle.std.proofs.Common.{Bool, List}
use Rattle.pcal_tree.specs.Program.{Actor}
use Rattle.step_spots.specs.InMemory.{routine_at}
use Rattle.step_moves.specs.Programs.{program_at}
use Rattle.step_moves.specs.StatesOf.{state_of}
use Rattle.start_troubles.specs.Owned.{AreOf}
use Rattle.start_troubles.proofs.AskedLaws.{AskedFrom}
use Rattle.start_troubles.proofs.LocalLaws.{one_local}
use Rattle.start_troubles.proofs.locals.locals_allowed.Given as goal

abbrev pub invariant-loop-i : goal.invariant-loop-i
invariant-loop-i l = (spread : Bool) (vs : List Actor) → AreOf (program_at l.origin.program) l.owners spread vs → AskedFrom (one_local l.origin.program (routine_at l.origin.program.pool.now l.routine) spread vs (state_of l.state)) l.list l.i
