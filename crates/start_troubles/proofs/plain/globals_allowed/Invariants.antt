-- What the loop keeps: those so far are allowed.
use Rattle.step_moves.specs.StatesOf.{state_of}
use Rattle.start_troubles.proofs.AskedLaws.{AskedFrom}
use Rattle.start_troubles.proofs.LocalLaws.{one_global}
use Rattle.start_troubles.proofs.plain.globals_allowed.Given as goal

abbrev pub invariant-loop-one : goal.invariant-loop-one
invariant-loop-one l = AskedFrom (one_global l.program (state_of l.state)) l.list l.one-index
