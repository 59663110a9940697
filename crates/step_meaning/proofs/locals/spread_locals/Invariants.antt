-- What the loop keeps: the rest goes on from here as all do from the beginning.
use Rattle.std.proofs.Common.{List, true, drop}
use Rattle.pcal_tree.specs.Program.{Actor}
use Rattle.step_spots.specs.InMemory.{routine_at}
use Rattle.step_moves.specs.StatesOf.{state_of}
use Rattle.step_meaning.specs.Begun.{IsBegun}
use Rattle.step_meaning.specs.Identified.{HaveThese}
use Rattle.step_meaning.proofs.LocalLaws.{LocalsFrom}
use Rattle.step_meaning.proofs.locals.spread_locals.Given as goal

abbrev pub invariant-loop-i : goal.invariant-loop-i
invariant-loop-i l = record {
  begun : IsBegun l.origin.program l.state;
  flows : (vs : List Actor) → HaveThese vs l.ids → LocalsFrom l.origin.program (routine_at l.origin.program.pool.now l.routine) true vs l.list (state_of l.fn.state) (drop l.fn.used l.choices) l.i (state_of l.state) (drop l.used l.choices);
}
