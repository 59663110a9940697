-- What the loop keeps: the rest goes on from here as all do from the beginning.
use Rattle.std.proofs.Common.{◌≡◌, ◌∷◌, [], List, false, drop}
use Rattle.pcal_tree.specs.Program.{Actor}
use Rattle.action_builder.specs.laws.WrittenScope.{written_scope}
use Rattle.step_spots.specs.InMemory.{routine_at}
use Rattle.step_moves.specs.Programs.{program_at}
use Rattle.step_moves.specs.StatesOf.{state_of}
use Rattle.step_moves.specs.ScopeIn.{scope_in}
use Rattle.step_meaning.specs.Begun.{IsBegun}
use Rattle.step_meaning.proofs.LocalLaws.{LocalsFrom}
use Rattle.step_meaning.proofs.locals.plain_locals.Given as goal

abbrev pub invariant-loop-i : goal.invariant-loop-i
invariant-loop-i l = record {
  begun : IsBegun l.origin.program l.state;
  flows : (v : Actor) (vs : List Actor) → written_scope (program_at l.origin.program) [] v ≡ scope_in (program_at l.origin.program) l.bound.names.items l.bound.values.items
      → LocalsFrom l.origin.program (routine_at l.origin.program.pool.now l.routine) false (v ∷ vs) l.list (state_of l.fn.state) (drop l.fn.used l.choices) l.i (state_of l.state) (drop l.used l.choices);
}
