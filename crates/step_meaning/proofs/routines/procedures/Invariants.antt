-- What the loop keeps: the rest goes on from here as all do from the beginning.
use Rattle.std.proofs.Common.{map, drop}
use Rattle.pcal_tree.specs.Algorithm.{procedure_routine, first_procedure}
use Rattle.pcal_tree.specs.InMemory.{procedure_at}
use Rattle.step_moves.specs.InMemory.{actor_at}
use Rattle.step_moves.specs.Programs.{program_at}
use Rattle.step_moves.specs.StatesOf.{state_of}
use Rattle.step_meaning.specs.Begun.{IsBegun}
use Rattle.step_meaning.specs.Ready.{procedure_flow}
use Rattle.step_meaning.proofs.RoutineLaws.{TurnsFrom}
use Rattle.step_meaning.proofs.routines.procedures.Given as goal

abbrev pub invariant-loop-i : goal.invariant-loop-i
invariant-loop-i l = record {
  begun : IsBegun l.origin.program l.state;
  flows : TurnsFrom procedure_routine (procedure_at l.origin.program.pool.now) (λ u s ns. procedure_flow (program_at l.origin.program) u (map (actor_at l.origin.program.pool.now) l.actors) s ns)
      (first_procedure (program_at l.origin.program).algorithm) l.list (state_of l.fn.state) (drop l.fn.used l.choices) l.i (state_of l.state) (drop l.used l.choices);
}
