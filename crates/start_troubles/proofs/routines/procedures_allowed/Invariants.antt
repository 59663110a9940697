-- What the loop keeps: those so far are allowed.
use Rattle.std.proofs.Common.{map}
use Rattle.pcal_tree.specs.Algorithm.{procedure_routine, first_procedure}
use Rattle.pcal_tree.specs.InMemory.{procedure_at}
use Rattle.step_moves.specs.InMemory.{actor_at}
use Rattle.step_moves.specs.Programs.{program_at}
use Rattle.step_moves.specs.StatesOf.{state_of}
use Rattle.written_traces.specs.AskedStarts.{as_written}
use Rattle.start_troubles.specs.Asked.{procedure_asked}
use Rattle.start_troubles.proofs.RoutineLaws.{TurnsFrom}
use Rattle.start_troubles.proofs.routines.procedures_allowed.Given as goal

abbrev pub invariant-loop-i : goal.invariant-loop-i
invariant-loop-i l =
    let p = l.origin.program in
    TurnsFrom procedure_routine (procedure_at p.pool.now) (procedure_asked (as_written (program_at p)) (program_at p) (map (actor_at p.pool.now) l.actors) (state_of l.state)) (first_procedure (program_at p).algorithm) l.list l.i
