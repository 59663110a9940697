-- What the loop keeps: those so far are allowed.
use Rattle.std.proofs.Common.{map}
use Rattle.pcal_tree.specs.Algorithm.{process_routine, first_process}
use Rattle.pcal_tree.specs.InMemory.{process_at}
use Rattle.step_moves.specs.InMemory.{actor_at}
use Rattle.step_moves.specs.Programs.{program_at}
use Rattle.step_moves.specs.StatesOf.{state_of}
use Rattle.written_traces.specs.AskedStarts.{as_written}
use Rattle.start_troubles.specs.Asked.{process_asked}
use Rattle.start_troubles.proofs.RoutineLaws.{TurnsFrom}
use Rattle.start_troubles.proofs.routines.several_allowed.Given as goal

abbrev pub invariant-loop-i : goal.invariant-loop-i
invariant-loop-i l =
    let p = l.origin.program in
    TurnsFrom process_routine (process_at p.pool.now) (process_asked (as_written (program_at p)) (program_at p) (map (actor_at p.pool.now) l.actors) (state_of l.state)) (first_process (program_at p).algorithm) l.list l.i
