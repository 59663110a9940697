-- What is kept: what is found from there on is what is found among all.
use Rattle.std.proofs.Common.{◌≡◌}
use Rattle.step_moves.specs.Programs.{program_at}
use Rattle.step_spots.specs.InMemory.{routine_at}
use Rattle.written_runs.specs.Stands.{stand_in}
use Rattle.step_meaning.proofs.FoundLaws.{from}
use Rattle.step_meaning.proofs.stands.stand_in.Given as goal

abbrev pub invariant-loop-i : goal.invariant-loop-i
invariant-loop-i l =
    from l.program.pool.now (program_at l.program) l.label (routine_at l.program.pool.now l.routine) l.all.items l.i
    ≡ stand_in (program_at l.program) l.label (routine_at l.program.pool.now l.routine)
