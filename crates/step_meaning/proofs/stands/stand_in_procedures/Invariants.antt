-- What is kept: what is found among the procedures from there on is what is found among all.
use Rattle.std.proofs.Common.{◌≡◌, drop}
use Rattle.step_moves.specs.Programs.{program_at}
use Rattle.written_runs.specs.Stands.{stand_by_spots}
use Rattle.step_meaning.specs.StandsAt.{prepared_procedure_routines}
use Rattle.step_meaning.proofs.stands.stand_in_procedures.Given as goal

abbrev pub invariant-loop-i : goal.invariant-loop-i
invariant-loop-i l =
    stand_by_spots (program_at l.stage.program) l.label (drop l.i (prepared_procedure_routines (program_at l.stage.program)))
    ≡ stand_by_spots (program_at l.stage.program) l.label (prepared_procedure_routines (program_at l.stage.program))
