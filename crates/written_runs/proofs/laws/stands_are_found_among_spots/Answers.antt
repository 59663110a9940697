-- Proves the law `stands_are_found_among_spots`.
use Rattle.written_runs.proofs.StandLaws.{in_routine, by_spots}
use Rattle.written_runs.proofs.laws.stands_are_found_among_spots.Goals as goal

pub returns-clause-routine : goal.returns-clause-routine
returns-clause-routine c = in_routine

pub returns-clause-routines : goal.returns-clause-routines
returns-clause-routines c = by_spots
