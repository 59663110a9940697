-- Proves the law `prepared_routines_have_the_same_labels`.
use Rattle.written_runs.proofs.OwnSpotLaws.{accepted_opens, routine_prepared, words_prepared, named_prepared, place_prepared, stand_prepared}
use Rattle.written_runs.proofs.laws.prepared_routines_have_the_same_labels.Goals as goal

pub returns-clause-accepted : goal.returns-clause-accepted
returns-clause-accepted c = accepted_opens

pub returns-clause-spots : goal.returns-clause-spots
returns-clause-spots c = routine_prepared

pub returns-clause-labels : goal.returns-clause-labels
returns-clause-labels c = words_prepared

pub returns-clause-place : goal.returns-clause-place
returns-clause-place c = place_prepared

pub returns-clause-stand : goal.returns-clause-stand
returns-clause-stand c = stand_prepared

pub returns-clause-named : goal.returns-clause-named
returns-clause-named c = named_prepared
