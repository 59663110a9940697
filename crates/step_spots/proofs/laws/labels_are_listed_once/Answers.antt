-- Proves the laws.
use Rattle.step_spots.proofs.SpotLaws.{labels_listed, begins_listed, place_listed}
use Rattle.step_spots.proofs.laws.labels_are_listed_once.Goals as goal

pub returns-clause-labels : goal.returns-clause-labels
returns-clause-labels c = labels_listed

pub returns-clause-begins : goal.returns-clause-begins
returns-clause-begins c = begins_listed

pub returns-clause-place : goal.returns-clause-place
returns-clause-place c = place_listed
