-- Proves the law `files_have_one_place`.
use Rattle.module_tree.proofs.OnePlace.{one_around, one_swapped}
use Rattle.module_tree.proofs.laws.files_have_one_place.Goals as goal

pub returns-clause-around : goal.returns-clause-around
returns-clause-around c = one_around

pub returns-clause-swapped : goal.returns-clause-swapped
returns-clause-swapped c = one_swapped
