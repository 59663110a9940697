-- Proves the law `init_is_true_of_the_initial_states`.
use Rattle.translation.proofs.InitKept.{init_of_files}
use Rattle.translation.proofs.InitOfRegion.{init_of_region_law}
use Rattle.translation.proofs.laws.init_is_true_of_the_initial_states.Goals as goal

pub returns-clause-region : goal.returns-clause-region
returns-clause-region c = init_of_region_law

pub returns-clause-files : goal.returns-clause-files
returns-clause-files c = init_of_files
