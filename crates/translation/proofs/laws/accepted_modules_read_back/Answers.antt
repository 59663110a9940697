-- Proves the law `accepted_modules_read_back`.
use Rattle.module_tree.proofs.WrittenRegion.{written_file}
use Rattle.translation.specs.Region.{written_region}
use Rattle.translation.proofs.AcceptedAlgorithms.{text_writable}
use Rattle.translation.proofs.FewNames.{few_names}
use Rattle.translation.proofs.WritableRegions.{written_is_region}
use Rattle.translation.proofs.laws.accepted_modules_read_back.Goals as goal

pub returns-clause-few : goal.returns-clause-few
returns-clause-few c = few_names

pub returns-clause-regions : goal.returns-clause-regions
returns-clause-regions c = λ b x o a h size out. written_is_region b o a (text_writable x o a h size out)

pub returns-clause-files : goal.returns-clause-files
returns-clause-files c = λ b x w o a h size fine out. written_file x w o (written_region b o a) (written_is_region b o a (text_writable x o a h size out)) fine out
