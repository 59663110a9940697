-- Proves the law `written_modules_are_regions`: without its places the algorithm can be written too.
use Rattle.module_tree.proofs.WrittenRegion.{written_file}
use Rattle.translation.specs.Region.{written_region}
use Rattle.translation.proofs.WritableRegions.{written_is_region}
use Rattle.translation.proofs.laws.written_modules_are_regions.Goals as goal

pub returns-clause-regions : goal.returns-clause-regions
returns-clause-regions c = written_is_region

pub returns-clause-files : goal.returns-clause-files
returns-clause-files c = λ b x w o g h. written_file x w o (written_region b o g) (written_is_region b o g h)
