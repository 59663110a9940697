-- Proves the law `written_files_are_modules`.
use Rattle.module_tree.proofs.WrittenRegion.{written_file}
use Rattle.module_tree.proofs.laws.written_files_are_modules.Goals as goal

pub returns : goal.returns
returns c = written_file
