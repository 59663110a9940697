-- Proves the law `files_with_translations_are_modules`.
use Rattle.module_tree.proofs.ModuleKept.{outside_kept, is_module}
use Rattle.module_tree.proofs.laws.files_with_translations_are_modules.Goals as goal

pub returns-clause-outside : goal.returns-clause-outside
returns-clause-outside c = outside_kept

pub returns-clause-reads : goal.returns-clause-reads
returns-clause-reads c = is_module
