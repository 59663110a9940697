-- Proves the law `layouts_are_regions`.
use Rattle.module_tree.proofs.WrittenRegion.{layout_inside, read_back}
use Rattle.module_tree.proofs.laws.layouts_are_regions.Goals as goal

pub returns-clause-inside : goal.returns-clause-inside
returns-clause-inside c = layout_inside

pub returns-clause-reads : goal.returns-clause-reads
returns-clause-reads c = read_back
