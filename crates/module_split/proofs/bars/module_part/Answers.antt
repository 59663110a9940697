use Rattle.std.proofs.Common.{sym}
use Rattle.module_tree.specs.ModuleParts.{barred}
use Rattle.module_split.proofs.bars.module_part.Goals as goal

pub returns-in-Some-clause-part : goal.returns-in-Some-clause-part
returns-in-Some-clause-part c = sym (c.in-Some.ensures.found barred)
