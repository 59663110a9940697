-- What is kept while declarations get their names.
use Rattle.std.proofs.Common.{take}
use Rattle.tla_tree.specs.Tree.{words}
use Rattle.algorithm_limits.specs.Counting.{declared_names}
use Rattle.written_names.specs.Giving.{Gives}
use Rattle.written_names.proofs.units.name_declared.Given as goal

abbrev pub invariant-loop-declaration : goal.invariant-loop-declaration
invariant-loop-declaration l = Gives l.fn.giver l.giver l.fn.into l.into (words (declared_names (take l.declaration-index l.declarations)))
