-- What is kept: the names of those that were passed are bound.
use Rattle.std.proofs.Common.{take}
use Rattle.tla_tree.specs.Tree.{words}
use Rattle.algorithm_limits.specs.DepthsIn.{Hides}
use Rattle.declared_rules.specs.Units.{declared_names}
use Rattle.declared_rules.proofs.names.add_declared.Given as goal

abbrev pub invariant-loop-i : goal.invariant-loop-i
invariant-loop-i l = Hides l.fn.bound l.bound (words (declared_names (take l.i l.list)))
