-- What is kept while names are bound: those before are.
use Rattle.std.proofs.Common.{take}
use Rattle.algorithm_limits.specs.DepthsIn.{Hides}
use Rattle.region_depth.proofs.definitions.bind.Given as goal

abbrev pub invariant-loop-name : goal.invariant-loop-name
invariant-loop-name l = Hides l.fn.bound l.bound (take l.name-index l.names)
