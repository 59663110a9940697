-- What the loop of `known_of` keeps: the names so far are known.
use Rattle.std.proofs.Common.{[], take}
use Rattle.algorithm_limits.specs.DepthsIn.{Hides}
use Rattle.run_files.proofs.trace.known_of.Given as goal

abbrev pub invariant-loop-name : goal.invariant-loop-name
invariant-loop-name l = Hides [] l.known (take l.name-index l.names)
