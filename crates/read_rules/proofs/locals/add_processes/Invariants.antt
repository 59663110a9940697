-- What is kept: the names of those that were passed are added.
use Rattle.std.proofs.Common.{take}
use Rattle.std.specs.List.{flat_map}
use Rattle.algorithm_limits.specs.DepthsIn.{Hides}
use Rattle.read_rules.specs.Locals.{process_words}
use Rattle.read_rules.proofs.locals.add_processes.Given as goal

abbrev pub invariant-loop-process : goal.invariant-loop-process
invariant-loop-process l = Hides l.fn.names l.names (flat_map process_words (take l.process-index l.processes))
