-- What is kept: the names of those that were passed are added.
use Rattle.std.proofs.Common.{take}
use Rattle.std.specs.List.{flat_map}
use Rattle.algorithm_limits.specs.DepthsIn.{Hides}
use Rattle.read_rules.specs.Locals.{procedure_words}
use Rattle.read_rules.proofs.locals.add_procedures.Given as goal

abbrev pub invariant-loop-procedure : goal.invariant-loop-procedure
invariant-loop-procedure l = Hides l.fn.names l.names (flat_map procedure_words (take l.procedure-index l.procedures))
