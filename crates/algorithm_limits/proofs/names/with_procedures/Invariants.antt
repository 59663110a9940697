-- What is kept while names are counted.
use Rattle.std.proofs.Common.{◌≡◌, drop}
use Rattle.std.specs.List.{flat_map}
use Rattle.algorithm_limits.specs.Counting.{counted, procedure_variables}
use Rattle.algorithm_limits.proofs.names.with_procedures.Given as goal

abbrev pub invariant-loop-procedure : goal.invariant-loop-procedure
invariant-loop-procedure l = counted l.so_far (flat_map procedure_variables (drop l.procedure-index l.procedures)) ≡ counted l.fn.count (flat_map procedure_variables l.procedures)
