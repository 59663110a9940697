-- What is kept while labels are counted.
use Rattle.std.proofs.Common.{◌≡◌, List, drop}
use Rattle.std.specs.List.{flat_map}
use Rattle.tla_tree.specs.Tree.{Tree}
use Rattle.algorithm_limits.specs.Counting.{counted}
use Rattle.algorithm_limits.specs.LabelsIn.{procedure_labels}
use Rattle.algorithm_limits.proofs.labels.with_procedures.Given as goal

abbrev pub invariant-loop-procedure : goal.invariant-loop-procedure
invariant-loop-procedure l = (ts : List Tree) → counted l.so_far (flat_map (procedure_labels ts) (drop l.procedure-index l.procedures)) ≡ counted l.fn.count (flat_map (procedure_labels ts) l.procedures)
