-- What is kept while labels are counted.
use Rattle.std.proofs.Common.{◌≡◌, List, drop}
use Rattle.std.specs.List.{flat_map}
use Rattle.tla_tree.specs.Tree.{Tree}
use Rattle.algorithm_limits.specs.Counting.{counted}
use Rattle.algorithm_limits.specs.LabelsIn.{process_labels}
use Rattle.algorithm_limits.proofs.labels.with_processes.Given as goal

abbrev pub invariant-loop-process : goal.invariant-loop-process
invariant-loop-process l = (ts : List Tree) → counted l.so_far (flat_map (process_labels ts) (drop l.process-index l.processes)) ≡ counted l.fn.count (flat_map (process_labels ts) l.processes)
