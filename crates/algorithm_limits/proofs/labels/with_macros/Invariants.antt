-- What is kept while labels are counted.
use Rattle.std.proofs.Common.{◌≡◌, List, drop}
use Rattle.std.specs.List.{flat_map}
use Rattle.tla_tree.specs.Tree.{Tree}
use Rattle.algorithm_limits.specs.Counting.{counted}
use Rattle.algorithm_limits.specs.LabelsIn.{macro_labels}
use Rattle.algorithm_limits.proofs.labels.with_macros.Given as goal

abbrev pub invariant-loop-one : goal.invariant-loop-one
invariant-loop-one l = (ts : List Tree) → counted l.so_far (flat_map (macro_labels ts) (drop l.one-index l.macros)) ≡ counted l.fn.count (flat_map (macro_labels ts) l.macros)
