-- What is kept while processes are counted.
use Rattle.std.proofs.Common.{◌≡◌, map, drop}
use Rattle.pcal_tree.specs.declared.algorithm.Process.{Process}
use Rattle.algorithm_limits.specs.Counting.{counted}
use Rattle.algorithm_limits.proofs.names.with_names.Given as goal

abbrev pub invariant-loop-process : goal.invariant-loop-process
invariant-loop-process l = counted l.so_far (map (λ (p : Process). p.name) (drop l.process-index l.processes)) ≡ counted l.fn.count (map (λ (p : Process). p.name) l.processes)
