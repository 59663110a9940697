-- What is kept while variables of processes are counted.
use Rattle.std.proofs.Common.{◌≡◌, drop}
use Rattle.std.specs.List.{flat_map}
use Rattle.algorithm_limits.specs.Counting.{counted, process_variables}
use Rattle.algorithm_limits.proofs.names.with_processes.Given as goal

abbrev pub invariant-loop-process : goal.invariant-loop-process
invariant-loop-process l = counted l.so_far (flat_map process_variables (drop l.process-index l.processes)) ≡ counted l.fn.count (flat_map process_variables l.processes)
