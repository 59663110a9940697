-- What is kept: what is united so far, with the sets that are left, is the whole.
use Rattle.std.proofs.Common.{◌≡◌, ◌<◌, length, drop, map}
use Rattle.tla_tree.specs.Pool.{at, Keeps}
use Rattle.pcal_tree.specs.InMemory.{process_at}
use Rattle.action_builder.specs.ProcessSets.{union_from, sets_of_processes}
use Rattle.module_formulas.proofs.process_sets.union_with.Given as goal

abbrev pub invariant-loop-process : goal.invariant-loop-process
invariant-loop-process l =
    Keeps l.fn.pool l.pool
    × (l.all < length l.pool)
    × (union_from (at l.pool l.all) (sets_of_processes (map (process_at l.fn.pool) (drop l.process-index l.list))) ≡ union_from (at l.fn.pool l.fn.first) (sets_of_processes (map (process_at l.fn.pool) l.list)))
