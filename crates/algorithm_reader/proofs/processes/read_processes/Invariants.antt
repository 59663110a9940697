-- What the loop keeps: the processes so far, and the pool that grows.
use Rattle.std.proofs.Common.{ℕ, ◌≤◌, ◌-◌, length, map}
use Rattle.tla_tree.specs.Pool.{Keeps}
use Rattle.pcal_tree.specs.InMemory.{process_at, past_process}
use Rattle.pcal_tree.specs.Grammar.{process_tree}
use Rattle.syntax_reading.specs.ReadRoutines as reader
use Rattle.algorithm_reader.specs.PartsRead.{parts_in, Enough}
use Rattle.algorithm_reader.proofs.Gathered.{InPool}
use Rattle.algorithm_reader.proofs.processes.read_processes.Given as goal

abbrev pub invariant-loop-list : goal.invariant-loop-list
invariant-loop-list g l =
    record {
      in_pool : (n : ℕ) → Enough l.tokens l.at n → InPool (reader.read_processes (parts_in l.tokens) (g.W.Ways.readers (parts_in l.tokens))) (map process_tree) process_at past_process l.tokens l.pool n l.at l.from l.list.items;
      kept : Keeps l.fn.pool l.pool;
      inside : l.from ≤ length l.tokens.items.items;
      further : l.at ≤ l.from;
    }

abbrev pub decreases-loop-list : goal.decreases-loop-list
decreases-loop-list g l = length l.tokens.items.items - l.from
