-- What the loop keeps: what was named so far, each a form that is open, and the pool that grows.
use Rattle.std.proofs.Common.{◌≡◌, ℕ, ◌+◌, ◌≤◌, ◌-◌, length}
use Rattle.tla_tree.specs.Pool.{Keeps}
use Rattle.pcal_tree.specs.InMemory.{bind_at, past_bind}
use Rattle.algorithm_reader.specs.PartsRead.{parts_in, Enough}
use Rattle.algorithm_reader.proofs.Gathered.{InPool}
use Rattle.algorithm_reader.proofs.GatheredBinds.{binds_below, members}
use Rattle.algorithm_reader.proofs.binds.read_binds.Given as goal

abbrev pub invariant-loop-list : goal.invariant-loop-list
invariant-loop-list l =
    record {
      in_pool : (n : ℕ) → Enough l.tokens l.at n → InPool (binds_below (parts_in l.tokens) (l.depth + n)) members bind_at past_bind l.tokens l.pool n l.at l.from l.list.items;
      kept : Keeps l.fn.pool l.pool;
      inside : l.from ≤ length l.tokens.items.items;
      further : l.at ≤ l.from;
      deeper : l.deep ≡ l.depth + length l.list.items;
    }

abbrev pub decreases-loop-list : goal.decreases-loop-list
decreases-loop-list l = length l.tokens.items.items - l.from
