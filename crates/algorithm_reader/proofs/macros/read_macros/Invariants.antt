-- What the loop keeps: the macros so far, and the pool that grows.
use Rattle.std.proofs.Common.{ℕ, ◌≤◌, ◌-◌, length, map}
use Rattle.tla_tree.specs.Pool.{Keeps}
use Rattle.pcal_tree.specs.InMemory.{macro_at, past_macro}
use Rattle.pcal_tree.specs.Grammar.{macro_tree}
use Rattle.syntax_reading.specs.ReadRoutines as reader
use Rattle.algorithm_reader.specs.PartsRead.{parts_in, Enough}
use Rattle.algorithm_reader.proofs.Gathered.{InPool}
use Rattle.algorithm_reader.proofs.macros.read_macros.Given as goal

abbrev pub invariant-loop-next : goal.invariant-loop-next
invariant-loop-next g l =
    record {
      in_pool : (n : ℕ) → Enough l.tokens l.at n → InPool (reader.read_macros (g.W.Ways.readers (parts_in l.tokens))) (map macro_tree) macro_at past_macro l.tokens l.pool n l.at l.from l.list.items;
      kept : Keeps l.fn.pool l.pool;
      inside : l.from ≤ length l.tokens.items.items;
      further : l.at ≤ l.from;
    }

abbrev pub decreases-loop-next : goal.decreases-loop-next
decreases-loop-next g l = length l.tokens.items.items - l.from
