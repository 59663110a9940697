-- What the loop keeps: the procedures so far, and the pool that grows.
use Rattle.std.proofs.Common.{ℕ, ◌≤◌, ◌-◌, length, map}
use Rattle.tla_tree.specs.Pool.{Keeps}
use Rattle.pcal_tree.specs.InMemory.{procedure_at, past_procedure}
use Rattle.pcal_tree.specs.Grammar.{procedure_tree}
use Rattle.syntax_reading.specs.ReadRoutines as reader
use Rattle.algorithm_reader.specs.PartsRead.{parts_in, Enough}
use Rattle.algorithm_reader.proofs.Gathered.{InPool}
use Rattle.algorithm_reader.proofs.procedures.read_procedures.Given as goal

abbrev pub invariant-loop-next : goal.invariant-loop-next
invariant-loop-next g l =
    record {
      in_pool : (n : ℕ) → Enough l.tokens l.at n → InPool (reader.read_procedures (parts_in l.tokens) (g.W.Ways.readers (parts_in l.tokens))) (map procedure_tree) procedure_at past_procedure l.tokens l.pool n l.at l.from l.list.items;
      kept : Keeps l.fn.pool l.pool;
      inside : l.from ≤ length l.tokens.items.items;
      further : l.at ≤ l.from;
    }

abbrev pub decreases-loop-next : goal.decreases-loop-next
decreases-loop-next g l = length l.tokens.items.items - l.from
