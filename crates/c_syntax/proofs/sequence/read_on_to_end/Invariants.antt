-- What the loop keeps: the run from the state so far on is the whole, and the pool that grows.
use Rattle.std.proofs.Common.{ℕ, ◌≤◌, ◌-◌, length}
use Rattle.tla_tree.specs.Pool.{Keeps}
use Rattle.expr_nodes.specs.Ahead.{ahead}
use Rattle.algorithm_reader.specs.PartsRead.{parts_in, Enough}
use Rattle.c_reading.specs.ReadStatements as reader
use Rattle.c_syntax.specs.StatesRead.{StateStands}
use Rattle.c_syntax.proofs.Sequences.{RunsOn}
use Rattle.c_syntax.proofs.sequence.read_on_to_end.Given as goal

abbrev pub invariant-loop-turn : goal.invariant-loop-turn
invariant-loop-turn l =
    record {
      run : (n : ℕ) (s : reader.State) → Enough l.tokens l.at n → StateStands l.fn.pool l.fn.state s → RunsOn l.tokens l.pool l.state l.from (reader.run (parts_in l.tokens) n s (ahead l.tokens l.at));
      kept : Keeps l.fn.pool l.pool;
      inside : l.from ≤ length l.tokens.items.items;
      further : l.at ≤ l.from;
    }

abbrev pub decreases-loop-turn : goal.decreases-loop-turn
decreases-loop-turn l = length l.tokens.items.items - l.from
