-- What the loop keeps: the left side so far, and the pool that grows.
use Rattle.std.proofs.Common.{ℕ, ◌<◌, ◌≤◌, ◌-◌, length}
use Rattle.tla_tree.specs.Pool.{Keeps}
use Rattle.tla_tree.specs.Spelling.{Phrase}
use Rattle.expr_nodes.specs.Ahead.{ahead}
use Rattle.syntax_reading.specs.ReadSimple.{read_left}
use Rattle.algorithm_reader.specs.PartsRead.{parts_in, Enough}
use Rattle.algorithm_reader.specs.SimpleRead.{LeftStands}
use Rattle.algorithm_reader.proofs.LeftSides.{LeftSoFar}
use Rattle.algorithm_reader.proofs.left.links.Given as goal

abbrev pub invariant-loop-longer : goal.invariant-loop-longer
invariant-loop-longer l =
    record {
      read : (a : Phrase) → LeftStands l.place l.fn.pool l.left a → (n : ℕ) → Enough l.tokens l.at n → LeftSoFar (parts_in l.tokens) l.tokens l.place l.pool l.so_far l.from (read_left (parts_in l.tokens) n a (ahead l.tokens l.at));
      kept : Keeps l.fn.pool l.pool;
      within : l.so_far < length l.pool;
      inside : l.from ≤ length l.tokens.items.items;
      further : l.at ≤ l.from;
    }

abbrev pub decreases-loop-longer : goal.decreases-loop-longer
decreases-loop-longer l = length l.tokens.items.items - l.from
