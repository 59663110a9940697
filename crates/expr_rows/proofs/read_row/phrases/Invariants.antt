-- What the loop keeps: the row so far, and the pool that grows.
use Rattle.std.proofs.Common.{◌≤◌, ◌-◌, length}
use Rattle.tla_tree.specs.Pool.{Keeps}
use Rattle.expr_rows.proofs.ReadRows.{RowSoFar}
use Rattle.expr_rows.proofs.read_row.phrases.Given as goal

abbrev pub invariant-loop-from : goal.invariant-loop-from
invariant-loop-from g l =
    record {
      row : RowSoFar l.s.linked l.tokens l.pool l.s.left l.s.edge l.s.at l.at l.ids.items l.first.shape.start l.nesting;
      kept : Keeps l.fn.pool l.pool;
      some : 1 ≤ length l.ids.items;
      small : l.nesting ≤ l.s.left;
      inside : l.at ≤ length l.tokens.items.items;
      further : l.s.at ≤ l.at;
    }

abbrev pub decreases-loop-from : goal.decreases-loop-from
decreases-loop-from g l = length l.tokens.items.items - l.at
