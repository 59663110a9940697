-- What the loop keeps: the items so far, and the pool that grows.
use Rattle.std.proofs.Common.{◌≤◌, ◌<◌, ◌-◌, length}
use Rattle.tla_tree.specs.Pool.{Keeps}
use Rattle.expr_lists.proofs.ReadBullets.{BulletsSoFar}
use Rattle.expr_lists.proofs.read_bullets.bullets.Given as goal

abbrev pub invariant-loop-boxes : goal.invariant-loop-boxes
invariant-loop-boxes g l =
    record {
      row : BulletsSoFar l.s.linked l.tokens l.pool l.s.left l.left l.s.edge l.op l.col l.s.at l.at l.id l.first l.boxes l.nesting (l.s.left - l.left);
      kept : Keeps l.fn.pool l.pool;
      left : l.left < l.s.left;
      small : l.nesting ≤ l.s.left;
      inside : l.at ≤ length l.tokens.items.items;
      further : l.s.at ≤ l.at;
    }

abbrev pub decreases-loop-boxes : goal.decreases-loop-boxes
decreases-loop-boxes g l = l.left
