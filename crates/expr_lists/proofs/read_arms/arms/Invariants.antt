-- What the loop keeps: the arms so far, and the pool that grows.
use Rattle.std.proofs.Common.{◌≤◌, ◌-◌, length}
use Rattle.tla_tree.specs.Pool.{Keeps}
use Rattle.tla_tree.specs.Shapes.{IsPaired}
use Rattle.expr_lists.proofs.ReadArms.{ArmsSoFar}
use Rattle.expr_lists.proofs.read_arms.arms.Given as goal

abbrev pub invariant-loop-from : goal.invariant-loop-from
invariant-loop-from g l =
    record {
      row : ArmsSoFar l.s.linked l.tokens l.pool l.s.left l.s.edge l.s.at l.at l.ids.items l.nesting l.last;
      kept : Keeps l.fn.pool l.pool;
      paired : IsPaired (length l.ids.items);
      small : l.nesting ≤ l.s.left;
      inside : l.at ≤ length l.tokens.items.items;
      further : l.s.at ≤ l.at;
    }

abbrev pub decreases-loop-from : goal.decreases-loop-from
decreases-loop-from g l = length l.tokens.items.items - l.at
