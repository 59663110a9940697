-- What the loop keeps: the path so far, and the pool that grows.
use Rattle.std.proofs.Common.{◌≤◌, ◌-◌, length, Some}
use Rattle.tla_pool.specs.FormOf.{steps_of}
use Rattle.tla_tree.specs.Pool.{Keeps}
use Rattle.tla_tree.specs.Whole.{whole_in}
use Rattle.expr_nodes.specs.Ahead.{ahead}
use Rattle.expr_lists.proofs.ReadPaths.{PathSoFar}
use Rattle.expr_lists.proofs.read_path.path.Given as goal

abbrev pub invariant-loop-from : goal.invariant-loop-from
invariant-loop-from g l =
    record {
      path : PathSoFar l.s.linked l.tokens l.pool l.s.left l.s.edge l.at (steps_of l.route.steps.items) l.route.ids.items l.route.nesting ((whole_in l.s.linked (Some l.s.left)).path l.s.edge (ahead l.tokens l.s.at));
      kept : Keeps l.fn.pool l.pool;
      small : l.route.nesting ≤ l.s.left;
      inside : l.at ≤ length l.tokens.items.items;
      further : l.s.at ≤ l.at;
    }

abbrev pub decreases-loop-from : goal.decreases-loop-from
decreases-loop-from g l = length l.tokens.items.items - l.at
