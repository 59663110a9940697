-- Why the calls that measure an expression end, and what their loop keeps.
use Rattle.std.proofs.Common.{◌≡◌, ◌+◌, ◌*◌, ◌≤◌, [], List, drop}
use Rattle.tla_tree.specs.Tree.{Word, seen_names}
use Rattle.tla_tree.specs.Pool.{trees_at}
use Rattle.tla_pool.specs.FormOf.{form_of}
use Rattle.tla_value.specs.DefinitionNesting.{depths}
use Rattle.tla_value.specs.StandardModules.{is_member}
use Rattle.module_tree.specs.Outside as pure
use Rattle.outside_reading.specs.TreeDepth.{trees_depth}
use Rattle.algorithm_limits.specs.DepthsIn.{seen_by, Hides}
use Rattle.module_outside.specs.SightIn.{Sees, Binds}
use Rattle.module_outside.proofs.DepthLaws.{joined}
use Rattle.module_outside.proofs.depth.+tree_depth.Given as goal

abbrev pub decreases-tree_depth : goal.decreases-tree_depth
decreases-tree_depth l = 2 * l.e + 1

abbrev pub decreases-parts_depth : goal.decreases-parts_depth
decreases-parts_depth l = 2 * l.past

abbrev pub invariant-parts_depth-loop-i : goal.invariant-parts_depth-loop-i
invariant-parts_depth-loop-i l = record {
  small : l.deepest ≤ 501;
  bound : Hides l.fn.bound l.bound (seen_by (form_of l.form) l.i);
  depth : (v : pure.Sight) (bs : List Word) → Sees l.sight v → Binds l.fn.bound bs
      → joined l.deepest (trees_depth v (depths [] v.earlier) bs (drop l.i (seen_names (form_of l.form))) (is_member (form_of l.form)) (trees_at l.pool (drop l.i l.parts)))
      ≡ trees_depth v (depths [] v.earlier) bs (seen_names (form_of l.form)) (is_member (form_of l.form)) (trees_at l.pool l.parts);
}
