-- Why the calls that measure how deep an expression nests end, and what their loop keeps.
use Rattle.std.proofs.Common.{◌≡◌, ◌+◌, ◌*◌, ◌≤◌, max, min, drop}
use Rattle.tla_tree.specs.Pool.{trees_at}
use Rattle.tla_pool.specs.FormOf.{form_of}
use Rattle.tla_value.specs.DefinitionNesting.{Depths}
use Rattle.algorithm_limits.specs.DepthsIn.{AreDepths, seen_by, nest_from, Hides}
use Rattle.region_depth.proofs.definitions.+nests.Given as goal

abbrev pub decreases-nests : goal.decreases-nests
decreases-nests l = 2 * l.most

abbrev pub decreases-parts_nest : goal.decreases-parts_nest
decreases-parts_nest l = 2 * l.most + 1

abbrev pub invariant-parts_nest-loop-i : goal.invariant-parts_nest-loop-i
invariant-parts_nest-loop-i l = record {
  small : l.deepest ≤ l.most + 1;
  bound : Hides l.fn.bound l.bound (seen_by (form_of l.form) l.i);
  depth : (ds : Depths) → AreDepths 1201 l.depths l.fn.bound ds → min (l.most + 1) (max l.deepest (nest_from (form_of l.form) l.i (trees_at l.pool (drop l.i l.parts)) ds)) ≡ min (l.most + 1) (nest_from (form_of l.form) 0 (trees_at l.pool l.parts) ds);
}
