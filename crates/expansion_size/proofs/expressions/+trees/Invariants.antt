-- Why the calls that go through an expression end, and what their loop keeps: what is left of the parts still gives the whole.
use Rattle.std.proofs.Common.{◌≡◌, ◌+◌, ◌*◌, drop}
use Rattle.tla_tree.specs.Tree.{grafts}
use Rattle.tla_tree.specs.Pool.{trees_at}
use Rattle.expansion_size.specs.FramesIn.{put_by, calls_around}
use Rattle.expansion_size.specs.TreesSpent.{lengths, parts_spent}
use Rattle.expansion_size.proofs.expressions.+trees.Given as goal

abbrev pub decreases-expression : goal.decreases-expression
decreases-expression l = 2 * (calls_around l.frames.now + l.depth) + 1

abbrev pub decreases-parts : goal.decreases-parts
decreases-parts l = 2 * (calls_around l.frames.now + l.depth)

abbrev pub invariant-parts-loop-i : goal.invariant-parts-loop-i
invariant-parts-loop-i l =
    parts_spent l.weight l.depth (drop l.i (lengths l.groups)) (grafts (put_by l.pool l.frames) (trees_at l.pool (drop l.i l.parts))) l.so_far
    ≡ parts_spent l.weight l.depth (lengths l.groups) (grafts (put_by l.pool l.frames) (trees_at l.pool l.parts)) l.fn.left
