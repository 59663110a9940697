-- Why the calls that go through an expression end, and what their loop keeps: those that were passed are made.
use Rattle.std.proofs.Common.{◌+◌, ◌*◌, take}
use Rattle.tla_tree.specs.Tree.{size, sizes, graft, grafts}
use Rattle.tla_tree.specs.Pool.{at, trees_at, Keeps}
use Rattle.pcal_tree.specs.InMemory.{past_number}
use Rattle.expansion_size.specs.FramesIn.{put_by, calls_around}
use Rattle.macro_arguments.proofs.Lists.{MadeOf, put}
use Rattle.macro_arguments.proofs.expressions.+trees.Given as goal

abbrev pub decreases-expression : goal.decreases-expression
decreases-expression l = 2 * (size (graft (put_by l.pool.now l.frames.now) (at l.pool.now l.e)) + calls_around l.frames.now)

abbrev pub decreases-expressions : goal.decreases-expressions
decreases-expressions l = 2 * (sizes (grafts (put_by l.pool.now l.frames.now) (trees_at l.pool.now l.list.now)) + calls_around l.frames.now) + 1

abbrev pub invariant-expressions-loop-i : goal.invariant-expressions-loop-i
invariant-expressions-loop-i l = Keeps l.fn.pool l.pool × MadeOf past_number at (put (put_by l.fn.pool l.frames) l.fn.pool) l.pool l.made.items (take l.i l.list)
