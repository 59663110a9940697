-- What is kept: those that were passed are made.
use Rattle.std.proofs.Common.{take}
use Rattle.tla_tree.specs.Pool.{Keeps}
use Rattle.pcal_tree.specs.InMemory.{past_assignment}
use Rattle.expansion_size.specs.FramesIn.{put_by}
use Rattle.macro_arguments.specs.Expressions.{assignment_put}
use Rattle.macro_arguments.proofs.Lists.{MadeOf, assignment_at}
use Rattle.expansion.proofs.parts.assignments.Given as goal

abbrev pub invariant-loop-one : goal.invariant-loop-one
invariant-loop-one l = Keeps l.fn.pool l.pool × MadeOf past_assignment assignment_at (assignment_put (put_by l.fn.pool l.frames) l.fn.pool) l.pool l.made.items (take l.one-index l.list)
