-- What is kept: the slots and the parts of the assignments that were passed.
use Rattle.std.proofs.Common.{take}
use Rattle.tla_pool.specs.FormOf.{slots_of}
use Rattle.right_sides.proofs.SideLaws.{Made}
use Rattle.right_sides.proofs.sides.except.Given as goal

abbrev pub invariant-loop-one : goal.invariant-loop-one
invariant-loop-one l = Made l.pool l.whole (slots_of l.slots.items) l.parts.items (take l.one-index l.group)
