-- What is kept: the assignments that were passed are grouped.
use Rattle.std.proofs.Common.{take}
use Rattle.right_sides.proofs.GroupLaws.{GroupedTo}
use Rattle.right_sides.proofs.groups.grouped.Given as goal

abbrev pub invariant-loop-one : goal.invariant-loop-one
invariant-loop-one l = GroupedTo l.pool l.groups.entries (take l.one-index l.assignments)
