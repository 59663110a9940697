-- What is kept: the variables of the groups that were passed are in.
use Rattle.std.proofs.Common.{take}
use Rattle.right_sides.proofs.StatementLaws.{AreIn}
use Rattle.right_sides.proofs.groups.variables.Given as goal

abbrev pub invariant-loop-number : goal.invariant-loop-number
invariant-loop-number l = AreIn l.order l.names (take l.number l.groups.entries)
