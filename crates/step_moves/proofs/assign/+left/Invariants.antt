-- A left side is younger than its head.
use Rattle.std.proofs.Common.{◌+◌}
use Rattle.step_moves.proofs.assign.+left.Given as goal

abbrev pub decreases-left : goal.decreases-left
decreases-left l = l.e + l.e + 1

abbrev pub decreases-subscripted : goal.decreases-subscripted
decreases-subscripted l = l.e + l.e
