-- What the loop of `many_beside` keeps.
use Rattle.std.proofs.Common.{◌≤◌, length, drop}
use Rattle.value_forms.specs.Counts.{Counts}
use Rattle.space_forms.specs.Spaces.{ways, beside}
use Rattle.space_forms.proofs.record_sets.many_beside.Given as goal

abbrev pub invariant-loop-i : goal.invariant-loop-i
invariant-loop-i l = record { in_range : l.i ≤ length l.domain; many : Counts l.many (ways (beside l.keys l.sets (drop l.i l.domain))) }

abbrev pub decreases-loop-i : goal.decreases-loop-i
decreases-loop-i l = l.i
