-- What the loop of `rows_beside` keeps.
use Rattle.std.proofs.Common.{◌≡◌, ◌≤◌, length, drop, map}
use Rattle.tla_value.specs.Value.{values_in}
use Rattle.tla_value.specs.Sets.{choices}
use Rattle.space_forms.specs.Spaces.{beside}
use Rattle.space_forms.proofs.record_sets.rows_beside.Given as goal

abbrev pub invariant-loop-i : goal.invariant-loop-i
invariant-loop-i l = record { in_range : l.i ≤ length l.domain; rows : map values_in l.rows.items ≡ choices (beside l.keys l.sets (drop l.i l.domain)) }

abbrev pub decreases-loop-i : goal.decreases-loop-i
decreases-loop-i l = l.i
