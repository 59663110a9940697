-- What the loop of `sub_rows` keeps.
use Rattle.std.proofs.Common.{◌≡◌, ◌≤◌, length, drop}
use Rattle.space_forms.specs.SubLists.{sub_lists}
use Rattle.space_forms.proofs.subsets.sub_rows.Given as goal

abbrev pub invariant-loop-i : goal.invariant-loop-i
invariant-loop-i l = record { in_range : l.i ≤ length l.members; rows : l.rows.items ≡ sub_lists (drop l.i l.members) }

abbrev pub decreases-loop-i : goal.decreases-loop-i
decreases-loop-i l = l.i
