-- What the loop of `sets_of` keeps.
use Rattle.std.proofs.Common.{◌≡◌, map, take}
use Rattle.space_forms.specs.SubLists.{row_set}
use Rattle.space_forms.proofs.subsets.sets_of.Given as goal

abbrev pub invariant-loop-row : goal.invariant-loop-row
invariant-loop-row l = l.all.items ≡ map row_set (take l.row-index l.rows)
