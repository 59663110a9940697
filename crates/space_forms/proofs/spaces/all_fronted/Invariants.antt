-- What the loop of `all_fronted` keeps.
use Rattle.std.proofs.Common.{◌≡◌, take}
use Rattle.space_forms.specs.Spaces.{fronted_rows}
use Rattle.space_forms.proofs.spaces.all_fronted.Given as goal

abbrev pub invariant-loop-w : goal.invariant-loop-w
invariant-loop-w l = l.all.items ≡ fronted_rows (take l.w-index l.members) l.rows
