-- What the loop of `add_fronted` keeps.
use Rattle.std.proofs.Common.{◌≡◌, ◌++◌, ◌∷◌, map, take}
use Rattle.space_forms.proofs.rows.add_fronted.Given as goal

abbrev pub invariant-loop-row : goal.invariant-loop-row
invariant-loop-row l = l.all.items ≡ l.fn.all.items ++ map (λ r. l.v ∷ r) (take l.row-index l.rows)
