-- What the loop of `all_on` keeps.
use Rattle.std.proofs.Common.{◌≡◌, map, take}
use Rattle.tla_value.specs.Value.{fun, values_in}
use Rattle.space_forms.proofs.spaces.all_on.Given as goal

abbrev pub invariant-loop-row : goal.invariant-loop-row
invariant-loop-row l = l.all.items ≡ map (λ t. fun (values_in l.domain) (values_in t)) (take l.row-index l.rows)
