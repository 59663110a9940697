-- Parts of variables in memory, and left sides.
use Rattle.std.specs.Prelude.{◌≡◌, Err}
use Rattle.tla_token.specs.Places.{nowhere}
use Rattle.tla_token.specs.declared.place.Place.{Place}
use Rattle.tla_tree.specs.Tree.{apply, select, Form, name, strict, Tree, node}
use Rattle.tla_value.specs.declared.fault.FaultKind.TheVariants.{NotFunction}
use Rattle.tla_value.specs.Value.{fault}
use Rattle.tla_value.specs.Limits.{bounded}
use Rattle.pcal_tree.specs.Scope as pure
use Rattle.pcal_tree.specs.Scope.{State, Scope, Reach, reach_form, reach_path}
use Rattle.step_moves.specs.declared.assign.Part.{Part}
use Rattle.step_moves.specs.declared.assign.Side.{Side}
use Rattle.step_moves.specs.declared.assign.Side.TheVariants as side

abbrev pub part_of : Part → pure.Part
part_of p = record { variable = p.variable.now; path = p.path.items }

abbrev pub IsSide : Side → Form → Type 0
IsSide (side.Whole x) m = m ≡ name x.now
IsSide side.Subscripted m = m ≡ strict apply
IsSide (side.Field a) m = m ≡ strict (select a.now)
IsSide side.Neither m = (at : Place) (r : Reach) (sc : Scope) (s : State) → reach_form m at r sc s ≡ Err (fault NotFunction nowhere)

-- the part after the subscripts of a tree, whose first part is a left side
abbrev pub reached_path : Tree → Reach
reached_path (node m at ts) = reach_path bounded at ts
