-- What the loop of `elements` keeps.
use Rattle.std.proofs.Common.{◌≡◌, drop}
use Rattle.tla_value.specs.Value.{in_order}
use Rattle.tla_value.specs.Limits.{bounded}
use Rattle.tla_value.specs.Standard.{element}
use Rattle.value_forms.proofs.StopLaws.{behind}
use Rattle.function_forms.proofs.parts.elements.Given as goal

abbrev pub invariant-loop-i : goal.invariant-loop-i
invariant-loop-i l =
    behind l.all.items (in_order (element bounded l.at l.s l.m) (drop l.i-index l.places)) ≡ in_order (element bounded l.at l.s l.m) l.places
