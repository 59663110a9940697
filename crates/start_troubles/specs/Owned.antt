-- Whose the variables of a routine are: functions of the identifiers of these processes, or plain, of the first of them.
use Rattle.std.specs.Prelude.{◌≡◌, List, [], ◌∷◌, Bool, true, false}
use Rattle.tla_value.specs.Order.{IsAscending}
use Rattle.tla_value.specs.Value.{values_in}
use Rattle.pcal_tree.specs.Program.{Program, Actor}
use Rattle.action_builder.specs.laws.WrittenScope.{written_scope}
use Rattle.step_moves.specs.ScopeIn.{scope_in}
use Rattle.step_meaning.specs.Identified.{HaveThese}
use Rattle.start_troubles.specs.declared.locals.Owners.{Owners}
use Rattle.start_troubles.specs.declared.locals.Owners.TheVariants as owners

-- the identifiers ascend
abbrev pub IsOrdered : Owners → Type 0
IsOrdered (owners.Each ids) = IsAscending (values_in ids.now)
IsOrdered (owners.First bound) = Unit {0}

abbrev pub AreOf : Program → Owners → Bool → List Actor → Type 0
AreOf P (owners.Each ids) true vs = HaveThese vs ids.now
AreOf P (owners.First bound) false (v ∷ vs) = written_scope P [] v ≡ scope_in P bound.now.names.items bound.now.values.items
AreOf P _ _ _ = ⊥
