-- Worked rows: an `either` of two branches, the second one empty, by some lists of choices; and a `with` over two members.
use Rattle.std.proofs.Common.{◌≡◌, [], ◌∷◌, refl}
use Rattle.tla_token.specs.declared.place.Place.{Place}
use Rattle.tla_value.specs.Value.{Value, no_values, and}
use Rattle.pcal_tree.specs.Algorithm.{Span, Statements, skip, either, done, then, or, no_branches}
use Rattle.pcal_tree.specs.Scope.{State, Scope}
use Rattle.pcal_tree.specs.Run.{Rules, no_partner}
use Rattle.pcal_tree.specs.Choices.{blocked, wanting}
use Rattle.step_walks.specs.Flows.{falls, halts, chosen}
use Rattle.step_walks.specs.StepFlows.{flow}

module _ (M : Rules) (sp : Span) (sc : Scope) (s : State) where
  abbrev two : Statements
  two = then sp (either (or (then sp skip done) (or done no_branches))) done

  first_branch : flow M [] two sc [] no_partner s (1 ∷ 7 ∷ []) ≡ falls s (7 ∷ [])
  first_branch = refl

  second_branch : flow M [] two sc [] no_partner s (2 ∷ []) ≡ falls s []
  second_branch = refl

  none_left : flow M [] two sc [] no_partner s [] ≡ halts (wanting 2 sp.first)
  none_left = refl

  no_such_branch : flow M [] two sc [] no_partner s (3 ∷ []) ≡ halts (wanting 2 sp.first)
  no_such_branch = refl

module _ (p : Place) (v w : Value) where
  second_member : chosen p (and v (and w no_values)) (2 ∷ 5 ∷ []) falls ≡ falls w (5 ∷ [])
  second_member = refl

  no_member : chosen p no_values (1 ∷ []) falls ≡ halts (blocked p)
  no_member = refl
