-- A start by choices of which some are left over isn't made.
use Rattle.std.proofs.Common.{◌≡◌, ℕ, ◌<◌, List, length, drop, ap, ◌∙◌}
use Rattle.std.proofs.lemmas.List.{drop_more}
use Rattle.tla_token.specs.declared.place.Place.{Place}
use Rattle.pcal_tree.specs.Scope.{State}
use Rattle.pcal_tree.specs.Choices.{went}
use Rattle.pcal_tree.specs.StepAnswers.{Reply, too_many_choices, replied}
use Rattle.step_walks.specs.Flows.{Flow, falls, finish}

module _ (at : Place) where
  -- the reply of a start that comes to this
  abbrev pub start_reply : Flow State → Reply State
  start_reply f = replied (λ s. s) at (finish f went)

  pub left_over : (f : Flow State) (t : State) (used : ℕ) (ns : List ℕ) → f ≡ falls t (drop used ns) → used < length ns → start_reply f ≡ too_many_choices at
  left_over f t used ns e less = ap start_reply (e ∙ ap (falls t) (drop_more ns used 0 less))
