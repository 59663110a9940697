-- What the names of a `with` bind, one after another.
use Rattle.std.specs.Prelude.{◌≡◌, length, take, Ok, Err, Result}
use Rattle.tla_tree.specs.Tree.{Word}
use Rattle.pcal_tree.specs.declared.algorithm.Bind.{Bind}
use Rattle.pcal_tree.specs.declared.algorithm.Bind.TheVariants as bind
use Rattle.pcal_tree.specs.Scope.{State}
use Rattle.step_walks.specs.Flows.{Flow}
use Rattle.step_choices.specs.declared.pause.Pause.{Pause}
use Rattle.step_choices.specs.Pauses.{Pauses}
use Rattle.step_flow.specs.declared.going.Going.{Going}

abbrev pub bind_name : Bind → Word
bind_name (bind.Among x e) = x.word
bind_name (bind.Is x e) = x.word

-- what comes of the whole is what comes of this, for an answer, or it pauses
abbrev pub Leads : {X : Type 0} → Result X Pause → (X → Flow State) → Flow State → Type 0
Leads (Ok x) go f = f ≡ go x
Leads (Err p) go f = Pauses p f

-- those that were bound before are the first that are bound
pub record StillBound (g h : Going) : Type 0 where
  pub names : take (length g.bound.names.items) h.bound.names.items ≡ g.bound.names.items
  pub values : take (length g.bound.values.items) h.bound.values.items ≡ g.bound.values.items
