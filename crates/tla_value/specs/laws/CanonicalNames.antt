-- Names that stand for values in canonical order, and what such values can't tell apart ("Specifying Systems", sections 16.1.6 to 16.1.10).
use Rattle.std.specs.Prelude.{◌≡◌, List, Ok, Err}
use Rattle.tla_token.specs.declared.place.Place.{Place}
use Rattle.tla_tree.specs.Tree.{Word}
use Rattle.tla_value.specs.Value.{Value, Outcome, Sense, values_in}
use Rattle.tla_value.specs.Order.{IsCanonical, AreCanonical}
use Rattle.tla_value.specs.Stops.{Check}
use Rattle.tla_value.specs.Meaning.{Env, just, called}

-- the result, if there is one, has the property
abbrev pub Has : {X : Type 0} → (X → Type 0) → Outcome X → Type 0
Has P (Ok x) = P x
Has P (Err k) = Unit {0}

-- a value, if there is one, is canonical
abbrev pub Proper : Outcome Value → Type 0
Proper = Has IsCanonical

-- what a check makes of canonical values is canonical
abbrev pub Keeping : Check → Type 0
Keeping c = (at : Place) (v : Value) → IsCanonical v → Proper (c at v)

-- names stand for canonical values, and operators give them
pub record Sound (e : Env) : Type 0 where
  pub now : (x : Word) (at : Place) → Proper (e.now x at).value
  pub primed : (x : Word) (at : Place) → Proper (e.primed x at).value
  pub defs : (x : Word) (at : Place) (vs : List Value) → AreCanonical (values_in vs) → Proper (called at (e.defs x) vs).value

-- one value, or one trouble, and one answer for each canonical value that is tested for being a member
pub record MeansAlike (s t : Sense) : Type 0 where
  pub value : s.value ≡ t.value
  pub test : (p : Place) (v : Value) → IsCanonical v → s.test p v ≡ t.test p v

-- names and operators that have a value are tested by its members
pub record TestsByValue (e : Env) : Type 0 where
  pub now : (x : Word) (at : Place) (v : Value) → (e.now x at).value ≡ Ok v → MeansAlike (e.now x at) (just v)
  pub primed : (x : Word) (at : Place) (v : Value) → (e.primed x at).value ≡ Ok v → MeansAlike (e.primed x at) (just v)
  pub defs : (x : Word) (at : Place) (vs : List Value) → AreCanonical (values_in vs) → (v : Value) → (called at (e.defs x) vs).value ≡ Ok v → MeansAlike (called at (e.defs x) vs) (just v)
