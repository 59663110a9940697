-- What limits change: an outcome is that without them, or past one.
use Rattle.std.specs.Prelude.{◌≡◌, List, Ok, Err}
use Rattle.tla_token.specs.declared.place.Place.{Place}
use Rattle.tla_tree.specs.Tree.{Word}
use Rattle.tla_value.specs.Value.{Value, Outcome, fault, over, Sense}
use Rattle.tla_value.specs.Meaning.{Env, called}

-- o is o', or passed a limit
abbrev pub Below : {X : Type 0} → Outcome X → Outcome X → Type 0
Below (Ok x) o' = Ok x ≡ o'
Below (Err (fault k p)) o' = Err (fault k p) ≡ o'
Below (Err (over p)) o' = Unit {0}

pub record SensesBelow (s s' : Sense) : Type 0 where
  pub value : Below s.value s'.value
  pub test : (p : Place) (v : Value) → Below (s.test p v) (s'.test p v)

-- so is what the names and operators of the environments give
pub record EnvsBelow (e e' : Env) : Type 0 where
  pub now : (x : Word) (at : Place) → SensesBelow (e.now x at) (e'.now x at)
  pub primed : (x : Word) (at : Place) → SensesBelow (e.primed x at) (e'.primed x at)
  pub defs : (x : Word) (at : Place) (vs : List Value) → SensesBelow (called at (e.defs x) vs) (called at (e'.defs x) vs)
