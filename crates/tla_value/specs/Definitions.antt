-- The names that an expression finds outside its binders: constants, variables, standard operators, and definitions ("Specifying Systems", section 17.3).
use Rattle.std.specs.Prelude.{Bool, cond, bytes_eq, List, [], ◌∷◌, Option, Some, None, Ok, Err}
use Rattle.tla_token.specs.declared.place.Place.{Place}
use Rattle.tla_tree.specs.Tree.{Word, Tree}
use Rattle.tla_value.specs.Value.{Value, Outcome, Trouble, fault, over, Sense}
use Rattle.tla_value.specs.Stops.{Check, misshapen, sense_of}
use Rattle.tla_value.specs.Meaning.{Env, just, bind, eval}
use Rattle.tla_value.specs.Standard.{standard_of, standard_called, standard_name}

-- values of names
abbrev pub Valuation : Type 0
Valuation = Word → Option Value

pub record Definition : Type 0 where
  pub title : Word
  pub params : List Word
  pub body : Tree
  pub outside : Bool  -- it is in the module, outside the algorithm

abbrev pub or_sense : Option Value → Sense → Sense
or_sense (Some v) other = just v
or_sense None other = other

-- constants, and what the standard modules define
abbrev pub base : Check → Valuation → Env
base c constants = record {
  now = λ x at. or_sense (constants x) (standard_name x at);
  primed = λ x at. sense_of (misshapen at);
  defs = λ f. standard_called c (standard_of f);
}

-- variables in a state, and primed in the next one
abbrev pub in_states : Valuation → Valuation → Env → Env
in_states s t env = record env {
  now = λ x at. or_sense (s x) (env.now x at);
  primed = λ x at. or_sense (t x) (env.primed x at);
}

abbrev pub no_state : Valuation
no_state x = None

abbrev pub trouble_at : Place → Trouble → Trouble
trouble_at at (fault k p) = fault k at
trouble_at at (over p) = over at

-- what stops in the body of an outside definition stops at its use: the body is no expression of the algorithm
abbrev pub at_use : Bool → Place → Outcome Value → Outcome Value
at_use outside at (Ok v) = Ok v
at_use outside at (Err k) = Err (cond outside (trouble_at at k) k)

-- a value for each parameter
abbrev pub with_arguments : List Word → List Value → Env → Option Env
with_arguments [] [] env = Some env
with_arguments (x ∷ xs) (v ∷ vs) env = with_arguments xs vs (bind x v env)
with_arguments _ _ env = None

-- a body where its definition is used
abbrev pub body_sense : Check → Definition → Option Env → Place → Sense
body_sense c d (Some env) at = sense_of (at_use d.outside at (eval c d.body env).value)
body_sense c d None at = sense_of (misshapen at)

abbrev pub defined : Check → Definition → List Word → Env → Env
defined c d [] env = record env { now = λ x at. cond (bytes_eq d.title x) (body_sense c d (Some env) at) (env.now x at) }
defined c d (p ∷ ps) env = record env {
  defs = λ f. cond (bytes_eq d.title f) (Some (λ at vs. body_sense c d (with_arguments (p ∷ ps) vs env) at)) (env.defs f);
}

-- each definition sees those before it
abbrev pub with_definitions : Check → List Definition → Env → Env
with_definitions c [] env = env
with_definitions c (d ∷ ds) env = with_definitions c ds (defined c d d.params env)

-- where expressions of the algorithm are evaluated, in a state and the next one
abbrev pub scope_of : Check → Valuation → List Definition → Valuation → Valuation → Env
scope_of c constants ds s t = with_definitions c ds (in_states s t (base c constants))

-- a step half done: the names of A have their next values already
abbrev pub mid : (Word → Bool) → Valuation → Valuation → Valuation
mid A s t x = cond (A x) (t x) (s x)
