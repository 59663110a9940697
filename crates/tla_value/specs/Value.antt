-- Values, and what an expression gives: a value, a fault, or a value past the limits ("Specifying Systems", section 16.1).
use Rattle.std.specs.Prelude.{◌≡◌, ◌↔◌, ℤ, Bool, true, false, ◌||◌, List, [], ◌∷◌, Result, Ok, Err}
use Rattle.tla_token.specs.declared.place.Place.{Place}
use Rattle.tla_tree.specs.Tree.{Word}
use Rattle.tla_value.specs.declared.fault.FaultKind.{FaultKind}

mutual
  pub data Value : Type 0 where
    truth : Bool → Value
    int : ℤ → Value
    text : Word → Value  -- a string
    model : Word → Value  -- a model value, by its name
    set : Values → Value  -- its members in canonical order, each once
    fun : Values → Values → Value  -- its domain in canonical order, and the value at each member

  pub data Values : Type 0 where
    no_values : Values
    and : Value → Values → Values

abbrev pub values_in : List Value → Values
values_in [] = no_values
values_in (v ∷ vs) = and v (values_in vs)

-- ---- results

-- why there is no result: a fault, or a value past the limits that is reached at a place
pub data Trouble : Type 0 where
  fault : FaultKind → Place → Trouble
  over : Place → Trouble

-- a result, or why there is none
abbrev pub Outcome : Type 0 → Type 0
Outcome X = Result X Trouble

infixl 10 ◌>>=◌
abbrev pub ◌>>=◌ : {X Y : Type 0} → Outcome X → (X → Outcome Y) → Outcome Y
(Ok x) >>= go = go x
(Err k) >>= go = Err k

-- what go makes of each, from left to right
abbrev pub in_order : {X Y : Type 0} → (X → Outcome Y) → List X → Outcome (List Y)
in_order go [] = Ok []
in_order go (x ∷ xs) = do
  y ← go x
  ys ← in_order go xs
  Ok (y ∷ ys)

-- stops at the first that isn't true
abbrev pub and_then : Outcome Bool → Outcome Bool → Outcome Bool
and_then (Ok true) w = w
and_then v w = v

-- visits both
abbrev pub or_all : Outcome Bool → Outcome Bool → Outcome Bool
or_all v w = v >>= λ a. w >>= λ b. Ok (a || b)

-- a truth value, never a trouble, and true exactly where P
abbrev pub TrueExactly : Outcome Bool → Type 0 → Type 0
TrueExactly v P = (b : Bool) × (v ≡ Ok b) × (b ≡ true ↔ P)

-- no result
abbrev pub IsBad : {X : Type 0} → Outcome X → Type 0
IsBad (Ok x) = ⊥
IsBad (Err k) = Unit {0}

-- true, or no result
abbrev pub NotFalse : Outcome Bool → Type 0
NotFalse (Ok true) = Unit {0}
NotFalse (Ok false) = ⊥
NotFalse (Err k) = Unit {0}

-- ---- of an expression

-- an outcome, and what it is to test a value for being a member of it: some sets are tested without being listed
pub record Sense : Type 0 where
  pub value : Outcome Value
  pub test : Place → Value → Outcome Bool  -- at the place of the `\in`, of the value to its left
