-- What names stand for in the scopes of which the laws speak.
use Rattle.std.specs.Prelude.{◌≡◌, List, [], ◌∷◌, Bool, true, cond, Ok}
use Rattle.tla_token.specs.declared.place.Place.{Place}
use Rattle.tla_tree.specs.Tree.{Word}
use Rattle.tla_value.specs.Value.{Value}
use Rattle.tla_value.specs.Stops.{Check, sense_of}
use Rattle.tla_value.specs.Grafts.{owned}
use Rattle.tla_value.specs.Meaning.{just}
use Rattle.tla_value.specs.laws.Grafting.{In}
use Rattle.pcal_tree.specs.Scope.{State, Part, Scope, bound, through}
use Rattle.pcal_tree.specs.Program.{read_at}
use Rattle.action_builder.specs.Assigned.{Names}

abbrev pub part_at : Word → List Value → Part
part_at x path = record { variable = x; path = path }

-- each name of V is a variable
abbrev pub IsPlain : Names → Scope → Type 0
IsPlain V sc = (x : Word) → V x ≡ true → (at : Place) (s : State) → sc.part x at s ≡ Ok (part_at x [])

-- a variable is at a path
abbrev pub StandsAtPath : Scope → List Value → Word → Type 0
StandsAtPath sc path x = (at : Place) (s : State) → (sc.part x at s ≡ Ok (part_at x path)) × ((sc.env s).now x at ≡ sense_of (read_at at path (s x)))

-- the scope in which the process's own variables are at its identifier
abbrev pub own_scope : Check → Word → (Word → Bool) → Scope → Scope
own_scope c self own sc = through c (owned self own) sc

-- the names of V stand for themselves as left sides, and self is v where some variable is the process's own
pub record Whole (V : Word → Bool) (self : Word) (v : Value) (own : Word → Bool) (sc : Scope) : Type 0 where
  pub part : (x : Word) → V x ≡ true → (at : Place) (s : State) → sc.part x at s ≡ Ok (part_at x [])
  pub identity : (x : Word) → own x ≡ true → (at : Place) (s : State) → (sc.env s).now self at ≡ just v

abbrev pub own_path : Bool → Value → List Value
own_path b v = cond b (v ∷ []) []

abbrev pub with_names : List (Word × Value) → Scope → Scope
with_names [] sc = sc
with_names (b ∷ bs) sc = bound b.0 b.1 (with_names bs sc)

abbrev pub AllNamed : (Word → Bool) → List (Word × Value) → Type 0
AllNamed f [] = Unit {0}
AllNamed f (b ∷ bs) = In f b.0 × AllNamed f bs

-- sc' is sc with some names of f bound
abbrev pub Inner : (Word → Bool) → Scope → Scope → Type 0
Inner f sc sc' = (bs : List (Word × Value)) × AllNamed f bs × (sc' ≡ with_names bs sc)
