-- Outcomes that differ in the places of troubles alone.
use Rattle.std.specs.Prelude.{◌≡◌, List, [], ◌∷◌, Option, Some, None, Ok, Err}
use Rattle.tla_token.specs.declared.place.Place.{Place}
use Rattle.tla_tree.specs.Tree.{Word, Tree, Graft}
use Rattle.tla_tree.specs.laws.Placeless.{tree_placeless}
use Rattle.tla_value.specs.Value.{Value, Outcome, Trouble, fault, over, Sense}
use Rattle.tla_value.specs.Stops.{Check}
use Rattle.tla_value.specs.Meaning.{Env, called}
use Rattle.tla_value.specs.Definitions.{Definition}

-- faults of one kind, or both past the limits
abbrev pub SameKind : Trouble → Trouble → Type 0
SameKind (fault k p) (fault j q) = k ≡ j
SameKind (over p) (over q) = Unit {0}
SameKind _ _ = ⊥

-- one result, or troubles of one kind
abbrev pub AgreeButPlaces : {X : Type 0} → Outcome X → Outcome X → Type 0
AgreeButPlaces (Ok x) (Ok y) = x ≡ y
AgreeButPlaces (Err k) (Err j) = SameKind k j
AgreeButPlaces _ _ = ⊥

pub record SensesButPlaces (s t : Sense) : Type 0 where
  pub value : AgreeButPlaces s.value t.value
  pub test : (p q : Place) (v : Value) → AgreeButPlaces (s.test p v) (t.test q v)

-- at any places of use
pub record EnvsButPlaces (e f : Env) : Type 0 where
  pub now : (x : Word) (p q : Place) → SensesButPlaces (e.now x p) (f.now x q)
  pub primed : (x : Word) (p q : Place) → SensesButPlaces (e.primed x p) (f.primed x q)
  pub defs : (x : Word) (p q : Place) (vs : List Value) → SensesButPlaces (called p (e.defs x) vs) (called q (f.defs x) vs)

abbrev pub ChecksButPlaces : Check → Check → Type 0
ChecksButPlaces c c' = (p q : Place) (v : Value) → AgreeButPlaces (c p v) (c' q v)

abbrev pub TreesButPlaces : Tree → Tree → Type 0
TreesButPlaces t u = tree_placeless t ≡ tree_placeless u

-- one definition, wherever it is
pub record DefinitionButPlaces (d d' : Definition) : Type 0 where
  pub title : d.title ≡ d'.title
  pub params : d.params ≡ d'.params
  pub body : TreesButPlaces d.body d'.body

abbrev pub DefinitionsButPlaces : List Definition → List Definition → Type 0
DefinitionsButPlaces [] [] = Unit {0}
DefinitionsButPlaces (d ∷ ds) (e ∷ es) = DefinitionButPlaces d e × DefinitionsButPlaces ds es
DefinitionsButPlaces _ _ = ⊥

abbrev pub OptionsButPlaces : Option Tree → Option Tree → Type 0
OptionsButPlaces (Some t) (Some u) = TreesButPlaces t u
OptionsButPlaces None None = Unit {0}
OptionsButPlaces _ _ = ⊥

abbrev pub GraftsButPlaces : Graft → Graft → Type 0
GraftsButPlaces g h = (x : Word) (p q : Place) → OptionsButPlaces (g x p) (h x q)
