-- When trees may be put in for names: which names a tree binds, and which are free in what is put in.
use Rattle.std.specs.Prelude.{◌≡◌, List, [], ◌∷◌, Bool, true, false, bytes_eq, Option, Some, None}
use Rattle.tla_token.specs.declared.place.Place.{Place}
use Rattle.tla_tree.specs.Tree.{Word, Form, next, Tree, Each, binders, Graft}
use Rattle.tla_value.specs.Value.{Value}
use Rattle.tla_value.specs.Stops.{Check}
use Rattle.tla_value.specs.Meaning.{Env, bind, eval}
use Rattle.tla_value.specs.Grafts.{Arguments}
use Rattle.tla_value.specs.Definitions.{Definition}
use Rattle.tla_value.specs.laws.FreeNames.{Also, FreeNames, NotFree}

abbrev pub NotFreeIn : Word → Option Tree → Type 0
NotFreeIn x (Some t) = NotFree x t
NotFreeIn x None = Unit {0}

-- g leaves x alone, and x is free in no tree of g
pub record Apart (g : Graft) (x : Word) : Type 0 where
  pub left : (at : Place) → g x at ≡ None
  pub unread : (y : Word) (at : Place) → NotFreeIn x (g y at)

-- the bound names of a form are apart from g
abbrev pub ApartForm : Graft → Form → Place → Type 0
ApartForm g m at = Each (Apart g) (binders m)

-- a bound name of the body is no parameter, and is free in no argument
abbrev pub NoArgument : Arguments → Form → Place → Type 0
NoArgument s m at = Each (λ x. (s x ≡ None) × ((y : Word) → NotFreeIn x (s y))) (binders m)

-- a bound name is neither such a variable nor self
abbrev pub NotOwned : Word → (Word → Bool) → Form → Place → Type 0
NotOwned self here m at = Each (λ x. (here x ≡ false) × (bytes_eq x self ≡ false)) (binders m)

-- no name that a form binds is in A
abbrev pub BindsNone : (Word → Bool) → Form → Place → Type 0
BindsNone A m at = Each (λ x. A x ≡ false) (binders m)

-- of U, and not in A
abbrev pub OutOf : (Word → Bool) → (Word → Type 0) → Word → Type 0
OutOf A U x = U x × (A x ≡ false)

-- a definition of U is no variable of A, and reads none, but for names of its parameters
pub record Settled (A : Word → Bool) (U : Word → Type 0) (d : Definition) : Type 0 where
  pub title : A d.title ≡ false
  pub body : FreeNames (Also d.params (OutOf A U)) U d.body

abbrev pub AllSettled : (Word → Bool) → (Word → Type 0) → List Definition → Type 0
AllSettled A U [] = Unit {0}
AllSettled A U (d ∷ ds) = (U d.title → Settled A U d) × AllSettled A U ds

-- the assigned variables have values
abbrev pub Given : Option Value → Type 0
Given (Some v) = Unit {0}
Given None = ⊥

-- the words of u, as a fact
abbrev pub In : (Word → Bool) → Word → Type 0
In u x = u x ≡ true

-- a tree that may be where x is bound
abbrev pub Unread : Check → Word → Option Tree → Type 0
Unread c x (Some t) = (v : Value) (e : Env) → eval c t e ≡ eval c t (bind x v e)
Unread c x None = Unit {0}

-- a bound name that g leaves alone, and that no tree of g reads
pub record Clear (c : Check) (g : Graft) (x : Word) : Type 0 where
  pub left : (at : Place) → g x at ≡ None
  pub unread : (y : Word) (at : Place) → Unread c x (g y at)

-- the bound names of a form are clear
abbrev pub BindsClear : Check → Graft → Form → Place → Type 0
BindsClear c g m at = Each (Clear c g) (binders m)

-- the form is no primed name
abbrev pub IsUnprimed : Form → Place → Type 0
IsUnprimed (next x) at = ⊥
IsUnprimed _ at = Unit {0}
