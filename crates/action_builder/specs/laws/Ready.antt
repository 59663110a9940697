-- What is asked of statements and scopes so that the written items mean what the statements do; and the truth of these items.
use Rattle.std.specs.Prelude.{◌≡◌, List, [], Bool, true, false, cond, codes, Some, None, Ok}
use Rattle.tla_token.specs.Signs.{is_among}
use Rattle.tla_token.specs.declared.place.Place.{Place}
use Rattle.tla_tree.specs.Tree.{Word, apply, select, Form, name, strict, Tree, node, Trees, no_trees, tree, Every}
use Rattle.tla_value.specs.Stops.{plain}
use Rattle.tla_value.specs.Standard.{printed, asserted, standard_sense}
use Rattle.tla_value.specs.Value.{IsBad}
use Rattle.tla_value.specs.Meaning.{Env, just, eval}
use Rattle.tla_value.specs.laws.Grafting.{In, BindsNone, IsUnprimed}
use Rattle.tla_value.specs.laws.FreeNames.{FreeNames}
use Rattle.tla_value.specs.Definitions.{Valuation}
use Rattle.module_tree.specs.Module.{Items}
use Rattle.module_tree.specs.ActionTruth.{Verdict, items_hold}
use Rattle.pcal_tree.specs.Algorithm.{Assignments, no_assignments, assignment, Binds, no_binds, one_of, is, Statement, assign, await, print, assert, skip, branch, either, with, Statements, done, then, mark, Branches, no_branches, or}
use Rattle.pcal_tree.specs.Run.{Rules}
use Rattle.pcal_tree.specs.Scope.{State, Scope}
use Rattle.action_builder.specs.Assigned.{Names, more, heads, assigned}
use Rattle.action_builder.specs.Written.{primed, is_old, put_in, write}
use Rattle.action_builder.specs.SingleProcess.{in_place_of}
use Rattle.action_builder.specs.laws.Grafts.{IsListed, ClearItems}
use Rattle.action_builder.specs.laws.States.{mid}
use Rattle.action_builder.specs.laws.Scopes.{part_at}

-- ---- names

-- the names that may be read where the variables of A are assigned already: the variables, and others whose meaning does not rest on A
abbrev pub Readable : Type 0
Readable = Names → Word → Bool

-- e is of a pair of states, f of the state half done: of the names of U, f reads those of A in the later state
pub record Halfway (A : Names) (U : Word → Type 0) (e f : Env) : Type 0 where
  pub now : (x : Word) → U x → (at : Place) → f.now x at ≡ cond (A x) (e.primed x at) (e.now x at)
  pub defs : (x : Word) → U x → e.defs x ≡ f.defs x

abbrev pub IsWithin : Names → Names → Type 0
IsWithin A V = (x : Word) → A x ≡ true → V x ≡ true

-- the environment of each pair of states goes with the scope, whichever variables are assigned; PrintT and Assert are those of TLC
pub record Paired (U : Readable) (vs : List Word) (sc : Scope) (env : State → State → Env) : Type 0 where
  pub halfway : (A : Names) → IsWithin A (is_among vs) → (s t : State) → Halfway A (In (U A)) (env s t) (sc.env (mid s t A))
  pub print : (s t : State) → (env s t).defs (codes "PrintT") ≡ Some (standard_sense plain printed)
  pub assert : (s t : State) → (env s t).defs (codes "Assert") ≡ Some (standard_sense plain asserted)

-- the names of vs are variables: each is itself as a left side, and is read in the state
pub record Scoped (vs : List Word) (sc : Scope) : Type 0 where
  pub part : (x : Word) → is_among vs x ≡ true → (at : Place) (s : State) → sc.part x at s ≡ Ok (part_at x [])
  pub reads : (x : Word) → is_among vs x ≡ true → (at : Place) (s : State) → (sc.env s).now x at ≡ just (s x)

-- all that is asked of a scope, and of the environments of pairs of states
pub record Stands (U : Readable) (vs : List Word) (sc : Scope) (env : State → State → Env) : Type 0 where
  pub paired : Paired U vs sc env
  pub scoped : Scoped vs sc

-- ---- left sides

-- a left side is a name of V, or a subscript or a field after one
abbrev pub LeftIn : Names → Form → Type 0 → Type 0
LeftIn V (name x) P = V x ≡ true
LeftIn V (strict apply) P = P
LeftIn V (strict (select a)) P = P
LeftIn V _ P = ⊥

abbrev mutual
  pub IsLeft : Names → Tree → Type 0
  IsLeft V (node m at ts) = LeftIn V m (LeftFirst V ts)

  pub LeftFirst : Names → Trees → Type 0
  LeftFirst V no_trees = ⊥
  LeftFirst V (tree f us) = IsLeft V f

abbrev pub LeftSides : Names → Assignments → Type 0
LeftSides V no_assignments = Unit {0}
LeftSides V (assignment l e ms) = IsLeft V l × LeftSides V ms

-- ---- settled statements

-- no jump, label, loop, macro call, call or return
abbrev mutual
  pub SettledOne : Names → Statement → Type 0
  SettledOne V (assign ms) = LeftSides V ms
  SettledOne V (await e) = Unit {0}
  SettledOne V (print e) = Unit {0}
  SettledOne V (assert e) = Unit {0}
  SettledOne V skip = Unit {0}
  SettledOne V (branch e a b) = Settled V a × Settled V b
  SettledOne V (either bs) = SettledSome V bs
  SettledOne V (with bs b) = Settled V b
  SettledOne V _ = ⊥

  pub Settled : Names → Statements → Type 0
  Settled V done = Unit {0}
  Settled V (then at st rest) = SettledOne V st × Settled V rest
  Settled V (mark l k rest) = ⊥

  pub SettledSome : Names → Branches → Type 0
  SettledSome V no_branches = Unit {0}
  SettledSome V (or b bs) = Settled V b × SettledSome V bs

-- ---- what expressions read

-- the expression binds no name of A, has no primed name, and reads only names that may be read free
abbrev pub FineTree : Readable → Names → Tree → Type 0
FineTree U A e = Every (BindsNone A) e × Every IsUnprimed e × FreeNames (In (U A)) (In (U A)) e

abbrev pub FineSides : Readable → Names → Assignments → Type 0
FineSides U A no_assignments = Unit {0}
FineSides U A (assignment l e ms) = FineTree U A l × FineTree U A e × FineSides U A ms

pub record FineAssignments (U : Readable) (vs : List Word) (A : Names) (ms : Assignments) : Type 0 where
  pub left : LeftSides (is_among vs) ms
  pub sides : FineSides U A ms
  pub readable : (y : Word) → is_among (heads ms) y ≡ true → U A y ≡ true

abbrev pub FineBinds : Readable → List Word → Names → Binds → Type 0
FineBinds U vs A no_binds = Unit {0}
FineBinds U vs A (one_of x e bs) = FineTree U A e × (is_among vs x.word ≡ false) × FineBinds U vs A bs
FineBinds U vs A (is x e bs) = FineTree U A e × (is_among vs x.word ≡ false) × FineBinds U vs A bs

-- a name that stands for an old value has a value like others: it is a variable's, or that of a form that makes one
abbrev pub KeptValue : List Word → Tree → Type 0
KeptValue vs (node (name x) at ts) = is_among vs x ≡ true
KeptValue vs e = IsListed e

-- the items fault where the expression does
abbrev pub Needs : Tree → Items → Type 0
Needs e b = (s t : Valuation) (env : Env) → IsBad (eval plain e env).value → IsBad (items_hold plain s t env b)

-- it is written by its expression, which captures nothing and is needed
abbrev pub Kept : List Word → Names → Binds → Items → Type 0
Kept vs A (is x e bs) b = is_old (is x e bs) ≡ true → KeptValue vs e × ClearItems plain (in_place_of x.word (primed A e)) b × Needs (primed A e) (put_in A x.word e b)
Kept vs A _ b = Unit {0}

-- each expression reads what may be read there, and the names of a `with` are no variables
abbrev mutual
  pub FineOne : Readable → List Word → Names → Statement → Type 0
  FineOne U vs A (assign ms) = FineAssignments U vs A ms
  FineOne U vs A (await e) = FineTree U A e
  FineOne U vs A (print e) = FineTree U A e
  FineOne U vs A (assert e) = FineTree U A e
  FineOne U vs A skip = Unit {0}
  FineOne U vs A (branch e a b) = FineTree U A e × Fine U vs A a × Fine U vs A b
  FineOne U vs A (either bs) = FineSome U vs A bs
  FineOne U vs A (with bs b) = FineBinds U vs A bs × Fine U vs A b × Kept vs A bs (write vs A b)
  FineOne U vs A _ = ⊥

  pub Fine : Readable → List Word → Names → Statements → Type 0
  Fine U vs A done = Unit {0}
  Fine U vs A (then at st rest) = FineOne U vs A st × Fine U vs (more A (assigned st)) rest
  Fine U vs A (mark l k rest) = ⊥

  pub FineSome : Readable → List Word → Names → Branches → Type 0
  FineSome U vs A no_branches = Unit {0}
  FineSome U vs A (or b bs) = Fine U vs A b × FineSome U vs A bs

-- ---- assigned once

-- no variable is assigned that is in A, or was assigned before
abbrev pub Apart : Names → List Word → Type 0
Apart A xs = (x : Word) → is_among xs x ≡ true → A x ≡ false

abbrev mutual
  pub OnceOne : Names → Statement → Type 0
  OnceOne A (assign ms) = Apart A (heads ms)
  OnceOne A (branch e a b) = Once A a × Once A b
  OnceOne A (either bs) = OnceSome A bs
  OnceOne A (with bs b) = Once A b
  OnceOne A _ = Unit {0}

  pub Once : Names → Statements → Type 0
  Once A done = Unit {0}
  Once A (then at st rest) = OnceOne A st × Once (more A (assigned st)) rest
  Once A (mark l k rest) = Unit {0}

  pub OnceSome : Names → Branches → Type 0
  OnceSome A no_branches = Unit {0}
  OnceSome A (or b bs) = Once A b × OnceSome A bs

-- ---- truth

-- the values of the variables
abbrev pub values_of : List Word → State → Valuation
values_of vs s x = cond (is_among vs x) (Some (s x)) None

-- the items on a pair of states
abbrev pub holds_on : List Word → (State → State → Env) → Items → State → State → Verdict
holds_on vs env items s t = items_hold plain (values_of vs s) (values_of vs t) (env s t) items

-- ---- statements of one step for which items are written

-- without limits
abbrev pub unlimited : Rules → Rules
unlimited M = record { check = plain; goto = M.goto; call = M.call; return = M.return; macros = M.macros }

-- statements that assign nothing twice and nothing of A, in a scope with environments for pairs of states; vs are all variables
pub record Ready (U : Readable) (vs : List Word) (A : Names) (ss : Statements) (sc : Scope) (env : State → State → Env) : Type 0 where
  pub settled : Settled (is_among vs) ss
  pub fine : Fine U vs A ss
  pub once : Once A ss
  pub within : IsWithin A (is_among vs)
  pub stands : Stands U vs sc env
