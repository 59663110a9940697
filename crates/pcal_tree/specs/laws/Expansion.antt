-- Macro calls that can be written out: nothing is captured, and each macro's body begins with a statement and has no label, and no call or jump of
-- its own ("A PlusCal User's Manual", section 3.5, macros).
use Rattle.std.specs.Prelude.{◌≡◌, List, [], ◌∷◌, Bool, true, false, bytes_eq, Option, Some, None}
use Rattle.tla_token.specs.declared.place.Place.{Place}
use Rattle.tla_tree.specs.Tree.{Word, Form, Tree, Trees, Every, EveryOf, Graft}
use Rattle.tla_value.specs.Value.{Value}
use Rattle.tla_value.specs.Stops.{Check}
use Rattle.tla_value.specs.laws.Grafting.{Clear, BindsClear, Apart, ApartForm}
use Rattle.pcal_tree.specs.Algorithm.{Assignments, no_assignments, assignment, Binds, no_binds, one_of, is, Statement, assign, await, print, assert, branch, either, with, while, goto, macro, call, return, Statements, done, then, mark, Branches, no_branches, or, Macro}
use Rattle.pcal_tree.specs.Scope.{State, Scope, bound, reach}
use Rattle.pcal_tree.specs.Run.{arguments}
use Rattle.pcal_tree.specs.Expand.{expand, written_out}

abbrev pub Unreached : Check → Word → Option Tree → Type 0
Unreached c x (Some t) = (v : Value) (sc : Scope) (s : State) → reach c t sc s ≡ reach c t (bound x v sc) s
Unreached c x None = Unit {0}

-- g leaves x alone, and no tree of g reads it, also as a left side
pub record ClearName (c : Check) (g : Graft) (x : Word) : Type 0 where
  pub clear : Clear c g x
  pub unreached : (y : Word) (at : Place) → Unreached c x (g y at)

-- the forms of all expressions have F, the names of each `with` have N, and there is no macro call
abbrev pub ThroughoutAssignments : (Form → Place → Type 0) → Assignments → Type 0
ThroughoutAssignments F no_assignments = Unit {0}
ThroughoutAssignments F (assignment l e ms) = Every F l × Every F e × ThroughoutAssignments F ms

abbrev pub ThroughoutBinds : (Form → Place → Type 0) → (Word → Type 0) → Binds → Type 0
ThroughoutBinds F N no_binds = Unit {0}
ThroughoutBinds F N (one_of x e bs) = Every F e × N x.word × ThroughoutBinds F N bs
ThroughoutBinds F N (is x e bs) = Every F e × N x.word × ThroughoutBinds F N bs

abbrev mutual
  pub ThroughoutOne : (Form → Place → Type 0) → (Word → Type 0) → Statement → Type 0
  ThroughoutOne F N (assign ms) = ThroughoutAssignments F ms
  ThroughoutOne F N (await e) = Every F e
  ThroughoutOne F N (print e) = Every F e
  ThroughoutOne F N (assert e) = Every F e
  ThroughoutOne F N (branch e a b) = Every F e × Throughout F N a × Throughout F N b
  ThroughoutOne F N (either bs) = ThroughoutSome F N bs
  ThroughoutOne F N (with bs b) = ThroughoutBinds F N bs × Throughout F N b
  ThroughoutOne F N (while e b) = Every F e × Throughout F N b
  ThroughoutOne F N (macro m ts) = ⊥
  ThroughoutOne F N (call p ts) = EveryOf F ts
  ThroughoutOne F N _ = Unit {0}

  pub Throughout : (Form → Place → Type 0) → (Word → Type 0) → Statements → Type 0
  Throughout F N done = Unit {0}
  Throughout F N (then at st rest) = ThroughoutOne F N st × Throughout F N rest
  Throughout F N (mark l m rest) = Unit {0}

  pub ThroughoutSome : (Form → Place → Type 0) → (Word → Type 0) → Branches → Type 0
  ThroughoutSome F N no_branches = Unit {0}
  ThroughoutSome F N (or b bs) = Throughout F N b × ThroughoutSome F N bs

-- no bound name is captured
abbrev pub CleanAssignments : Check → Graft → Assignments → Type 0
CleanAssignments c g = ThroughoutAssignments (BindsClear c g)

abbrev pub CleanBinds : Check → Graft → Binds → Type 0
CleanBinds c g = ThroughoutBinds (BindsClear c g) (ClearName c g)

abbrev pub CleanOne : Check → Graft → Statement → Type 0
CleanOne c g = ThroughoutOne (BindsClear c g) (ClearName c g)

abbrev pub Clean : Check → Graft → Statements → Type 0
Clean c g = Throughout (BindsClear c g) (ClearName c g)

abbrev pub CleanSome : Check → Graft → Branches → Type 0
CleanSome c g = ThroughoutSome (BindsClear c g) (ClearName c g)

-- the part that a name is does not rest on its place
abbrev pub AnyPlace : Scope → Type 0
AnyPlace sc = (x : Word) (at p : Place) (s : State) → sc.part x at s ≡ sc.part x p s

-- the list begins with an unlabelled statement, as each macro's body does
abbrev pub BeginsUnlabelled : Statements → Type 0
BeginsUnlabelled done = ⊥
BeginsUnlabelled (then at st rest) = Unit {0}
BeginsUnlabelled (mark l m rest) = ⊥

-- no statement of the list itself is a call, a `goto` or a `return`, so that none can be one statement with what stands around a macro call
abbrev pub StaysOne : Statement → Type 0
StaysOne (goto l) = ⊥
StaysOne (call p ts) = ⊥
StaysOne return = ⊥
StaysOne _ = Unit {0}

abbrev pub Stays : Statements → Type 0
Stays done = Unit {0}
Stays (then at st rest) = StaysOne st × Stays rest
Stays (mark l m rest) = Unit {0}

-- a fact of each call
abbrev mutual
  pub CallsOne : (Word → Trees → Type 0) → Statement → Type 0
  CallsOne P (macro m ts) = P m ts
  CallsOne P (branch e a b) = Calls P a × Calls P b
  CallsOne P (either bs) = CallsSome P bs
  CallsOne P (with bs b) = Calls P b
  CallsOne P (while e b) = Calls P b
  CallsOne P _ = Unit {0}

  pub Calls : (Word → Trees → Type 0) → Statements → Type 0
  Calls P done = Unit {0}
  Calls P (then at st rest) = CallsOne P st × Calls P rest
  Calls P (mark l k rest) = Calls P rest

  pub CallsSome : (Word → Trees → Type 0) → Branches → Type 0
  CallsSome P no_branches = Unit {0}
  CallsSome P (or b bs) = Calls P b × CallsSome P bs

abbrev pub Chosen : Bool → Type 0 → Type 0 → Type 0
Chosen true A B = A
Chosen false A B = B

-- no name that is bound in the body is a parameter or free in an argument; so with the calls in the body, which begins with a statement, and in which
-- no statement is a call, a `goto` or a `return`, as none in a macro may be
abbrev pub FineCall : List Macro → Word → Trees → Type 0
FineCall [] m ts = Unit {0}
FineCall (d ∷ older) m ts =
    Chosen (bytes_eq d.name.word m)
    (Throughout (ApartForm (arguments d.params ts)) (Apart (arguments d.params ts)) (expand (written_out older) d.body)
    × Calls (FineCall older) d.body × BeginsUnlabelled d.body × Stays d.body)
    (FineCall older m ts)

-- no label at all, as in a macro's body
abbrev mutual
  pub BareOne : Statement → Type 0
  BareOne (branch e a b) = Bare a × Bare b
  BareOne (either bs) = BareSome bs
  BareOne (with bs b) = Bare b
  BareOne (while e b) = Bare b
  BareOne _ = Unit {0}

  pub Bare : Statements → Type 0
  Bare done = Unit {0}
  Bare (then at st rest) = BareOne st × Bare rest
  Bare (mark m k rest) = ⊥

  pub BareSome : Branches → Type 0
  BareSome no_branches = Unit {0}
  BareSome (or b bs) = Bare b × BareSome bs

-- no macro's body has a label
abbrev pub BareBodies : List Macro → Type 0
BareBodies [] = Unit {0}
BareBodies (d ∷ ds) = Bare d.body × BareBodies ds
