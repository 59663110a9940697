-- What the rules on labels and on definitions give of the parts of a step: what is read may be read there, and what is assigned was not assigned before ("A PlusCal User's
-- Manual", sections 3.6, definitions, and 3.7, labels).
use Rattle.std.specs.Prelude.{◌≡◌, List, [], ◌∷◌, Bool, true, not}
use Rattle.std.specs.List.{list_any}
use Rattle.tla_token.specs.declared.place.Place.{Place}
use Rattle.tla_tree.specs.Tree.{Word, Form, Tree, Trees, Each, Every, EveryOf, binders}
use Rattle.tla_value.specs.laws.FreeNames.{FreeNames, FreeInParts}
use Rattle.tla_value.specs.laws.Grafting.{In, IsUnprimed}
use Rattle.pcal_tree.specs.Algorithm.{Name, Assignments, no_assignments, assignment, Binds, no_binds, one_of, is, call, return, Procedure, Algorithm}
use Rattle.pcal_tree.specs.OffencesStale.{used_by_call}
use Rattle.pcal_tree.specs.OffencesSteps.{effect_with}
use Rattle.pcal_tree.specs.Paths.{Effects, roots}
use Rattle.pcal_tree.specs.Reads.{Reading, through, readings_of}
use Rattle.pcal_tree.specs.Run.{Partner, return_partner}
use Rattle.action_builder.specs.Assigned.{Names}
use Rattle.action_builder.specs.laws.Ready.{Readable, IsWithin, Apart}
use Rattle.translation.specs.laws.StepParts.{Asked}
use Rattle.translation.specs.laws.WritableAlgorithm.{AreWritableAssignments}

-- it is no definition, or one that reads no variable of A
abbrev pub fresh : List Reading → Names → Word → Bool
fresh ds A x = not (list_any A (through ds x))

-- as the laws of written actions have it
abbrev pub readable : Algorithm → Readable
readable g = fresh (readings_of g)

-- the names that the form binds are of N, and it is no primed name
abbrev pub Plain : (Word → Type 0) → Form → Place → Type 0
Plain N m at = Each N (binders m) × IsUnprimed m at

-- N: the names that may be bound
pub record ReadsFresh (ds : List Reading) (N : Word → Type 0) (A : Names) (e : Tree) : Type 0 where
  pub free : FreeNames (In (fresh ds A)) (In (fresh ds A)) e
  pub plain : Every (Plain N) e

pub record AllReadFresh (ds : List Reading) (N : Word → Type 0) (A : Names) (ts : Trees) : Type 0 where
  pub free : FreeInParts (In (fresh ds A)) (In (fresh ds A)) [] ts
  pub plain : EveryOf (Plain N) ts

abbrev pub SidesReadFresh : List Reading → (Word → Type 0) → Names → Assignments → Type 0
SidesReadFresh ds N A no_assignments = Unit {0}
SidesReadFresh ds N A (assignment l e ms) = ReadsFresh ds N A l × ReadsFresh ds N A e × SidesReadFresh ds N A ms

abbrev pub BindsReadFresh : List Reading → (Word → Type 0) → Names → Binds → Type 0
BindsReadFresh ds N A no_binds = Unit {0}
BindsReadFresh ds N A (one_of x e bs) = ReadsFresh ds N A e × N x.word × BindsReadFresh ds N A bs
BindsReadFresh ds N A (is x e bs) = ReadsFresh ds N A e × N x.word × BindsReadFresh ds N A bs

abbrev pub AllFresh : List Reading → Names → List Name → Type 0
AllFresh ds A [] = Unit {0}
AllFresh ds A (n ∷ ns) = (fresh ds A n.word ≡ true) × AllFresh ds A ns

-- it is followed by a `return` only where one may be
abbrev pub MayReturn : Bool → Partner → Type 0
MayReturn r (return_partner at) = r ≡ true
MayReturn r _ = Unit {0}

-- ps, C: the procedures; V: the variables that may be assigned; E: what calls and returns assign; r: a `return` may be there. A call reads also what the initial values of
-- the procedure's variables do.
abbrev pub asked : List Reading → List Procedure → (Word → Bool) → (Word → Bool) → (Word → Type 0) → Effects → Bool → Asked
asked ds ps C V N E r = record {
  assigns = λ A ms. IsWithin A V × Apart A (roots ms) × AreWritableAssignments V ms × SidesReadFresh ds N A ms;
  reads = λ A e. IsWithin A V × ReadsFresh ds N A e;
  binds = λ A bs. IsWithin A V × BindsReadFresh ds N A bs;
  goes = λ A. IsWithin A V;
  calls = λ A p ts j. IsWithin A V × AllReadFresh ds N A ts × (C p.word ≡ true) × Apart A (effect_with E (call p ts) j).variables × AllFresh ds A (used_by_call ps p) × MayReturn r j;
  returns = λ A. IsWithin A V × (r ≡ true) × Apart A (E return).variables;
}
