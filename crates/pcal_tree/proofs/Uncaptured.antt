-- Where no bound name is put in for or free in a tree that is put in, nothing is captured.
use Rattle.std.proofs.Common.{◌≡◌, [], ◌∷◌, Option, Some, None, refl, Ok}
use Rattle.tla_token.specs.declared.place.Place.{Place}
use Rattle.tla_tree.specs.Tree.{Word, apply, select, Form, name, strict, binders, Tree, node, Trees, no_trees, tree, Graft}
use Rattle.tla_value.specs.Value.{Value, text, ◌>>=◌}
use Rattle.tla_value.specs.Stops.{Check}
use Rattle.tla_value.specs.Meaning.{part_values, evals}
use Rattle.tla_value.specs.laws.Grafting.{Clear, BindsClear, Apart, ApartForm, NotFreeIn}
use Rattle.tla_value.specs.laws.FreeNames.{FreeInParts, Any, IsOther, NotFree}
use Rattle.tla_value.proofs.Facts.{each_weaker, every_weaker, every_of_weaker}
use Rattle.tla_value.proofs.FreeNames.{not_free}
use Rattle.tla_value.proofs.Graft.{apart_clear}
use Rattle.pcal_tree.specs.Algorithm.{Assignments, no_assignments, assignment, Binds, no_binds, one_of, is, Statement, assign, await, print, assert, branch, either, with, while, macro, call, Statements, done, then, mark, Branches, no_branches, or}
use Rattle.pcal_tree.specs.Scope.{State, Scope, bound, deeper, reach, reach_path}
use Rattle.pcal_tree.specs.laws.Expansion.{Unreached, ClearName, ThroughoutAssignments, ThroughoutBinds, ThroughoutOne, Throughout, ThroughoutSome, Clean}

-- ---- one predicate for another

module _ (F G : Form → Place → Type 0) (N M : Word → Type 0) (f : (m : Form) (at : Place) → F m at → G m at) (n : (x : Word) → N x → M x) where
  assignments_weaker : (ms : Assignments) → ThroughoutAssignments F ms → ThroughoutAssignments G ms
  assignments_weaker no_assignments h = tt
  assignments_weaker (assignment l e ms) h = (every_weaker F G f l h.0, every_weaker F G f e h.1, assignments_weaker ms h.2)

  binds_weaker : (bs : Binds) → ThroughoutBinds F N bs → ThroughoutBinds G M bs
  binds_weaker no_binds h = tt
  binds_weaker (one_of x e bs) h = (every_weaker F G f e h.0, n x.word h.1, binds_weaker bs h.2)
  binds_weaker (is x e bs) h = (every_weaker F G f e h.0, n x.word h.1, binds_weaker bs h.2)

  mutual
    one_weaker : (st : Statement) → ThroughoutOne F N st → ThroughoutOne G M st
    one_weaker (assign ms) h = assignments_weaker ms h
    one_weaker (await e) h = every_weaker F G f e h
    one_weaker (print e) h = every_weaker F G f e h
    one_weaker (assert e) h = every_weaker F G f e h
    one_weaker (branch e a b) h = (every_weaker F G f e h.0, throughout_weaker a h.1, throughout_weaker b h.2)
    one_weaker (either bs) h = some_weaker bs h
    one_weaker (with bs b) h = (binds_weaker bs h.0, throughout_weaker b h.1)
    one_weaker (while e b) h = (every_weaker F G f e h.0, throughout_weaker b h.1)
    one_weaker (macro m ts) h = h
    one_weaker (call p ts) h = every_of_weaker F G f ts h
    one_weaker _ h = tt

    pub throughout_weaker : (ss : Statements) → Throughout F N ss → Throughout G M ss
    throughout_weaker done h = tt
    throughout_weaker (then at st rest) h = (one_weaker st h.0, throughout_weaker rest h.1)
    throughout_weaker (mark l m rest) h = tt

    some_weaker : (bs : Branches) → ThroughoutSome F N bs → ThroughoutSome G M bs
    some_weaker no_branches h = tt
    some_weaker (or b bs) h = (throughout_weaker b h.0, some_weaker bs h.1)

-- ---- a name that isn't free in a left side isn't read by it

values_unread : (c : Check) (x : Word) (ts : Trees) → FreeInParts (IsOther x) Any [] ts → (v : Value) (sc : Scope) (s : State) → part_values (evals c ts) (sc.env s) ≡ part_values (evals c ts) ((bound x v sc).env s)
values_unread c x no_trees h v sc s = refl
values_unread c x (tree t ts) h v sc s = λ i. (not_free c x t h.0 v (sc.env s) i).value >>= (λ w. (values_unread c x ts h.1 v sc s i) >>= (λ ws. Ok (w ∷ ws)))

mutual
  reach_unread : (c : Check) (x : Word) (t : Tree) → NotFree x t → (v : Value) (sc : Scope) (s : State) → reach c t sc s ≡ reach c t (bound x v sc) s
  reach_unread c x (node (name y) at ts) h v sc s = refl
  reach_unread c x (node (strict apply) at ts) h v sc s = path_unread c x at ts h.1 v sc s
  reach_unread c x (node (strict (select a)) at ts) h v sc s = λ i. (path_unread c x at ts h.1 v sc s i) >>= (λ p. Ok (deeper (text a ∷ []) p))
  reach_unread c x (node m at ts) h v sc s = refl

  path_unread : (c : Check) (x : Word) (at : Place) (ts : Trees) → FreeInParts (IsOther x) Any [] ts → (v : Value) (sc : Scope) (s : State) → reach_path c at ts sc s ≡ reach_path c at ts (bound x v sc) s
  path_unread c x at no_trees h v sc s = refl
  path_unread c x at (tree f us) h v sc s = λ i. (reach_unread c x f h.0 v sc s i) >>= (λ p. (values_unread c x us h.1 v sc s i) >>= (λ ks. Ok (deeper ks p)))

-- ---- what is apart is clear

apart_name : (c : Check) (g : Graft) (x : Word) → Apart g x → ClearName c g x
apart_name c g x h = record { clear = apart_clear c g x h; unreached = λ y at. by (g y at) (h.unread y at) }
  where
    by : (o : Option Tree) → NotFreeIn x o → Unreached c x o
    by (Some t) k = reach_unread c x t k
    by None k = tt

pub uncaptured : (c : Check) (g : Graft) (ss : Statements) → Throughout (ApartForm g) (Apart g) ss → Clean c g ss
uncaptured c g =
    throughout_weaker (ApartForm g) (BindsClear c g) (Apart g) (ClearName c g) (λ m at. each_weaker (Apart g) (Clear c g) (apart_clear c g) (binders m)) (apart_name c g)
