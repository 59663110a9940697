-- With labels added, and with macro calls written out, nothing is primed where nothing was.
use Rattle.std.proofs.Common.{◌≡◌, List, [], ◌∷◌, reverse, Bool, true, false, ◌||◌, ◌&&◌, cond, codes, Option, Some, None, refl}
use Rattle.std.specs.List.{AllByRecursion}
use Rattle.tla_token.specs.declared.place.Place.{Place}
use Rattle.tla_token.specs.declared.rule.Rule.TheVariants.{FirstLabel}
use Rattle.tla_tree.specs.Tree.{Word, Form, name, next, Tree, node, Trees, no_trees, tree, Graft, grafted_name, grafted_node, graft, grafts}
use Rattle.tla_value.specs.laws.Grafting.{IsUnprimed}
use Rattle.pcal_tree.specs.Algorithm.{Span, Assignments, no_assignments, assignment, Binds, no_binds, one_of, is, Statement, assign, await, print, assert, skip, branch, either, with, while, goto, macro, call, return, Statements, done, then, mark, Branches, no_branches, or, Macro, Procedure, Process, Main, alone, processes, Algorithm}
use Rattle.pcal_tree.specs.Expand.{placed_at, graft_left, graft_assignments, graft_binds, graft_one, graft_all, graft_some, followed_by, Writing, expand_one, expand, expand_some}
use Rattle.pcal_tree.specs.Run.{partner_of}
use Rattle.pcal_tree.specs.Paths.{Effect, Effects, nothing, after_one}
use Rattle.pcal_tree.specs.OffencesSteps.{Before, at_label, at_first, inside, call_effect, procedure_effects, outer_effects}
use Rattle.pcal_tree.specs.OffencesSteps as steps
use Rattle.pcal_tree.specs.Labelled.{Supply, names_after, labelled_if, needs_label, before, add_inside, add, add_some, add_to_macros, add_to_procedures, add_to_processes, add_to_main, typed_labels, with_labels, is_alone, labelled}
use Rattle.pcal_tree.specs.Tests.{is_empty}
use Rattle.translation.specs.laws.KeptUnprimed.{Unprimed, AreUnprimed, SidesUnprimed, BindsUnprimed, OneUnprimed, BodyUnprimed, SomeUnprimed, MacroUnprimed, ProcedureUnprimed, ProcessUnprimed, MainUnprimed, AlgorithmUnprimed}

-- ---- labels are added

labelled_unprimed_if : (b : Bool) (s : Supply) (at : Place) (sp : Span) (st : Statement) (rest : Statements) → OneUnprimed st → BodyUnprimed rest → BodyUnprimed (labelled_if b s at (then sp st rest))
labelled_unprimed_if true s at sp st rest h k = (h, k)
labelled_unprimed_if false s at sp st rest h k = (h, k)

-- what takes the result holds for all that are so
abbrev After : {R : Type 0} {B : Type 0} → (R → Type 0) → (B → Type 0) → (B → Supply → R) → Type 0
After {R = R} {B = B} Q C go = (b : B) (t : Supply) → C b → Q (go b t)

mutual
  inside_unprimed : {R : Type 0} (Q : R → Type 0) (E : Effects) (p : Before) (s : Supply) (st : Statement) (go : Statement → Supply → R)
      → OneUnprimed st → After Q OneUnprimed go → Q (add_inside E p s st go)
  inside_unprimed Q E p s (branch e a b) go h k =
      body_through Q E (inside p.path) s a _ h.1 (λ a' t c. body_through Q E (inside p.path) t b _ h.2 (λ b' u d. k (branch e a' b') u (h.0, c, d)))
  inside_unprimed Q E p s (either no_branches) go h k = k (either no_branches) s tt
  inside_unprimed Q E p s (either (or b bs)) go h k =
      body_through Q E (inside p.path) s b _ h.0 (λ b' t c. some_through Q E (inside p.path) t bs _ h.1 (λ bs' u d. k (either (or b' bs')) u (c, d)))
  inside_unprimed Q E p s (while e b) go h k =
      body_through Q E (inside (after_one E (while e b) p.labelled p.path)) s b _ h.1 (λ b' t c. k (while e b') t (h.0, c))
  inside_unprimed Q E p s (with bs b) go h k = k (with bs b) s h
  inside_unprimed Q E p s (assign ms) go h k = k (assign ms) s h
  inside_unprimed Q E p s (await e) go h k = k (await e) s h
  inside_unprimed Q E p s (print e) go h k = k (print e) s h
  inside_unprimed Q E p s (assert e) go h k = k (assert e) s h
  inside_unprimed Q E p s skip go h k = k skip s h
  inside_unprimed Q E p s (goto l) go h k = k (goto l) s h
  inside_unprimed Q E p s (macro m ts) go h k = k (macro m ts) s h
  inside_unprimed Q E p s (call m ts) go h k = k (call m ts) s h
  inside_unprimed Q E p s return go h k = k return s h

  body_through : {R : Type 0} (Q : R → Type 0) (E : Effects) (p : Before) (s : Supply) (b : Statements) (go : Statements → Supply → R)
      → BodyUnprimed b → After Q BodyUnprimed go → Q (add E p s b go)
  body_through Q E p s done go h k = k done s tt
  body_through Q E p s (mark n m rest) go h k = body_through Q E at_label s rest _ h (λ b t c. k (mark n m b) t c)
  body_through Q E p s (then at st rest) go h k =
      inside_unprimed Q E (before (needs_label E p at st (partner_of rest)) p) (names_after (needs_label E p at st (partner_of rest)) s) st _ h.0 (λ st' t c.
      body_through Q E (steps.next E (before (needs_label E p at st (partner_of rest)) p) st' (partner_of rest)) t rest _ h.1 (λ b u d.
      k (labelled_if (needs_label E p at st (partner_of rest)) s at.first (then at st' b)) u (labelled_unprimed_if (needs_label E p at st (partner_of rest)) s at.first at st' b c d)))

  some_through : {R : Type 0} (Q : R → Type 0) (E : Effects) (p : Before) (s : Supply) (bs : Branches) (go : Branches → Supply → R)
      → SomeUnprimed bs → After Q SomeUnprimed go → Q (add_some E p s bs go)
  some_through Q E p s no_branches go h k = k no_branches s tt
  some_through Q E p s (or b bs) go h k =
      body_through Q E p s b _ h.0 (λ b' t c. some_through Q E p t bs _ h.1 (λ bs' u d. k (or b' bs') u (c, d)))

macros_through : {R : Type 0} (Q : R → Type 0) (s : Supply) (ds : List Macro) (go : List Macro → Supply → R) → AllByRecursion MacroUnprimed ds → After Q (AllByRecursion MacroUnprimed) go → Q (add_to_macros s ds go)
macros_through Q s [] go h k = k [] s tt
macros_through Q s (d ∷ ds) go h k =
    body_through Q (λ st. nothing) (at_first None) s d.body _ h.0 (λ b t c.
    macros_through Q t ds _ h.1 (λ es u e. k (record { name = d.name; params = d.params; body = b } ∷ es) u (c, e)))

procedures_through : {R : Type 0} (Q : R → Type 0) (C : Word → Trees → Effect) (s : Supply) (ps : List Procedure) (go : List Procedure → Supply → R) → AllByRecursion ProcedureUnprimed ps → After Q (AllByRecursion ProcedureUnprimed) go
    → Q (add_to_procedures C s ps go)
procedures_through Q C s [] go h k = k [] s tt
procedures_through Q C s (p ∷ ps) go h k =
    body_through Q (procedure_effects C p) (at_first (Some FirstLabel)) s p.body _ h.0.2 (λ b t c.
    procedures_through Q C t ps _ h.1 (λ qs u d. k (record { name = p.name; params = p.params; variables = p.variables; body = b } ∷ qs) u ((h.0.0, h.0.1, c), d)))

processes_through : {R : Type 0} (Q : R → Type 0) (C : Word → Trees → Effect) (s : Supply) (ps : List Process) (go : List Process → R) → AllByRecursion ProcessUnprimed ps
    → ((qs : List Process) → AllByRecursion ProcessUnprimed qs → Q (go qs)) → Q (add_to_processes C s ps go)
processes_through Q C s [] go h k = k [] tt
processes_through Q C s (p ∷ ps) go h k =
    body_through Q (outer_effects C) (at_first (Some FirstLabel)) s p.body _ h.0.2 (λ b t c.
    processes_through Q C t ps _ h.1 (λ qs d. k (record { name = p.name; fairness = p.fairness; several = p.several; identity = p.identity; variables = p.variables; body = b } ∷ qs) ((h.0.0, h.0.1, c), d)))

main_through : {R : Type 0} (Q : R → Type 0) (C : Word → Trees → Effect) (s : Supply) (m : Main) (go : Main → R) → MainUnprimed m → ((m' : Main) → MainUnprimed m' → Q (go m')) → Q (add_to_main C s m go)
main_through Q C s (alone b) go h k = body_through Q (outer_effects C) (at_first (Some FirstLabel)) s b _ h (λ c t d. k (alone c) d)
main_through Q C s (processes ps) go h k = processes_through Q C s ps _ h (λ qs d. k (processes qs) d)

with_labels_unprimed : (a : Algorithm) → AlgorithmUnprimed a → AlgorithmUnprimed (with_labels call_effect (codes "Lbl_") a)
with_labels_unprimed a h =
    macros_through AlgorithmUnprimed (record { root = codes "Lbl_"; typed = typed_labels a; from = 1 }) a.macros _ h.macros (λ ms s c.
    procedures_through AlgorithmUnprimed (call_effect (reverse ms)) s a.procedures _ h.procedures (λ ps t d.
    main_through AlgorithmUnprimed (call_effect (reverse ms)) t a.main _ h.main (λ m e.
    record { definitions = h.definitions; macros = c; procedures = d; main = e })))

pub labelled_unprimed : (forced : Bool) (a : Algorithm) → AlgorithmUnprimed a → AlgorithmUnprimed (labelled forced a)
labelled_unprimed forced a h = by (forced || (is_alone a.main && is_empty (typed_labels a)))
  where
    by : (b : Bool) → AlgorithmUnprimed (cond b (with_labels call_effect (codes "Lbl_") a) a)
    by true = with_labels_unprimed a h
    by false = h

-- ---- trees are put in

abbrev pub Puts : Graft → Type 0
Puts g = (x : Word) (at : Place) (u : Tree) → g x at ≡ Some u → Unprimed u

module _ (g : Graft) (f : Puts g) where
  put_unprimed : (o : Option Tree) (m : Form) (at : Place) (ts : Trees) → ((u : Tree) → o ≡ Some u → Unprimed u) → IsUnprimed m at → AreUnprimed ts → Unprimed (grafted_name o m at ts)
  put_unprimed (Some u) m at ts k h j = k u refl
  put_unprimed None m at ts k h j = (h, j)

  node_unprimed : (m : Form) (at : Place) (ts : Trees) → IsUnprimed m at → AreUnprimed ts → Unprimed (grafted_node g m at ts)
  node_unprimed (name x) at ts h k = put_unprimed (g x at) (name x) at ts (f x at) h k
  node_unprimed m at ts h k = (h, k)

  mutual
    graft_unprimed : (t : Tree) → Unprimed t → Unprimed (graft g t)
    graft_unprimed (node m at ts) h = node_unprimed m at (grafts g ts) h.0 (grafts_unprimed ts h.1)

    grafts_unprimed : (ts : Trees) → AreUnprimed ts → AreUnprimed (grafts g ts)
    grafts_unprimed no_trees h = tt
    grafts_unprimed (tree t ts) h = (graft_unprimed t h.0, grafts_unprimed ts h.1)

  moved_unprimed : (at : Place) (t : Tree) → ((m : Form) (p q : Place) → IsUnprimed m p → IsUnprimed m q) → Unprimed t → Unprimed (placed_at at t)
  moved_unprimed at (node m p ts) k h = (k m p at h.0, h.1)

  left_unprimed : (l : Tree) → Unprimed l → Unprimed (graft_left g l)
  left_unprimed (node m at ts) h = moved_unprimed at (graft g (node m at ts)) any_place (graft_unprimed (node m at ts) h)
    where
      any_place : (m : Form) (p q : Place) → IsUnprimed m p → IsUnprimed m q
      any_place (next x) p q h = absurd h
      any_place _ p q h = tt

  put_in_sides : (ms : Assignments) → SidesUnprimed ms → SidesUnprimed (graft_assignments g ms)
  put_in_sides no_assignments h = tt
  put_in_sides (assignment l e ms) h = (left_unprimed l h.0, graft_unprimed e h.1, put_in_sides ms h.2)

  put_in_binds : (bs : Binds) → BindsUnprimed bs → BindsUnprimed (graft_binds g bs)
  put_in_binds no_binds h = tt
  put_in_binds (one_of x e bs) h = (graft_unprimed e h.0, put_in_binds bs h.1)
  put_in_binds (is x e bs) h = (graft_unprimed e h.0, put_in_binds bs h.1)

  mutual
    put_in_one : (st : Statement) → OneUnprimed st → OneUnprimed (graft_one g st)
    put_in_one (assign ms) h = put_in_sides ms h
    put_in_one (await e) h = graft_unprimed e h
    put_in_one (print e) h = graft_unprimed e h
    put_in_one (assert e) h = graft_unprimed e h
    put_in_one skip h = tt
    put_in_one (branch e a b) h = (graft_unprimed e h.0, put_in_body a h.1, put_in_body b h.2)
    put_in_one (either bs) h = put_in_some bs h
    put_in_one (with bs b) h = (put_in_binds bs h.0, put_in_body b h.1)
    put_in_one (while e b) h = (graft_unprimed e h.0, put_in_body b h.1)
    put_in_one (goto l) h = tt
    put_in_one (macro m ts) h = grafts_unprimed ts h
    put_in_one (call p ts) h = grafts_unprimed ts h
    put_in_one return h = tt

    pub put_in_body : (b : Statements) → BodyUnprimed b → BodyUnprimed (graft_all g b)
    put_in_body done h = tt
    put_in_body (then at st rest) h = (put_in_one st h.0, put_in_body rest h.1)
    put_in_body (mark l k rest) h = put_in_body rest h

    put_in_some : (bs : Branches) → SomeUnprimed bs → SomeUnprimed (graft_some g bs)
    put_in_some no_branches h = tt
    put_in_some (or b bs) h = (put_in_body b h.0, put_in_some bs h.1)

-- ---- macro calls are written out

followed_unprimed : (a b : Statements) → BodyUnprimed a → BodyUnprimed b → BodyUnprimed (followed_by a b)
followed_unprimed done b h k = k
followed_unprimed (then at st a) b h k = (h.0, followed_unprimed a b h.1 k)
followed_unprimed (mark l m a) b h k = followed_unprimed a b h k

module _ (X : Writing) (f : (at : Span) (m : Word) (ts : Trees) → AreUnprimed ts → BodyUnprimed (X at m ts)) where
  mutual
    expand_one_unprimed : (at : Span) (st : Statement) (rest : Statements) → OneUnprimed st → BodyUnprimed rest → BodyUnprimed (expand_one X at st rest)
    expand_one_unprimed at (macro m ts) rest h k = followed_unprimed (X at m ts) rest (f at m ts h) k
    expand_one_unprimed at (branch e a b) rest h k = ((h.0, expand_unprimed a h.1, expand_unprimed b h.2), k)
    expand_one_unprimed at (either bs) rest h k = (expand_some_unprimed bs h, k)
    expand_one_unprimed at (with bs b) rest h k = ((h.0, expand_unprimed b h.1), k)
    expand_one_unprimed at (while e b) rest h k = ((h.0, expand_unprimed b h.1), k)
    expand_one_unprimed at (assign ms) rest h k = (h, k)
    expand_one_unprimed at (await e) rest h k = (h, k)
    expand_one_unprimed at (print e) rest h k = (h, k)
    expand_one_unprimed at (assert e) rest h k = (h, k)
    expand_one_unprimed at skip rest h k = (h, k)
    expand_one_unprimed at (goto l) rest h k = (h, k)
    expand_one_unprimed at (call p ts) rest h k = (h, k)
    expand_one_unprimed at return rest h k = (h, k)

    pub expand_unprimed : (b : Statements) → BodyUnprimed b → BodyUnprimed (expand X b)
    expand_unprimed done h = tt
    expand_unprimed (then at st rest) h = expand_one_unprimed at st (expand X rest) h.0 (expand_unprimed rest h.1)
    expand_unprimed (mark l k rest) h = expand_unprimed rest h

    expand_some_unprimed : (bs : Branches) → SomeUnprimed bs → SomeUnprimed (expand_some X bs)
    expand_some_unprimed no_branches h = tt
    expand_some_unprimed (or b bs) h = (expand_unprimed b h.0, expand_some_unprimed bs h.1)
