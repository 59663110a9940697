-- Statements with trees put in for names take the courses that the statements take where the names that they read stand for these trees. Names that they
-- don't read may mean anything.
use Rattle.std.proofs.Common.{◌≡◌, List, [], ◌∷◌, cond, Option, Some, None, refl, sym, ◌∙◌, ap, Ok}
use Rattle.tla_token.specs.declared.place.Place.{Place}
use Rattle.tla_tree.specs.Tree.{Word, apply, select, Form, name, strict, Tree, node, Trees, no_trees, tree, Every, EveryOf, Graft, grafted_name, grafted_node, graft, grafts, root_place}
use Rattle.tla_value.specs.Value.{Value, text, Outcome, fault, ◌>>=◌}
use Rattle.tla_value.specs.declared.fault.FaultKind.TheVariants.{AssertFailed}
use Rattle.tla_value.specs.Stops.{Check, truth_at, members_at}
use Rattle.tla_value.specs.Meaning.{Env, Denotation, part_values}
use Rattle.tla_value.proofs.Joined.{none, one}
use Rattle.tla_value.proofs.Alike.{AllAlike}
use Rattle.tla_value.proofs.FreeNames.{any_names, any_in_parts}
use Rattle.tla_value.proofs.Graft.{GraftedOn, bound_grafted, free_law, all_grafted}
use Rattle.tla_value.proofs.Relations.{Rel}
use Rattle.tla_value.specs.laws.Grafting.{BindsClear}
use Rattle.tla_value.specs.laws.FreeNames.{Any, FormReads}
use Rattle.pcal_tree.specs.Algorithm.{Span, Assignments, no_assignments, assignment, Binds, no_binds, one_of, is, Statement, assign, await, print, assert, skip, branch, either, with, while, goto, macro, call, return, Statements, done, then, mark, Branches, no_branches, or}
use Rattle.pcal_tree.specs.Scope.{State, Part, Scope, bound, place_in, place_of, places_of, deeper, reach, reach_path, reach_in, origin_in, value_of}
use Rattle.pcal_tree.specs.Assign.{set_all, settings}
use Rattle.pcal_tree.specs.Run.{Course, chooses, course, held, stops, after, at_each, no_partner, partner_of, Follow, Rules, unlabelled, label_of, run_binds, run_one, run, run_branches}
use Rattle.pcal_tree.specs.Expand.{placed_at, graft_left, graft_assignments, graft_binds, graft_one, graft_all, graft_some}
use Rattle.pcal_tree.specs.laws.Expansion.{Clean, CleanBinds, CleanAssignments, CleanOne, CleanSome, ClearName, Unreached}
use Rattle.pcal_tree.specs.laws.ReadNames.{Names, Reads, ReadsAll, ReadsAssignments, ReadsBinds, ReadsOne, ReadsBody, ReadsBranches}

pub valued_alike : (R : Rel) (ds es : List Denotation) (e f : Env) → AllAlike R ds es → R e f → part_values ds e ≡ part_values es f
valued_alike R _ _ e f none r = refl
valued_alike R _ _ e f (one p ps) r = λ i. (p e f r i).value >>= (λ v. (valued_alike R _ _ e f ps r i) >>= (λ vs. Ok (v ∷ vs)))

-- for the names of U, sc' is where they stand for the trees of g in sc; the part that a name is does not rest on its place
pub record Meets (c : Check) (g : Graft) (U : Names) (sc sc' : Scope) : Type 0 where
  pub env : (s : State) → GraftedOn c g U Any (sc.env s) (sc'.env s)
  pub part : (x : Word) → U x → (at : Place) (s : State) → sc'.part x at s ≡ reach_in c (g x at) x at sc s
  pub origin : (x : Word) → U x → (at : Place) → sc'.origin x at ≡ origin_in (g x at) x at sc
  pub free : (x : Word) (at p : Place) (s : State) → sc.part x at s ≡ sc.part x p s

module _ (c : Check) (g : Graft) (U : Names) where
  -- ---- left sides

  or_reach : (o : Option Tree) (x : Word) (at : Place) (us : Trees) (sc : Scope) (s : State) → reach c (grafted_name o (name x) at us) sc s ≡ reach_in c o x at sc s
  or_reach (Some t) x at us sc s = refl
  or_reach None x at us sc s = refl

  select_reach : (a : Word) (p q : Outcome Part) → p ≡ q → p >>= (λ r. Ok (deeper (text a ∷ []) r)) ≡ q >>= (λ r. Ok (deeper (text a ∷ []) r))
  select_reach a p q e = ap (λ z. z >>= (λ r. Ok (deeper (text a ∷ []) r))) e

  -- whatever further names the parts see: a left side has none that matters
  mutual
    reach_law : (t : Tree) → Every (BindsClear c g) t → Reads U t → (sc sc' : Scope) → Meets c g U sc sc' → (s : State) → reach c (graft g t) sc s ≡ reach c t sc' s
    reach_law (node (name x) at ts) h u sc sc' k s = or_reach (g x at) x at (grafts g ts) sc s ∙ sym (k.part x u.0 at s)
    reach_law (node (strict apply) at ts) h u sc sc' k s = path_law at ts h.1 u.1 sc sc' k s
    reach_law (node (strict (select a)) at ts) h u sc sc' k s = select_reach a _ _ (path_law at ts h.1 u.1 sc sc' k s)
    reach_law (node m at ts) h u sc sc' k s = refl

    path_law : (at : Place) (ts : Trees) → EveryOf (BindsClear c g) ts → ReadsAll U ts → (sc sc' : Scope) → Meets c g U sc sc' → (s : State) → reach_path c at (grafts g ts) sc s ≡ reach_path c at ts sc' s
    path_law at no_trees h u sc sc' k s = refl
    path_law at (tree f us) h u sc sc' k s =
        λ i. (reach_law f h.0 u.0 sc sc' k s i) >>= (λ p. (valued_alike (GraftedOn c g U Any) _ _ (sc.env s) (sc'.env s) (all_grafted c g U Any us h.1 u.1) (k.env s) i) >>= (λ ks. Ok (deeper ks p)))

  -- the place of a left side's root doesn't matter
  reach_free : (t : Tree) (q : Place) (sc : Scope) (s : State) → ((x : Word) (at p : Place) → sc.part x at s ≡ sc.part x p s) → reach c (placed_at q t) sc s ≡ reach c t sc s
  reach_free (node (name x) at ts) q sc s k = k x q at
  reach_free (node (strict apply) at no_trees) q sc s k = refl
  reach_free (node (strict apply) at (tree f us)) q sc s k = refl
  reach_free (node (strict (select a)) at no_trees) q sc s k = refl
  reach_free (node (strict (select a)) at (tree f us)) q sc s k = refl
  reach_free (node m at ts) q sc s k = refl

  left_law : (t : Tree) → Every (BindsClear c g) t → Reads U t → (sc sc' : Scope) → Meets c g U sc sc' → (s : State) → reach c (graft_left g t) sc s ≡ reach c t sc' s
  left_law (node m at ts) h u sc sc' k s =
      reach_free (graft g (node m at ts)) at sc s (λ x p q. k.free x p q s) ∙ reach_law (node m at ts) h u sc sc' k s

  root_kept : (at : Place) (t : Tree) → root_place (placed_at at t) ≡ at
  root_kept at (node m p ts) = refl

  left_root : (t : Tree) → root_place (graft_left g t) ≡ root_place t
  left_root (node m at ts) = root_kept at (graft g (node m at ts))

  -- ---- places

  or_place : (o : Option Tree) (x : Word) (at : Place) (us : Trees) (sc : Scope) → place_of (grafted_name o (name x) at us) sc ≡ origin_in o x at sc
  or_place (Some t) x at us sc = refl
  or_place None x at us sc = refl

  place_node : (m : Form) (at : Place) (ts us : Trees) (sc sc' : Scope) → FormReads U Any m → Meets c g U sc sc' → place_of (grafted_node g m at us) sc ≡ place_of (node m at ts) sc'
  place_node (name x) at ts us sc sc' u k = or_place (g x at) x at us sc ∙ sym (k.origin x u at)
  place_node m at ts us sc sc' u k = refl

  place_law : (t : Tree) → Reads U t → (sc sc' : Scope) → Meets c g U sc sc' → place_of (graft g t) sc ≡ place_of t sc'
  place_law (node m at ts) u sc sc' k = place_node m at ts (grafts g ts) sc sc' u.0 k

  places_law : (ts : Trees) → ReadsAll U ts → (sc sc' : Scope) → Meets c g U sc sc' → places_of (grafts g ts) sc ≡ places_of ts sc'
  places_law no_trees u sc sc' k = refl
  places_law (tree t ts) u sc sc' k = λ i. place_law t u.0 sc sc' k i ∷ places_law ts u.1 sc sc' k i

  -- ---- bound names

  bound_reach : (x y : Word) (at : Place) (v : Value) (sc : Scope) (s : State) (o : Option Tree) → Unreached c x o → reach_in c o y at sc s ≡ reach_in c o y at (bound x v sc) s
  bound_reach x y at v sc s (Some t) k = k v sc s
  bound_reach x y at v sc s None k = refl

  bound_in : (x : Word) (v : Value) (m : Form) (at : Place) (sc : Scope) → place_in m at sc ≡ place_in m at (bound x v sc)
  bound_in x v (name y) at sc = refl
  bound_in x v m at sc = refl

  bound_origin : (x y : Word) (at : Place) (v : Value) (sc : Scope) (o : Option Tree) → origin_in o y at sc ≡ origin_in o y at (bound x v sc)
  bound_origin x y at v sc (Some (node m p ts)) = bound_in x v m p sc
  bound_origin x y at v sc None = refl

  pub bound_meets : (x : Word) (v : Value) (sc sc' : Scope) → ClearName c g x → Meets c g U sc sc' → Meets c g U (bound x v sc) (bound x v sc')
  bound_meets x v sc sc' h k = record {
    env = λ s. bound_grafted c g U Any x h.clear (sc.env s) (sc'.env s) v (k.env s);
    part = λ y u at s. k.part y u at s ∙ bound_reach x y at v sc s (g y at) (h.unreached y at);
    origin = λ y u at. k.origin y u at ∙ bound_origin x y at v sc (g y at);
    free = k.free;
  }

  -- ---- statements

  value_law : (t : Tree) → Every (BindsClear c g) t → Reads U t → (sc sc' : Scope) → Meets c g U sc sc' → (s : State) → value_of c (graft g t) sc s ≡ value_of c t sc' s
  value_law t h u sc sc' k s = λ i. (free_law c g U Any t h u (sc.env s) (sc'.env s) (k.env s) i).value

  -- a value that is looked at further, at the tree's place
  needed_law : {X : Type 0} (t : Tree) → Every (BindsClear c g) t → Reads U t → (sc sc' : Scope) → Meets c g U sc sc' → (s : State) (go : Place → Value → Outcome X) → (value_of c (graft g t) sc s) >>= (go (place_of (graft g t) sc)) ≡ (value_of c t sc' s) >>= (go (place_of t sc'))
  needed_law t h u sc sc' k s go = λ i. (value_law t h u sc sc' k s i) >>= (go (place_law t u sc sc' k i))

  moves_law : (ms : Assignments) → CleanAssignments c g ms → ReadsAssignments U ms → (sc sc' : Scope) → Meets c g U sc sc' → (s : State) → settings c (graft_assignments g ms) sc s ≡ settings c ms sc' s
  moves_law no_assignments h u sc sc' k s = refl
  moves_law (assignment l e ms) h u sc sc' k s =
      λ i. (left_law l h.0 u.0 sc sc' k s i) >>= (λ p. (value_law e h.1 u.1 sc sc' k s i) >>= (λ v. (moves_law ms h.2 u.2 sc sc' k s i) >>= (λ rest. Ok (record { place = left_root l i; part = p; value = v } ∷ rest))))

  -- the bodies are alike in all scopes that meet
  abbrev pub BodiesAlike : (Scope → State → Course) → (Scope → State → Course) → Type 0
  BodiesAlike a b = (sc sc' : Scope) → Meets c g U sc sc' → a sc ≡ b sc'

  binds_law : (at : Place) (bs : Binds) → CleanBinds c g bs → ReadsBinds U bs → (a b : Scope → State → Course) → BodiesAlike a b → (sc sc' : Scope) → Meets c g U sc sc' → (s : State) → run_binds c at (graft_binds g bs) a sc s ≡ run_binds c at bs b sc' s
  binds_law at no_binds h u a b q sc sc' k s = λ i. q sc sc' k i s
  binds_law at (one_of x e bs) h u a b q sc sc' k s =
      λ i. after (needed_law e h.0 u.0 sc sc' k s members_at i) (λ vs. chooses at (at_each vs (λ v. binds_law at bs h.2 u.1 a b q (bound x.word v sc) (bound x.word v sc') (bound_meets x.word v sc sc' h.1 k) s i)))
  binds_law at (is x e bs) h u a b q sc sc' k s =
      λ i. after (value_law e h.0 u.0 sc sc' k s i) (λ v. binds_law at bs h.2 u.1 a b q (bound x.word v sc) (bound x.word v sc') (bound_meets x.word v sc sc' h.1 k) s i)

-- ---- labels and partners

graft_label : (g : Graft) (ss : Statements) {K L : Follow} → K ≡ L → label_of (graft_all g ss) K.label ≡ label_of ss L.label
graft_label g done q = λ i. (q i).label
graft_label g (then at st rest) q = refl
graft_label g (mark l m rest) q = refl

graft_partner_one : (g : Graft) (at : Span) (st : Statement) (r s : Statements) → partner_of (then at (graft_one g st) r) ≡ partner_of (then at st s)
graft_partner_one g at return r s = refl
graft_partner_one g at st r s = refl

pub graft_partner : (g : Graft) (ss : Statements) → partner_of (graft_all g ss) ≡ partner_of ss
graft_partner g done = refl
graft_partner g (then at st rest) = graft_partner_one g at st (graft_all g rest) rest
graft_partner g (mark l m rest) = refl

module _ (M : Rules) (g : Graft) (U : Names) where
  mutual
    graft_runs_one : (here : Word) (at : Place) (st : Statement) → CleanOne M.check g st → ReadsOne U st → (sc sc' : Scope) → Meets M.check g U sc sc' → (K L : Follow) → K ≡ L → run_one M here at (graft_one g st) sc K ≡ run_one M here at st sc' L
    graft_runs_one here at (assign ms) h u sc sc' k K L q = λ i s. after ((moves_law M.check g U ms h u sc sc' k s i) >>= (λ all. set_all M.check all s)) (q i).goes
    graft_runs_one here at (await e) h u sc sc' k K L q = λ i s. after (needed_law M.check g U e h u sc sc' k s truth_at i) (λ b. cond b (q i).goes (λ w. held at) s)
    graft_runs_one here at (print e) h u sc sc' k K L q = λ i s. after (value_law M.check g U e h u sc sc' k s i) (λ v. (q i).goes s)
    graft_runs_one here at (assert e) h u sc sc' k K L q = λ i s. after (needed_law M.check g U e h u sc sc' k s truth_at i) (λ b. cond b (q i).goes (λ w. stops (fault AssertFailed at)) s)
    graft_runs_one here at skip h u sc sc' k K L q = λ i s. (q i).goes s
    graft_runs_one here at (branch e a b) h u sc sc' k K L q =
        λ i s. after (needed_law M.check g U e h.0 u.0 sc sc' k s truth_at i) (λ yes. cond yes (graft_runs unlabelled a h.1 u.1 sc sc' k K L q i) (graft_runs unlabelled b h.2 u.2 sc sc' k K L q i) s)
    graft_runs_one here at (either bs) h u sc sc' k K L q = λ i s. chooses at (graft_runs_some bs h u sc sc' k K L q i s)
    graft_runs_one here at (with bs b) h u sc sc' k K L q =
        λ i s. binds_law M.check g U at bs h.0 u.0 (λ inner. run M unlabelled (graft_all g b) inner K) (λ inner. run M unlabelled b inner L) (λ a a' m. graft_runs unlabelled b h.1 u.1 a a' m K L q) sc sc' k s i
    graft_runs_one here at (while e b) h u sc sc' k K L q =
        λ i s. after (needed_law M.check g U e h.0 u.0 sc sc' k s truth_at i) (λ yes. cond yes (graft_runs unlabelled b h.1 u.1 sc sc' k (record { label = here; partner = no_partner; goes = M.goto here }) (record { label = here; partner = no_partner; goes = M.goto here }) refl i) (q i).goes s)
    graft_runs_one here at (goto l) h u sc sc' k K L q = refl
    graft_runs_one here at (macro m ts) h u sc sc' k K L q = absurd h
    graft_runs_one here at (call p ts) h u sc sc' k K L q =
        λ i s. after (valued_alike (GraftedOn M.check g U Any) _ _ (sc.env s) (sc'.env s) (all_grafted M.check g U Any ts h u) (k.env s) i) (λ vs. M.call at p.word (places_law M.check g U ts u sc sc' k i) vs (q i).label (q i).partner s)
    graft_runs_one here at return h u sc sc' k K L q = refl

    -- the courses are equal, kinds and places of faults included
    pub graft_runs : (here : Word) (ss : Statements) → Clean M.check g ss → ReadsBody U ss → (sc sc' : Scope) → Meets M.check g U sc sc' → (K L : Follow) → K ≡ L → run M here (graft_all g ss) sc K ≡ run M here ss sc' L
    graft_runs here done h u sc sc' k K L q = λ i. (q i).goes
    graft_runs here (then at st rest) h u sc sc' k K L q =
        graft_runs_one here at.first st h.0 u.0 sc sc' k (record { label = label_of (graft_all g rest) K.label; partner = partner_of (graft_all g rest); goes = run M unlabelled (graft_all g rest) sc K }) (record { label = label_of rest L.label; partner = partner_of rest; goes = run M unlabelled rest sc' L }) (λ i. record { label = graft_label g rest q i; partner = graft_partner g rest i; goes = graft_runs unlabelled rest h.1 u.1 sc sc' k K L q i })
    graft_runs here (mark l m rest) h u sc sc' k K L q = refl

    graft_runs_some : (bs : Branches) → CleanSome M.check g bs → ReadsBranches U bs → (sc sc' : Scope) → Meets M.check g U sc sc' → (K L : Follow) → K ≡ L → run_branches M (graft_some g bs) sc K ≡ run_branches M bs sc' L
    graft_runs_some no_branches h u sc sc' k K L q = refl
    graft_runs_some (or b bs) h u sc sc' k K L q = λ i s. course (graft_runs unlabelled b h.0 u.0 sc sc' k K L q i s) (graft_runs_some bs h.1 u.1 sc sc' k K L q i s)

-- ---- any names

any_read : (e : Tree) → Reads Any e
any_read e = any_names Any Any (λ x. tt) (λ x. tt) e

any_all : (ts : Trees) → ReadsAll Any ts
any_all ts = any_in_parts Any Any (λ x. tt) (λ x. tt) [] ts

any_assignments : (ms : Assignments) → ReadsAssignments Any ms
any_assignments no_assignments = tt
any_assignments (assignment l e ms) = (any_read l, any_read e, any_assignments ms)

any_binds : (bs : Binds) → ReadsBinds Any bs
any_binds no_binds = tt
any_binds (one_of x e bs) = (any_read e, any_binds bs)
any_binds (is x e bs) = (any_read e, any_binds bs)

mutual
  any_one : (st : Statement) → ReadsOne Any st
  any_one (assign ms) = any_assignments ms
  any_one (await e) = any_read e
  any_one (print e) = any_read e
  any_one (assert e) = any_read e
  any_one skip = tt
  any_one (branch e a b) = (any_read e, any_body a, any_body b)
  any_one (either bs) = any_branches bs
  any_one (with bs b) = (any_binds bs, any_body b)
  any_one (while e b) = (any_read e, any_body b)
  any_one (goto l) = tt
  any_one (macro m ts) = any_all ts
  any_one (call p ts) = any_all ts
  any_one return = tt

  pub any_body : (ss : Statements) → ReadsBody Any ss
  any_body done = tt
  any_body (then at st rest) = (any_one st, any_body rest)
  any_body (mark l k rest) = tt

  any_branches : (bs : Branches) → ReadsBranches Any bs
  any_branches no_branches = tt
  any_branches (or b bs) = (any_body b, any_branches bs)
