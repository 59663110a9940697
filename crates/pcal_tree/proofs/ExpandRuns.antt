-- The expanded statements take the same courses.
use Rattle.std.proofs.Common.{◌≡◌, List, [], ◌∷◌, Bool, true, false, cond, bytes_eq, Option, Some, None, refl, sym, ◌∙◌, ap}
use Rattle.tla_token.specs.declared.place.Place.{Place}
use Rattle.tla_tree.specs.Tree.{Word, Tree, Trees, no_trees, tree, Graft}
use Rattle.tla_value.specs.Stops.{Check}
use Rattle.tla_value.specs.Meaning.{evals, part_values}
use Rattle.pcal_tree.specs.Algorithm.{Name, Span, Binds, no_binds, one_of, is, Statement, assign, await, print, assert, skip, branch, either, with, while, goto, macro, call, return, Statements, done, then, mark, Branches, no_branches, or, Macro}
use Rattle.pcal_tree.specs.Scope.{State, Scope, bound, places_of, reach_in, through, value_of, test, members}
use Rattle.tla_value.specs.declared.fault.FaultKind.TheVariants.{AssertFailed}
use Rattle.pcal_tree.specs.Assign.{after_assignments}
use Rattle.pcal_tree.specs.Run.{Course, chooses, course, held, stops, after, at_each, no_partner, partner_of, Follow, Rules, unlabelled, label_of, run_binds, run_one, run, run_branches, arguments, Calling, with_calls, called, with_macros}
use Rattle.pcal_tree.specs.Expand.{graft_one, graft_all, followed_by, Writing, expand_one, expand, expand_some, written_out, expanded}
use Rattle.pcal_tree.proofs.GraftRuns.{Meets, graft_runs, any_body}
use Rattle.tla_value.specs.Value.{fault}
use Rattle.pcal_tree.specs.laws.Expansion.{Calls, CallsOne, CallsSome, Chosen, Throughout, FineCall, AnyPlace, BeginsUnlabelled, StaysOne, Stays}
use Rattle.tla_value.specs.laws.Grafting.{Apart, ApartForm}
use Rattle.tla_value.specs.laws.FreeNames.{Any}
use Rattle.pcal_tree.proofs.Uncaptured.{uncaptured}

pub through_meets : (c : Check) (g : Graft) (sc : Scope) → AnyPlace sc → Meets c g Any sc (through c g sc)
through_meets c g sc free = record {
  env = λ s. record { now = λ x u at. refl; primed = λ x at. refl; defs = λ x u. refl };
  part = λ x u at s. refl;
  origin = λ x u at. refl;
  free = free;
}

pub same_argument : (ps : List Name) (ts : Trees) (x : Word) (at p : Place) → arguments ps ts x at ≡ arguments ps ts x p
same_argument [] ts x at p = refl
same_argument (y ∷ ys) no_trees x at p = refl
same_argument (y ∷ ys) (tree t ts) x at p = ap (λ o. cond (bytes_eq y.word x) (Some t) o) (same_argument ys ts x at p)

pub through_free : (c : Check) (ps : List Name) (ts : Trees) (sc : Scope) → AnyPlace sc → AnyPlace (through c (arguments ps ts) sc)
through_free c ps ts sc free x at p s = (λ i. reach_in c (same_argument ps ts x at p i) x at sc s) ∙ by (arguments ps ts x p)
  where
    by : (o : Option Tree) → reach_in c o x at sc s ≡ reach_in c o x p sc s
    by (Some t) = refl
    by None = free x at p s

-- ---- lists one after the other

-- what follows a list: the rest, and then K
abbrev pub following : Rules → Statements → Scope → Follow → Follow
following M rest sc K = record { label = label_of rest K.label; partner = partner_of rest; goes = run M unlabelled rest sc K }

join_label : (a b : Statements) (l : Word) → label_of (followed_by a b) l ≡ label_of a (label_of b l)
join_label done b l = refl
join_label (then at st a) b l = refl
join_label (mark m k a) b l = refl

-- what follows a list has its label and the rest of the step, and nothing else of it matters
mutual
  part_unread : (M : Rules) (here : Word) (at : Place) (st : Statement) → StaysOne st → (sc : Scope) (K L : Follow) → K.label ≡ L.label → K.goes ≡ L.goes
      → run_one (with_macros M []) here at st sc K ≡ run_one (with_macros M []) here at st sc L
  part_unread M here at (assign ms) h sc K L p q = λ i s. after (after_assignments M.check ms sc s) (q i)
  part_unread M here at (await e) h sc K L p q = λ i s. after (test M.check e sc s) (λ b. cond b (q i) (λ u. held at) s)
  part_unread M here at (print e) h sc K L p q = λ i s. after (value_of M.check e sc s) (λ v. q i s)
  part_unread M here at (assert e) h sc K L p q = λ i s. after (test M.check e sc s) (λ b. cond b (q i) (λ u. stops (fault AssertFailed at)) s)
  part_unread M here at skip h sc K L p q = q
  part_unread M here at (branch e a b) h sc K L p q =
      λ i s. after (test M.check e sc s) (λ yes. cond yes (list_unread M unlabelled a sc K L p q i) (list_unread M unlabelled b sc K L p q i) s)
  part_unread M here at (either bs) h sc K L p q = λ i s. chooses at (some_unread M bs sc K L p q i s)
  part_unread M here at (with bs b) h sc K L p q = λ i s. run_binds M.check at bs (λ inner. list_unread M unlabelled b inner K L p q i) sc s
  part_unread M here at (while e b) h sc K L p q =
      λ i s. after (test M.check e sc s) (λ yes. cond yes (run (with_macros M []) unlabelled b sc (record { label = here; partner = no_partner; goes = M.goto here })) (q i) s)
  part_unread M here at (macro m ts) h sc K L p q = λ i s. held at
  part_unread M here at (goto l) h sc K L p q = absurd h
  part_unread M here at (call n ts) h sc K L p q = absurd h
  part_unread M here at return h sc K L p q = absurd h

  list_unread : (M : Rules) (here : Word) (ss : Statements) (sc : Scope) (K L : Follow) → K.label ≡ L.label → K.goes ≡ L.goes
      → run (with_macros M []) here ss sc K ≡ run (with_macros M []) here ss sc L
  list_unread M here done sc K L p q = q
  list_unread M here (then at st rest) sc K L p q =
      λ i. run_one (with_macros M []) here at.first st sc (record { label = label_of rest (p i); partner = partner_of rest; goes = list_unread M unlabelled rest sc K L p q i })
  list_unread M here (mark l k rest) sc K L p q = refl

  some_unread : (M : Rules) (bs : Branches) (sc : Scope) (K L : Follow) → K.label ≡ L.label → K.goes ≡ L.goes
      → run_branches (with_macros M []) bs sc K ≡ run_branches (with_macros M []) bs sc L
  some_unread M no_branches sc K L p q = refl
  some_unread M (or b bs) sc K L p q = λ i s. course (list_unread M unlabelled b sc K L p q i s) (some_unread M bs sc K L p q i s)

join_one : (M : Rules) (here : Word) (at : Span) (st : Statement) (a b : Statements) → StaysOne st → (sc : Scope) (K : Follow)
    → run (with_macros M []) unlabelled (followed_by a b) sc K ≡ run (with_macros M []) unlabelled a sc (following (with_macros M []) b sc K)
    → run (with_macros M []) here (then at st (followed_by a b)) sc K ≡ run (with_macros M []) here (then at st a) sc (following (with_macros M []) b sc K)
join_one M here at st a b h sc K q =
    part_unread M here at.first st h sc (following (with_macros M []) (followed_by a b) sc K) (following (with_macros M []) a sc (following (with_macros M []) b sc K))
    (join_label a b K.label) q

join_runs : (M : Rules) (a b : Statements) → Stays a → (sc : Scope) (K : Follow)
    → run (with_macros M []) unlabelled (followed_by a b) sc K ≡ run (with_macros M []) unlabelled a sc (following (with_macros M []) b sc K)
join_runs M done b h sc K = refl
join_runs M (then at st a) b h sc K = join_one M unlabelled at st a b h.0 sc K (join_runs M a b h.1 sc K)
join_runs M (mark l k a) b h sc K = refl

-- also at a label, where the first list begins with a statement
join_opens : (M : Rules) (here : Word) (a b : Statements) → BeginsUnlabelled a → Stays a → (sc : Scope) (K : Follow)
    → run (with_macros M []) here (followed_by a b) sc K ≡ run (with_macros M []) here a sc (following (with_macros M []) b sc K)
join_opens M here done b o h sc K = absurd o
join_opens M here (then at st a) b o h sc K = join_one M here at st a b h.0 sc K (join_runs M a b h.1 sc K)
join_opens M here (mark l k a) b o h sc K = absurd o

-- ---- calls written out

-- what is written for a call has its courses, where P holds
abbrev pub Written : Rules → Calling → Writing → (Word → Trees → Type 0) → Type 0
Written M f X P =
    (here : Word) (at : Span) (m : Word) (ts : Trees) → P m ts → BeginsUnlabelled (X at m ts) × Stays (X at m ts) × ((sc : Scope) → AnyPlace sc → (K : Follow) → f here at.first m ts sc K ≡ run (with_macros M []) here (X at m ts) sc K)

pub opens_joined : (a b : Statements) → BeginsUnlabelled a → BeginsUnlabelled (followed_by a b)
opens_joined done b h = absurd h
opens_joined (then at st a) b h = tt
opens_joined (mark l k a) b h = absurd h

opens_one : (M : Rules) (f : Calling) (X : Writing) (P : Word → Trees → Type 0) → Written M f X P → (at : Span) (st : Statement) (rest : Statements) → CallsOne P st → BeginsUnlabelled (expand_one X at st rest)
opens_one M f X P w at (macro m ts) rest h = opens_joined (X at m ts) rest (w unlabelled at m ts h).0
opens_one M f X P w at st rest h = tt

pub no_label : (ss : Statements) (l : Word) → BeginsUnlabelled ss → unlabelled ≡ label_of ss l
no_label done l h = absurd h
no_label (then at st rest) l h = refl
no_label (mark m k rest) l h = absurd h

expand_label : (M : Rules) (f : Calling) (X : Writing) (P : Word → Trees → Type 0) → Written M f X P → (ss : Statements) → Calls P ss → {K L : Follow} → K ≡ L → label_of ss K.label ≡ label_of (expand X ss) L.label
expand_label M f X P w done h q = λ i. (q i).label
expand_label M f X P w (then at st rest) h {L = L} q = no_label (expand_one X at st (expand X rest)) L.label (opens_one M f X P w at st (expand X rest) h.0)
expand_label M f X P w (mark l k rest) h q = refl

stays_partner : (at : Span) (st : Statement) (rest : Statements) → StaysOne st → no_partner ≡ partner_of (then at st rest)
stays_partner at (goto l) rest h = absurd h
stays_partner at (call p ts) rest h = absurd h
stays_partner at return rest h = absurd h
stays_partner at st rest h = refl

no_partner_joined : (a b : Statements) → BeginsUnlabelled a → Stays a → no_partner ≡ partner_of (followed_by a b)
no_partner_joined done b o h = absurd o
no_partner_joined (then at st a) b o h = stays_partner at st (followed_by a b) h.0
no_partner_joined (mark l k a) b o h = absurd o

expand_partner_one : (M : Rules) (f : Calling) (X : Writing) (P : Word → Trees → Type 0) → Written M f X P → (at : Span) (st : Statement) → CallsOne P st → (rest over : Statements) → partner_of (then at st rest) ≡ partner_of (expand_one X at st over)
expand_partner_one M f X P w at (macro m ts) h rest over = no_partner_joined (X at m ts) over (w unlabelled at m ts h).0 (w unlabelled at m ts h).1
expand_partner_one M f X P w at st h rest over = refl

expand_partner : (M : Rules) (f : Calling) (X : Writing) (P : Word → Trees → Type 0) → Written M f X P → (ss : Statements) → Calls P ss → partner_of ss ≡ partner_of (expand X ss)
expand_partner M f X P w done h = refl
expand_partner M f X P w (then at st rest) h = expand_partner_one M f X P w at st h.0 rest (expand X rest)
expand_partner M f X P w (mark l k rest) h = refl

binds_same : (c : Check) (at : Place) (bs : Binds) (a b : Scope → State → Course) → ((sc : Scope) → AnyPlace sc → a sc ≡ b sc) → (sc : Scope) → AnyPlace sc → (s : State) → run_binds c at bs a sc s ≡ run_binds c at bs b sc s
binds_same c at no_binds a b q sc free s = λ i. q sc free i s
binds_same c at (one_of x e bs) a b q sc free s =
    λ i. after (members c e sc s) (λ vs. chooses at (at_each vs (λ v. binds_same c at bs a b q (bound x.word v sc) free s i)))
binds_same c at (is x e bs) a b q sc free s = λ i. after (value_of c e sc s) (λ v. binds_same c at bs a b q (bound x.word v sc) free s i)

mutual
  expand_runs_one : (M : Rules) (f : Calling) (X : Writing) (P : Word → Trees → Type 0) → Written M f X P → (here : Word) (at : Span) (st : Statement) → CallsOne P st → (sc : Scope) → AnyPlace sc → (K L : Follow) (rest : Statements) → K ≡ following (with_macros M []) rest sc L → run_one (with_calls M f) here at.first st sc K ≡ run (with_macros M []) here (expand_one X at st rest) sc L
  expand_runs_one M f X P w here at (macro m ts) h sc free K L rest q =
      (w here at m ts h).2 sc free K ∙ (λ i. run (with_macros M []) here (X at m ts) sc (q i)) ∙ sym (join_opens M here (X at m ts) rest (w here at m ts h).0 (w here at m ts h).1 sc L)
  expand_runs_one M f X P w here at (branch e a b) h sc free K L rest q =
      λ i s. after (test M.check e sc s) (λ yes. cond yes (expand_runs M f X P w unlabelled a h.0 sc free K _ q i) (expand_runs M f X P w unlabelled b h.1 sc free K _ q i) s)
  expand_runs_one M f X P w here at (either bs) h sc free K L rest q = λ i s. chooses at.first (expand_runs_some M f X P w bs h sc free K _ q i s)
  expand_runs_one M f X P w here at (with bs b) h sc free K L rest q =
      λ i s. binds_same M.check at.first bs (λ inner. run (with_calls M f) unlabelled b inner K) (λ inner. run (with_macros M []) unlabelled (expand X b) inner (following (with_macros M []) rest sc L)) (λ inner k. expand_runs M f X P w unlabelled b h inner k K (following (with_macros M []) rest sc L) q) sc free s i
  expand_runs_one M f X P w here at (while e b) h sc free K L rest q =
      λ i s. after (test M.check e sc s) (λ yes. cond yes (expand_runs M f X P w unlabelled b h sc free (record { label = here; partner = no_partner; goes = M.goto here }) (record { label = here; partner = no_partner; goes = M.goto here }) refl i) (q i).goes s)
  expand_runs_one M f X P w here at (assign ms) h sc free K L rest q = λ i s. after (after_assignments M.check ms sc s) (q i).goes
  expand_runs_one M f X P w here at (await e) h sc free K L rest q = λ i s. after (test M.check e sc s) (λ b. cond b (q i).goes (λ u. held at.first) s)
  expand_runs_one M f X P w here at (print e) h sc free K L rest q = λ i s. after (value_of M.check e sc s) (λ v. (q i).goes s)
  expand_runs_one M f X P w here at (assert e) h sc free K L rest q =
      λ i s. after (test M.check e sc s) (λ b. cond b (q i).goes (λ u. stops (fault AssertFailed at.first)) s)
  expand_runs_one M f X P w here at skip h sc free K L rest q = λ i s. (q i).goes s
  expand_runs_one M f X P w here at (goto l) h sc free K L rest q = refl
  expand_runs_one M f X P w here at (call p ts) h sc free K L rest q =
      λ i s. after (part_values (evals M.check ts) (sc.env s)) (λ vs. M.call at.first p.word (places_of ts sc) vs (q i).label (q i).partner s)
  expand_runs_one M f X P w here at return h sc free K L rest q = refl

  expand_runs : (M : Rules) (f : Calling) (X : Writing) (P : Word → Trees → Type 0) → Written M f X P → (here : Word) (ss : Statements) → Calls P ss → (sc : Scope) → AnyPlace sc → (K L : Follow) → K ≡ L → run (with_calls M f) here ss sc K ≡ run (with_macros M []) here (expand X ss) sc L
  expand_runs M f X P w here done h sc free K L q = λ i. (q i).goes
  expand_runs M f X P w here (then at st rest) h sc free K L q =
      expand_runs_one M f X P w here at st h.0 sc free (following (with_calls M f) rest sc K) L (expand X rest) (λ i. record { label = expand_label M f X P w rest h.1 q i; partner = expand_partner M f X P w rest h.1 i; goes = expand_runs M f X P w unlabelled rest h.1 sc free K L q i })
  expand_runs M f X P w here (mark l k rest) h sc free K L q = refl

  expand_runs_some : (M : Rules) (f : Calling) (X : Writing) (P : Word → Trees → Type 0) → Written M f X P → (bs : Branches) → CallsSome P bs → (sc : Scope) → AnyPlace sc → (K L : Follow) → K ≡ L → run_branches (with_calls M f) bs sc K ≡ run_branches (with_macros M []) (expand_some X bs) sc L
  expand_runs_some M f X P w no_branches h sc free K L q = refl
  expand_runs_some M f X P w (or b bs) h sc free K L q =
      λ i s. course (expand_runs M f X P w unlabelled b h.0 sc free K L q i s) (expand_runs_some M f X P w bs h.1 sc free K L q i s)

-- ---- the macros

pub opens_graft : (g : Graft) (ss : Statements) → BeginsUnlabelled ss → BeginsUnlabelled (graft_all g ss)
opens_graft g done h = absurd h
opens_graft g (then at st rest) h = tt
opens_graft g (mark l k rest) h = absurd h

opens_expand : (M : Rules) (f : Calling) (X : Writing) (P : Word → Trees → Type 0) → Written M f X P → (ss : Statements) → Calls P ss → BeginsUnlabelled ss → BeginsUnlabelled (expand X ss)
opens_expand M f X P w done h o = absurd o
opens_expand M f X P w (then at st rest) h o = opens_one M f X P w at st (expand X rest) h.0
opens_expand M f X P w (mark l k rest) h o = absurd o

stays_graft_one : (g : Graft) (st : Statement) → StaysOne st → StaysOne (graft_one g st)
stays_graft_one g (goto l) h = absurd h
stays_graft_one g (call p ts) h = absurd h
stays_graft_one g return h = absurd h
stays_graft_one g st h = tt

stays_graft : (g : Graft) (ss : Statements) → Stays ss → Stays (graft_all g ss)
stays_graft g done h = tt
stays_graft g (then at st rest) h = (stays_graft_one g st h.0, stays_graft g rest h.1)
stays_graft g (mark l k rest) h = tt

stays_joined : (a b : Statements) → Stays a → Stays b → Stays (followed_by a b)
stays_joined done b h k = k
stays_joined (then at st a) b h k = (h.0, stays_joined a b h.1 k)
stays_joined (mark l m a) b h k = tt

stays_expand_one : (M : Rules) (f : Calling) (X : Writing) (P : Word → Trees → Type 0) → Written M f X P → (at : Span) (st : Statement) (rest : Statements) → CallsOne P st → StaysOne st → Stays rest → Stays (expand_one X at st rest)
stays_expand_one M f X P w at (macro m ts) rest c h k = stays_joined (X at m ts) rest (w unlabelled at m ts c).1 k
stays_expand_one M f X P w at (goto l) rest c h k = absurd h
stays_expand_one M f X P w at (call p ts) rest c h k = absurd h
stays_expand_one M f X P w at return rest c h k = absurd h
stays_expand_one M f X P w at st rest c h k = (tt, k)

stays_expand : (M : Rules) (f : Calling) (X : Writing) (P : Word → Trees → Type 0) → Written M f X P → (ss : Statements) → Calls P ss → Stays ss → Stays (expand X ss)
stays_expand M f X P w done c h = tt
stays_expand M f X P w (then at st rest) c h = stays_expand_one M f X P w at st (expand X rest) c.0 h.0 (stays_expand M f X P w rest c.1 h.1)
stays_expand M f X P w (mark l k rest) c h = tt

called_law : (M : Rules) (ms : List Macro) → Written M (called M ms) (written_out ms) (FineCall ms)
called_law M [] here at m ts h = (tt, (tt, tt), λ sc free K. refl)
called_law M (d ∷ older) here at m ts h = by (called_law M older) (bytes_eq d.name.word m) h
  where
    by : Written M (called M older) (written_out older) (FineCall older) → (b : Bool) → Chosen b (Throughout (ApartForm (arguments d.params ts)) (Apart (arguments d.params ts)) (expand (written_out older) d.body) × Calls (FineCall older) d.body × BeginsUnlabelled d.body × Stays d.body) (FineCall older m ts) → BeginsUnlabelled (cond b (graft_all (arguments d.params ts) (expand (written_out older) d.body)) (written_out older at m ts)) × Stays (cond b (graft_all (arguments d.params ts) (expand (written_out older) d.body)) (written_out older at m ts)) × ((sc : Scope) → AnyPlace sc → (K : Follow) → (λ s. cond b (run (with_calls M (called M older)) here d.body (through M.check (arguments d.params ts) sc) K) (called M older here at.first m ts sc K) s) ≡ run (with_macros M []) here (cond b (graft_all (arguments d.params ts) (expand (written_out older) d.body)) (written_out older at m ts)) sc K)
    by ih true k =
        let g : Graft = arguments d.params ts in (
          opens_graft g (expand (written_out older) d.body) (opens_expand M (called M older) (written_out older) (FineCall older) ih d.body k.1 k.2),
          stays_graft g (expand (written_out older) d.body) (stays_expand M (called M older) (written_out older) (FineCall older) ih d.body k.1 k.3),
          λ sc free K. expand_runs M (called M older) (written_out older) (FineCall older) ih here d.body k.1 (through M.check g sc) (through_free M.check d.params ts sc free) K K refl
              ∙ sym (graft_runs (with_macros M []) g Any here (expand (written_out older) d.body) (uncaptured M.check g (expand (written_out older) d.body) k.0) (any_body (expand (written_out older) d.body)) sc (through M.check g sc) (through_meets M.check g sc free) K K refl),
        )
    by ih false k = ih here at m ts k

-- the same courses, places and kinds of faults included, in every scope and with anything after
pub expansion : (M : Rules) (ms : List Macro) (here : Word) (ss : Statements) → Calls (FineCall ms) ss → (sc : Scope) → AnyPlace sc → (K : Follow) → run (with_macros M ms) here ss sc K ≡ run (with_macros M []) here (expanded ms ss) sc K
expansion M ms here ss h sc free K = expand_runs M (called M ms) (written_out ms) (FineCall ms) (called_law M ms) here ss h sc free K K refl
