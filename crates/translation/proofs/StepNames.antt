-- Under written names, and with the variables of the process at its identifier, expressions and assignments of a step are such as items can be written for.
use Rattle.std.proofs.Common.{◌≡◌, List, [], ◌∷◌, ◌++◌, filter, Bool, true, false, ◌||◌, not, cond, bytes_eq, Option, Some, None, ◌⊎◌, inl, inr, refl, sym, ap, subst, ◌∙◌}
use Rattle.std.proofs.lemmas.Bool.{both_ways, or_parts, not-true, false_from_ne_true}
use Rattle.std.proofs.lemmas.Slice.Eq.{bytes_eq-Decides}
use Rattle.std.specs.List.{list_any}
use Rattle.tla_token.specs.declared.place.Place.{Place}
use Rattle.tla_token.specs.Signs.{is_among}
use Rattle.tla_token.proofs.Spelled.{same_bytes}
use Rattle.tla_tree.specs.Tree.{Word, words, Form, name, next, Tree, node, Trees, no_trees, Every, binders, Graft, graft, grafts}
use Rattle.tla_value.specs.Grafts.{owned, own_part}
use Rattle.tla_value.specs.laws.Grafting.{In, BindsNone, IsUnprimed}
use Rattle.tla_value.proofs.Facts.{each_weaker, every_weaker}
use Rattle.module_tree.specs.Formulas.{self}
use Rattle.pcal_tree.specs.Algorithm.{declares, Routine, locals, Definition, Assignments, no_assignments, assignment, Binds, no_binds, one_of, is, Algorithm}
use Rattle.pcal_tree.specs.Expand.{placed_at, graft_left, graft_assignments, graft_binds}
use Rattle.pcal_tree.specs.Paths.{root, some_word, roots}
use Rattle.pcal_tree.specs.Program.{Program, written}
use Rattle.pcal_tree.specs.Reads.{Reading, used, through, among_looked_at, readings, readings_of}
use Rattle.pcal_tree.specs.Variables.{vars}
use Rattle.action_builder.specs.Assigned.{Names, head_of, without, heads}
use Rattle.action_builder.specs.OwnVariables.{is_own_variable}
use Rattle.action_builder.specs.Written.{is_old}
use Rattle.action_builder.specs.WrittenNames.{renames}
use Rattle.action_builder.specs.laws.Ready.{Readable, IsWithin, IsLeft, LeftSides, FineTree, FineSides, FineAssignments, FineBinds, Apart}
use Rattle.action_builder.proofs.Main.{in_front, behind}
use Rattle.translation.specs.laws.FreshReads.{fresh, Plain, ReadsFresh, AllReadFresh, SidesReadFresh, BindsReadFresh}
use Rattle.translation.specs.laws.StepNames.{name_of, Unused, StepNames}
use Rattle.translation.specs.laws.WritableAlgorithm.{is_variable, AreWritableAssignments}
use Rattle.translation.proofs.AskedSteps.{roots_are}
use Rattle.translation.proofs.NamedBodies.{head_root}
use Rattle.translation.proofs.PutTrees.{IfEvery, every_put, each_put, root_left, IfLeft, side_put, root_of, side_root}
use Rattle.translation.proofs.ReadiedSteps.{From, Became}
use Rattle.translation.proofs.StepsOnce as steps
use Rattle.pcal_tree.proofs.GraftsRead.{IfFree, Puts, free_put, parts_put}

-- ---- what definitions read is global

among_kept : (f : Word → Bool) (xs : List Word) (y : Word) → is_among (filter f xs) y ≡ true → is_among xs y ≡ true
among_kept f [] y m = m
among_kept f (x ∷ xs) y m = by (f x) m (among_kept f xs y)
  where
    either : (b : Bool) (c d : Bool) → (c ≡ true → d ≡ true) → (b || c) ≡ true → (b || d) ≡ true
    either true c d k e = refl
    either false c d k e = k e

    later : (b c : Bool) → c ≡ true → (b || c) ≡ true
    later true c e = refl
    later false c e = e

    by : (b : Bool) → is_among (cond b (x ∷ filter f xs) (filter f xs)) y ≡ true → (is_among (filter f xs) y ≡ true → is_among xs y ≡ true) → is_among (x ∷ xs) y ≡ true
    by true k g = either (bytes_eq x y) (is_among (filter f xs) y) (is_among xs y) g k
    by false k g = later (bytes_eq x y) (is_among xs y) (g k)

pub readings_global : (gs : List Word) (ds : List Definition) (x y : Word) → is_among (through (readings gs ds) x) y ≡ true → is_among gs y ≡ true
readings_global gs [] x y m = cc
readings_global gs (d ∷ older) x y m = by (among_looked_at (readings gs older) (used d.body (words d.params))) (bytes_eq d.name.word x) m (readings_global gs older x y)
  where
    by : (f : Word → Bool) (b : Bool) → is_among (cond b (filter f gs) (through (readings gs older) x)) y ≡ true → (is_among (through (readings gs older) x) y ≡ true → is_among gs y ≡ true) → is_among gs y ≡ true
    by f true k g = among_kept f gs y k
    by f false k g = g k

pub through_global : (a : Algorithm) (x y : Word) → is_among (through (readings_of a) x) y ≡ true → declares a.globals y ≡ true
through_global a x y m = readings_global _ _ x y m

-- ---- booleans

pub any_none : (A : Names) (ys : List Word) → ((y : Word) → is_among ys y ≡ true → A y ≡ false) → list_any A ys ≡ false
any_none A [] h = refl
any_none A (y ∷ ys) h = by (A y) (h y (here y ys)) (any_none A ys (λ x m. h x (later (bytes_eq y x) (is_among ys x) m)))
  where
    itself : (z : Word) → bytes_eq z z ≡ true
    itself z = (bytes_eq-Decides z z).1 refl

    here : (y : Word) (ys : List Word) → is_among (y ∷ ys) y ≡ true
    here y ys = λ i. itself y i || is_among ys y

    later : (b c : Bool) → c ≡ true → (b || c) ≡ true
    later true c e = refl
    later false c e = e

    by : (b : Bool) → b ≡ false → list_any A ys ≡ false → (b || list_any A ys) ≡ false
    by true e k = absurd cc
    by false e k = k

pub any_each : (A : Names) (ys : List Word) → list_any A ys ≡ false → (y : Word) → is_among ys y ≡ true → A y ≡ false
any_each A [] h y m = cc
any_each A (x ∷ xs) h y m =
    let p = or_parts (A x) (list_any A xs) h in
    by (bytes_eq x y) refl m p.0 (any_each A xs p.1 y)
  where
    by : (b : Bool) → bytes_eq x y ≡ b → (b || is_among xs y) ≡ true → A x ≡ false → (is_among xs y ≡ true → A y ≡ false) → A y ≡ false
    by true e k q f = ap A (sym (same_bytes x y e)) ∙ q
    by false e k q f = f k

pub negated : (b : Bool) → b ≡ false → not b ≡ true
negated true e = cc
negated false e = refl

module _ (P : Program) (u : Routine) (N : Word → Type 0) (k : StepNames P u N) where
  abbrev a : Algorithm
  a = P.algorithm

  abbrev ds : List Reading
  ds = readings_of a

  abbrev vs : List Word
  vs = vars P

  abbrev V : Word → Bool
  V = is_variable a u

  abbrev U : Readable
  U = fresh ds

  abbrev r : Word → Word
  r = name_of P u

  abbrev g : Graft
  g = renames P u

  abbrev h : Graft
  h = owned self (is_own_variable P)

  -- ---- variables and their written names

  pub variable_is : (x : Word) → V x ≡ true → is_among vs (r x) ≡ true
  variable_is x v = by (declares (locals u) x) refl v
    where
      global : (b c : Bool) → c ≡ false → (b || c) ≡ true → b ≡ true
      global true c e q = refl
      global false c e q = sym e ∙ q

      by : (b : Bool) → declares (locals u) x ≡ b → (declares a.globals x || b) ≡ true → is_among vs (cond b (written P u x) x) ≡ true
      by true e q = k.local x e
      by false e q = k.global x (global (declares a.globals x) false refl q)

  -- a variable is the routine's own, or else a global that keeps its name
  abbrev Kind : Word → Type 0
  Kind x = ((declares (locals u) x ≡ true) × (r x ≡ written P u x)) ⊎ ((declares a.globals x ≡ true) × (r x ≡ x))

  kind_of : (x : Word) → V x ≡ true → Kind x
  kind_of x v = by (declares (locals u) x) refl v
    where
      global : (b : Bool) → (b || false) ≡ true → b ≡ true
      global true q = refl
      global false q = q

      by : (b : Bool) → declares (locals u) x ≡ b → (declares a.globals x || b) ≡ true → ((declares (locals u) x ≡ true) × (cond b (written P u x) x ≡ written P u x)) ⊎ ((declares a.globals x ≡ true) × (cond b (written P u x) x ≡ x))
      by true e q = inl (e, refl)
      by false e q = inr (global (declares a.globals x) q, refl)

  no_global : (x : Word) → declares (locals u) x ≡ true → (y : Word) → declares a.globals y ≡ true → written P u x ≡ y → ⊥
  no_global x l y d e = both_ways (declares a.globals (written P u x)) (k.new x l) (ap (declares a.globals) e ∙ d)

  pub variable_apart : (x y : Word) → V x ≡ true → V y ≡ true → r x ≡ r y → x ≡ y
  variable_apart x y v w e = by (kind_of x v) (kind_of y w)
    where
      by : Kind x → Kind y → x ≡ y
      by (inl p) (inl q) = k.apart x y p.0 q.0 (sym p.1 ∙ (e ∙ q.1))
      by (inl p) (inr q) = absurd (no_global x p.0 y q.0 (sym p.1 ∙ (e ∙ q.1)))
      by (inr p) (inl q) = absurd (no_global y q.0 x p.0 (sym q.1 ∙ (sym e ∙ p.1)))
      by (inr p) (inr q) = sym p.1 ∙ (e ∙ q.1)

  -- ---- what is assigned

  pub became_variables : (A B : Names) → Became r A B → IsWithin A V → IsWithin B (is_among vs)
  became_variables A B q w y b = (let z = q y b in subst (λ (x : Word). is_among vs x ≡ true) z.2 (variable_is z.0 (w z.0 z.1)))

  pub became_apart : (A B : Names) → Became r A B → IsWithin A V → (xs ys : List Word) → ((x : Word) → steps.In xs x → V x ≡ true) → Apart A xs → From r xs ys → Apart B ys
  became_apart A B q w xs ys v p f y m = false_from_ne_true (B y) (λ b. (let z = q y b in let t = f y m in
      both_ways (A t.0) (p t.0 t.1) (ap A (sym (variable_apart z.0 t.0 (w z.0 z.1) (v t.0 t.1) (z.2 ∙ sym t.2))) ∙ z.1)))

  -- a global is assigned under its name
  pub became_global : (A B : Names) → Became r A B → IsWithin A V → (y : Word) → declares a.globals y ≡ true → B y ≡ true → A y ≡ true
  became_global A B q w y d b = (let z = q y b in by z.0 z.1 z.2 (kind_of z.0 (w z.0 z.1)))
    where
      by : (x : Word) → A x ≡ true → r x ≡ y → Kind x → A y ≡ true
      by x m e (inl p) = absurd (no_global x p.0 y d (sym p.1 ∙ e))
      by x m e (inr p) = ap A (sym e ∙ p.1) ∙ m

  -- the globals of B are of A
  abbrev pub GlobalsOf : Names → Names → Type 0
  GlobalsOf A B = (y : Word) → declares a.globals y ≡ true → B y ≡ true → A y ≡ true

  pub fresh_globals : (A B : Names) → GlobalsOf A B → (x : Word) → U A x ≡ true → U B x ≡ true
  fresh_globals A B q x e =
      negated (list_any B (through ds x)) (any_none B (through ds x) (λ y m. false_from_ne_true (B y) (λ b.
      both_ways (A y) (any_each A (through ds x) (not-true (list_any A (through ds x)) e) y m) (q y (through_global a x y m) b))))

  pub fresh_became : (A B : Names) → Became r A B → IsWithin A V → (x : Word) → U A x ≡ true → U B x ≡ true
  fresh_became A B q w = fresh_globals A B (became_global A B q w)

  pub unused_fresh : (B : Names) (x : Word) → Unused P x → U B x ≡ true
  unused_fresh B x e = ap (λ (ys : List Word). not (list_any B ys)) e

  pub variable_fresh : (B : Names) (x : Word) → is_among vs x ≡ true → U B x ≡ true
  variable_fresh B x m = unused_fresh B x (k.untitled x m)

  -- ---- expressions

  plain_name : (x : Word) (at : Place) → Every (Plain N) (node (name x) at no_trees)
  plain_name x at = ((tt, tt), tt)

  plain_own : (x : Word) (at : Place) → Every (Plain N) (own_part self x at)
  plain_own x at = ((tt, tt), (((tt, tt), tt), (((tt, tt), tt), tt)))

  names_plain : (y : Word) (at : Place) → IfEvery (Plain N) (g y at)
  names_plain y at = by (declares (locals u) y)
    where
      by : (b : Bool) → IfEvery (Plain N) (cond b (Some (node (name (written P u y)) at no_trees)) None)
      by true = plain_name (written P u y) at
      by false = tt

  own_plain : (y : Word) (at : Place) → IfEvery (Plain N) (h y at)
  own_plain y at = by (is_own_variable P y)
    where
      by : (b : Bool) → IfEvery (Plain N) (cond b (Some (own_part self y at)) None)
      by true = plain_own y at
      by false = tt

  names_put : (A B : Names) → ((x : Word) → U A x ≡ true → U B x ≡ true) → Puts g (In (U A)) (In (U A)) (In (U B)) (In (U B))
  names_put A B f = record {
    left = λ y at n e. f y n;
    put = λ y at. by y at (declares (locals u) y) refl;
    operators = λ y n. f y n;
  }
    where
      by : (y : Word) (at : Place) (b : Bool) → declares (locals u) y ≡ b → IfFree (In (U B)) (In (U B)) (cond b (Some (node (name (written P u y)) at no_trees)) None)
      by y at true e = (variable_fresh B (written P u y) (k.local y e), tt)
      by y at false e = tt

  own_put : (B : Names) → Puts h (In (U B)) (In (U B)) (In (U B)) (In (U B))
  own_put B = record {
    left = λ y at n e. n;
    put = λ y at. by y at (is_own_variable P y) refl;
    operators = λ y n. n;
  }
    where
      by : (y : Word) (at : Place) (b : Bool) → is_own_variable P y ≡ b → IfFree (In (U B)) (In (U B)) (cond b (Some (own_part self y at)) None)
      by y at true e = (tt, ((variable_fresh B y (k.own y e), tt), ((unused_fresh B self k.self_untitled, tt), tt)))
      by y at false e = tt

  -- what may be read where those of A are assigned may be read where those of B are
  pub named_reads : (A B : Names) → ((x : Word) → U A x ≡ true → U B x ≡ true) → (e : Tree) → ReadsFresh ds N A e → ReadsFresh ds N B (graft g e)
  named_reads A B q e f = record { free = free_put g _ _ _ _ (names_put A B q) e f.free; plain = every_put (Plain N) g names_plain e f.plain }

  pub named_trees : (A B : Names) → ((x : Word) → U A x ≡ true → U B x ≡ true) → (ts : Trees) → AllReadFresh ds N A ts → AllReadFresh ds N B (grafts g ts)
  named_trees A B q ts f = record { free = parts_put g _ _ _ _ (names_put A B q) [] ts f.free; plain = each_put (Plain N) g names_plain ts f.plain }

  pub own_reads : (B : Names) (e : Tree) → ReadsFresh ds N B e → ReadsFresh ds N B (graft h e)
  own_reads B e f = record { free = free_put h _ _ _ _ (own_put B) e f.free; plain = every_put (Plain N) h own_plain e f.plain }

  unprimed_any : (m : Form) (at p : Place) → IsUnprimed m at → IsUnprimed m p
  unprimed_any (next x) at p e = absurd e
  unprimed_any m at p e = tt

  placed_reads : (B : Names) (at : Place) (t : Tree) → ReadsFresh ds N B t → ReadsFresh ds N B (placed_at at t)
  placed_reads B at (node m p ts) f = record { free = f.free; plain = ((f.plain.0.0, unprimed_any m p at f.plain.0.1), f.plain.1) }

  pub side_reads : (A B : Names) (j : Graft) → ((e : Tree) → ReadsFresh ds N A e → ReadsFresh ds N B (graft j e)) → (l : Tree) → ReadsFresh ds N A l → ReadsFresh ds N B (graft_left j l)
  side_reads A B j f (node m at ts) q = placed_reads B at (graft j (node m at ts)) (f (node m at ts) q)

  pub fine_of : (B : Names) → IsWithin B (is_among vs) → (t : Tree) → ReadsFresh ds N B t → FineTree U B t
  fine_of B w t f = (
    every_weaker (Plain N) (BindsNone B) (λ m at p. each_weaker N (λ x. B x ≡ false) unbound (binders m) p.0) t f.plain,
    every_weaker (Plain N) IsUnprimed (λ m at p. p.1) t f.plain,
    f.free,
  )
    where
      unbound : (x : Word) → N x → B x ≡ false
      unbound x n = false_from_ne_true (B x) (λ b. both_ways (is_among vs x) (k.bound x n).0 (w x b))

  pub tree_fine : (A B : Names) → Became r A B → IsWithin A V → (e : Tree) → ReadsFresh ds N A e → FineTree U B (graft h (graft g e))
  tree_fine A B q w e f = fine_of B (became_variables A B q w) (graft h (graft g e)) (own_reads B (graft g e) (named_reads A B (fresh_became A B q w) e f))

  -- ---- left sides

  names_left : (y : Word) (at : Place) → V y ≡ true → IfLeft (is_among vs) (g y at) y
  names_left y at v = by (declares (locals u) y) refl (variable_is y v)
    where
      by : (b : Bool) → declares (locals u) y ≡ b → is_among vs (cond b (written P u y) y) ≡ true → IfLeft (is_among vs) (cond b (Some (node (name (written P u y)) at no_trees)) None) y
      by true e q = q
      by false e q = q

  pub own_left : (y : Word) (at : Place) → is_among vs y ≡ true → IfLeft (is_among vs) (h y at) y
  own_left y at v = by (is_own_variable P y)
    where
      by : (b : Bool) → IfLeft (is_among vs) (cond b (Some (own_part self y at)) None) y
      by true = v
      by false = v

  side_left : (l : Tree) (x : Word) → root l ≡ Some x → V x ≡ true → IsLeft (is_among vs) (graft_left h (graft_left g l))
  side_left l x e v = side_put (is_among vs) (is_among vs) h own_left (graft_left g l) (side_put V (is_among vs) g names_left l (root_left V x v l e))

  names_root : (y : Word) (at : Place) → root_of (g y at) y ≡ Some (r y)
  names_root y at = by (declares (locals u) y)
    where
      by : (b : Bool) → root_of (cond b (Some (node (name (written P u y)) at no_trees)) None) y ≡ Some (cond b (written P u y) y)
      by true = refl
      by false = refl

  pub own_root : (y : Word) (at : Place) → root_of (h y at) y ≡ Some y
  own_root y at = by (is_own_variable P y)
    where
      by : (b : Bool) → root_of (cond b (Some (own_part self y at)) None) y ≡ Some y
      by true = refl
      by false = refl

  head_put : (l : Tree) (x : Word) → root l ≡ Some x → head_of (graft_left h (graft_left g l)) ≡ r x
  head_put l x e = head_root (graft_left h (graft_left g l)) (r x) (side_root h (λ y. y) own_root (graft_left g l) (r x) (side_root g r names_root l x e))

  -- ---- assignments

  abbrev put_all : Assignments → Assignments
  put_all ms = graft_assignments h (graft_assignments g ms)

  pub without_within : (y : Word) (ys : List Word) (x : Word) → is_among (without y ys) x ≡ true → is_among ys x ≡ true
  without_within y [] x m = m
  without_within y (z ∷ zs) x m = by (bytes_eq y z) m (without_within y zs x)
    where
      either : (b c d : Bool) → (c ≡ true → d ≡ true) → (b || c) ≡ true → (b || d) ≡ true
      either true c d f e = refl
      either false c d f e = f e

      later : (b c : Bool) → c ≡ true → (b || c) ≡ true
      later true c e = refl
      later false c e = e

      by : (b : Bool) → is_among (cond b (without y zs) (z ∷ without y zs)) x ≡ true → (is_among (without y zs) x ≡ true → is_among zs x ≡ true) → is_among (z ∷ zs) x ≡ true
      by true e f = later (bytes_eq z x) (is_among zs x) (f e)
      by false e f = either (bytes_eq z x) (is_among (without y zs) x) (is_among zs x) f e

  pub assigned_from : (ms : Assignments) → AreWritableAssignments V ms → From r (roots ms) (heads (put_all ms))
  assigned_from no_assignments w y m = cc
  assigned_from (assignment l e ms) w y m = by (bytes_eq (head_of (graft_left h (graft_left g l))) y) refl m (assigned_from ms w.2 y)
    where
      x : Word
      x = w.0.1.0

      root_in : steps.In (some_word (root l)) x
      root_in = subst (λ (o : Option Word). steps.In (some_word o) x) (sym w.0.1.1) (λ i. itself i || false)
        where
          itself : bytes_eq w.0.1.0 w.0.1.0 ≡ true
          itself = (bytes_eq-Decides w.0.1.0 w.0.1.0).1 refl

      by : (b : Bool) → bytes_eq (head_of (graft_left h (graft_left g l))) y ≡ b → (b || is_among (without (head_of (graft_left h (graft_left g l))) (heads (put_all ms))) y) ≡ true → (steps.In (heads (put_all ms)) y → (z : Word) × steps.In (roots ms) z × (r z ≡ y)) → (z : Word) × steps.In (some_word (root l) ++ roots ms) z × (r z ≡ y)
      by true q n f = (x, in_front (some_word (root l)) (roots ms) x root_in, sym (head_put l x w.0.1.1) ∙ same_bytes _ y q)
      by false q n f = (let z = f (without_within _ (heads (put_all ms)) y n) in (z.0, behind (some_word (root l)) (roots ms) z.0 z.1, z.2))

  lefts_fine : (ms : Assignments) → AreWritableAssignments V ms → LeftSides (is_among vs) (put_all ms)
  lefts_fine no_assignments w = tt
  lefts_fine (assignment l e ms) w = (side_left l w.0.1.0 w.0.1.1 w.0.1.2, lefts_fine ms w.2)

  sides_fine : (A B : Names) → Became r A B → IsWithin A V → (ms : Assignments) → SidesReadFresh ds N A ms → FineSides U B (put_all ms)
  sides_fine A B q w no_assignments f = tt
  sides_fine A B q w (assignment l e ms) f = (
    fine_of B (became_variables A B q w) (graft_left h (graft_left g l)) (side_reads B B h (own_reads B) (graft_left g l) (side_reads A B g (named_reads A B (fresh_became A B q w)) l f.0)),
    tree_fine A B q w e f.1,
    sides_fine A B q w ms f.2,
  )

  pub assignments_fine : (A B : Names) → Became r A B → IsWithin A V → (ms : Assignments) → AreWritableAssignments V ms → SidesReadFresh ds N A ms → FineAssignments U vs B (put_all ms)
  assignments_fine A B q w ms i f = record {
    left = lefts_fine ms i;
    sides = sides_fine A B q w ms f;
    readable = λ y m. (let z = assigned_from ms i y m in subst (λ (x : Word). U B x ≡ true) z.2 (variable_fresh B (r z.0) (variable_is z.0 (roots_are (λ x. true) V ms i z.0 z.1))));
  }

  pub assignments_apart : (A B : Names) → Became r A B → IsWithin A V → (ms : Assignments) → AreWritableAssignments V ms → Apart A (roots ms) → Apart B (heads (put_all ms))
  assignments_apart A B q w ms i p = became_apart A B q w (roots ms) (heads (put_all ms)) (roots_are (λ x. true) V ms i) p (assigned_from ms i)

  -- ---- names of a `with`

  pub binds_fine : (A B : Names) → Became r A B → IsWithin A V → (bs : Binds) → BindsReadFresh ds N A bs → FineBinds U vs B (graft_binds h (graft_binds g bs))
  binds_fine A B q w no_binds f = tt
  binds_fine A B q w (one_of x e bs) f = (tree_fine A B q w e f.0, (k.bound x.word f.1).0, binds_fine A B q w bs f.2)
  binds_fine A B q w (is x e bs) f = (tree_fine A B q w e f.0, (k.bound x.word f.1).0, binds_fine A B q w bs f.2)

  pub binds_new : (A : Names) (bs : Binds) → BindsReadFresh ds N A bs → is_old (graft_binds h (graft_binds g bs)) ≡ false
  binds_new A no_binds f = refl
  binds_new A (one_of x e bs) f = refl
  binds_new A (is x e no_binds) f = (k.bound x.word f.1).3
  binds_new A (is x e (one_of y d bs)) f = refl
  binds_new A (is x e (is y d bs)) f = refl
