-- The items that are written for statements can be written, but that their names are of some kind.
use Rattle.std.proofs.Common.{◌≡◌, Bool, true, false, cond, not, ◌&&◌, ◌||◌, List, [], ◌∷◌, bytes_eq, inl, inr, refl, sym, subst, ◌∙◌, arith}
use Rattle.std.proofs.lemmas.Slice.Eq.{bytes_eq-Decides}
use Rattle.tla_token.specs.Signs.{is_among}
use Rattle.tla_token.specs.declared.place.Place.{Place}
use Rattle.tla_tree.specs.Tree.{Word, Each, Tree}
use Rattle.tla_tree.specs.laws.Writable.{IsIdentifier}
use Rattle.tla_value.specs.Grafts.{primes}
use Rattle.module_tree.specs.Module.{local, Items, item}
use Rattle.module_tree.specs.laws.WritableRegion.{AreNames}
use Rattle.pcal_tree.specs.Algorithm.{Assignments, no_assignments, assignment, Binds, no_binds, one_of, is, Statement, assign, await, print, assert, skip, branch, either, with, while, goto, macro, call, return, Statements, done, then, mark, Branches, no_branches, or}
use Rattle.action_builder.specs.Assigned.{Names, more, head_of, without, heads, assigned, assigned_in, assigned_by}
use Rattle.action_builder.specs.SingleProcess.{in_place_of}
use Rattle.action_builder.specs.Written.{own, side_of, primed, left_of, unchanged_of, onto, filled, settings_of, old_stack, is_old, put_in, nested_items, branch_items, write_one, write, write_some}
use Rattle.action_builder.specs.Prepared.{none, action_items}
use Rattle.action_builder.proofs.FitTrees.{Fits, HasIdentifiers, graft_fits, primes_put}
use Rattle.action_builder.proofs.FitItems.{ItemsFit, SomeFit, BranchesFit, graft_items_fit, in_place_put, onto_fits, filled_fits}
use Rattle.action_builder.proofs.FitStatements.{AssignmentsFit, BindsFit, OrOld, StatementFits, StatementsFit, OrsFit, IsPlain}
use Rattle.action_builder.specs.laws.InParts.{InParts}
use Rattle.action_builder.proofs.FitSides.{each_of, side_fits}
use Rattle.action_builder.proofs.Names.{each_name}

-- ---- names that are assigned

abbrev AreIdentifiers : List Word → Type 0
AreIdentifiers xs = Each IsIdentifier xs

abbrev HoldsIdentifiers : Names → Type 0
HoldsIdentifiers A = (x : Word) → A x ≡ true → IsIdentifier x

more_identifiers : (A : Names) (xs : List Word) → HoldsIdentifiers A → AreIdentifiers xs → HoldsIdentifiers (more A xs)
more_identifiers A xs h k x e = by (A x) (h x) e
  where
    by : (b : Bool) → (b ≡ true → IsIdentifier x) → (b || is_among xs x) ≡ true → IsIdentifier x
    by true f d = f refl
    by false f d = each_name IsIdentifier xs k x d

without_each : (P : Word → Type 0) (x : Word) (ys : List Word) → Each P ys → Each P (without x ys)
without_each P x [] h = tt
without_each P x (y ∷ ys) h = by (bytes_eq x y) (without_each P x ys h.1)
  where
    by : (b : Bool) → Each P (without x ys) → Each P (cond b (without x ys) (y ∷ without x ys))
    by true k = k
    by false k = (h.0, k)

heads_identifiers : (N : Word → Type 0) (ms : Assignments) → AssignmentsFit N ms → AreIdentifiers (heads ms)
heads_identifiers N no_assignments h = tt
heads_identifiers N (assignment l e ms) h = (h.0, without_each IsIdentifier (head_of l) (heads ms) (heads_identifiers N ms h.3))

mutual
  one_assigned : (N : Word → Type 0) (J : Statement → Type 0) (st : Statement) → StatementFits N J st → AreIdentifiers (assigned st)
  one_assigned N J (assign ms) h = heads_identifiers N ms h
  one_assigned N J (branch e a b) h = each_of IsIdentifier (assigned_in a) (assigned_in b) (all_assigned N J a h.1) (all_assigned N J b h.2)
  one_assigned N J (either bs) h = some_assigned N J bs h
  one_assigned N J (with bs b) (inl h) = all_assigned N J b h.1
  one_assigned N J (with bs b) (inr h) = all_assigned (OrOld N) J b h.1
  one_assigned N J _ h = tt

  all_assigned : (N : Word → Type 0) (J : Statement → Type 0) (ss : Statements) → StatementsFit N J ss → AreIdentifiers (assigned_in ss)
  all_assigned N J done h = tt
  all_assigned N J (then at st rest) h = each_of IsIdentifier (assigned st) (assigned_in rest) (one_assigned N J st h.1) (all_assigned N J rest h.2)
  all_assigned N J (mark l k rest) h = tt

  some_assigned : (N : Word → Type 0) (J : Statement → Type 0) (bs : Branches) → OrsFit N J bs → AreIdentifiers (assigned_by bs)
  some_assigned N J no_branches h = tt
  some_assigned N J (or b bs) h = each_of IsIdentifier (assigned_in b) (assigned_by bs) (all_assigned N J b h.0) (some_assigned N J bs h.1)

-- ---- UNCHANGED

left_each : (P : Word → Type 0) (vs all own : List Word) → Each P vs → Each P (left_of vs all own)
left_each P [] all own h = tt
left_each P (v ∷ vs) all own h = by (is_among all v && not (is_among own v)) (left_each P vs all own h.1)
  where
    by : (b : Bool) → Each P (left_of vs all own) → Each P (cond b (v ∷ left_of vs all own) (left_of vs all own))
    by true k = (h.0, k)
    by false k = k

pub are_names : (x : Word) (xs : List Word) → IsIdentifier x → AreIdentifiers xs → AreNames (x ∷ xs)
are_names x [] h k = h
are_names x (y ∷ ys) h k = (h, are_names y ys k.0 k.1)

unchanged_fits : (N : Word → Type 0) (xs : List Word) → AreIdentifiers xs → ItemsFit N (unchanged_of xs)
unchanged_fits N [] h = tt
unchanged_fits N (x ∷ xs) h = (are_names x xs h.0 h.1, tt)

-- ---- statements

module _ (vs : List Word) (known : AreIdentifiers vs) where
  left_fits : (N : Word → Type 0) (all own : List Word) → ItemsFit N (unchanged_of (left_of vs all own))
  left_fits N all own = unchanged_fits N (left_of vs all own) (left_each IsIdentifier vs all own known)

  branch_fits : (N : Word → Type 0) (at : Place) (body : Items) (all own : List Word) → ItemsFit N body → SomeFit N (branch_items vs at body all own)
  branch_fits N at body all own h =
      filled_fits N at (onto body (unchanged_of (left_of vs all own))) (onto_fits N body (unchanged_of (left_of vs all own)) h (left_fits N all own))

  primed_fits : (N : Word → Type 0) (A : Names) → HoldsIdentifiers A → (e : Tree) → Fits N e → Fits N (primed A e)
  primed_fits N A a e h = graft_fits N N (primes A) (primes_put N A a) e h

  settings_fit : (N : Word → Type 0) → HasIdentifiers N → (A : Names) → HoldsIdentifiers A → (ms : Assignments) → AssignmentsFit N ms → InParts ms → (ys : List Word) → AreIdentifiers ys → (rest : Items) → ItemsFit N rest → ItemsFit N (settings_of A ms ys rest)
  settings_fit N j A a ms h p [] i rest r = r
  settings_fit N j A a ms h p (y ∷ ys) i rest r =
      ((i.0, primed_fits N A a (side_of y (own y ms)) (side_fits N y ms (j y i.0) h p)), settings_fit N j A a ms h p ys i.1 rest r)

  nested_fits : (N : Word → Type 0) (A : Names) → HoldsIdentifiers A → (bs : Binds) → BindsFit N bs → (b : Items) → SomeFit N b → SomeFit N (nested_items A bs b)
  nested_fits N A a no_binds h b k = k
  nested_fits N A a (one_of x e bs) h b k = ((h.0, primed_fits N A a e h.1, nested_fits N A a bs h.2 b k), tt)
  nested_fits N A a (is x e bs) h b k = ((h.0, primed_fits N A a e h.1, nested_fits N A a bs h.2 b k), tt)

  -- where the expression stands, the name of the old stack is gone
  put_in_fits : (M N : Word → Type 0) (A : Names) → HoldsIdentifiers A → (x : Word) (e : Tree) → Fits N e → ((y : Word) → bytes_eq x y ≡ false → M y → N y) → (b : Items) → ItemsFit M b → ItemsFit N (put_in A x e b)
  put_in_fits M N A a x e h k b f = graft_items_fit M N (in_place_of x (primed A e)) (in_place_put M N x (primed A e) (primed_fits N A a e h) k) b f

  old_or : (N : Word → Type 0) (x : Word) → bytes_eq old_stack x ≡ true → (y : Word) → bytes_eq x y ≡ false → OrOld N y → N y
  old_or N x e y d (inl n) = n
  old_or N x e y d (inr q) = absurd (clash (sym ((bytes_eq-Decides x y).1 (sym ((bytes_eq-Decides old_stack x).0 e) ∙ (bytes_eq-Decides old_stack y).0 q)) ∙ d))
    where
      clash : true ≡ false → ⊥
      clash e = cc

  identifiers_or : (N : Word → Type 0) → HasIdentifiers N → HasIdentifiers (OrOld N)
  identifiers_or N j x h = inl (j x h)

  mutual
    one_fits : (N : Word → Type 0) → HasIdentifiers N → (A : Names) → HoldsIdentifiers A → (at : Place) (st : Statement) → IsPlain st → StatementFits N IsPlain st → (rest : Items) → ItemsFit N rest → ItemsFit N (write_one vs A at st rest)
    one_fits N j A a at (assign ms) p h rest r = settings_fit N j A a ms h p (heads ms) (heads_identifiers N ms h) rest r
    one_fits N j A a at (await e) p h rest r = (primed_fits N A a e h, r)
    one_fits N j A a at (print e) p h rest r = ((omega arith, (((refl, refl), refl), tt), tt, tt, (primed_fits N A a e h, tt)), r)
    one_fits N j A a at (assert e) p h rest r =
        ((omega arith, (((refl, refl), refl), tt), tt, tt, (primed_fits N A a e h, ((refl, tt, tt, (refl, tt), tt), tt))), r)
    one_fits N j A a at skip p h rest r = ((refl, tt, tt, tt, tt), r)
    one_fits N j A a at (branch e x y) p h rest r =
        ((primed_fits N A a e h.0, branch_fits N at (write vs A x) (assigned_in y) (assigned_in x) (all_fit N j A a x h.1), branch_fits N at (write vs A y) (assigned_in x) (assigned_in y) (all_fit N j A a y h.2)), r)
    one_fits N j A a at (either no_branches) p h rest r = absurd p
    one_fits N j A a at (either (or b bs)) p h rest r =
        ((branch_fits N at (write vs A b) (assigned_by (or b bs)) (assigned_in b) (all_fit N j A a b h.0), some_fit N j A a at (assigned_by (or b bs)) bs h.1), r)
    one_fits N j A a at (with no_binds b) p (inl h) rest r =
        ((branch_fits N at (write vs A b) (assigned_in b) (assigned_in b) (all_fit N j A a b h.1), tt), r)
    one_fits N j A a at (with no_binds b) p (inr h) rest r = absurd h.0
    one_fits N j A a at (with (one_of x e bs) b) p (inl h) rest r =
        ((h.0.0, primed_fits N A a e h.0.1, nested_fits N A a bs h.0.2 (filled at (write vs A b)) (filled_fits N at (write vs A b) (all_fit N j A a b h.1))), r)
    one_fits N j A a at (with (one_of x e bs) b) p (inr h) rest r = absurd h.0
    one_fits N j A a at (with (is x e bs) b) p (inl h) rest r = by (all_fit N j A a b h.1) (is_old (is x e bs))
      where
        by : ItemsFit N (write vs A b) → (k : Bool) → ItemsFit N (cond k (onto (put_in A x.word e (write vs A b)) rest) (item (local x.word (primed A e) (nested_items A bs (filled at (write vs A b)))) rest))
        by f true = onto_fits N (put_in A x.word e (write vs A b)) rest (put_in_fits N N A a x.word e h.0.1 (λ y d n. n) (write vs A b) f) r
        by f false = ((h.0.0, primed_fits N A a e h.0.1, nested_fits N A a bs h.0.2 (filled at (write vs A b)) (filled_fits N at (write vs A b) f)), r)
    one_fits N j A a at (with (is x e no_binds) b) p (inr h) rest r =
        subst (λ (k : Bool). ItemsFit N (cond k (onto (put_in A x.word e (write vs A b)) rest) (item (local x.word (primed A e) (filled at (write vs A b))) rest))) (sym h.0.0)
        (onto_fits N (put_in A x.word e (write vs A b)) rest
        (put_in_fits (OrOld N) N A a x.word e h.0.1 (old_or N x.word h.0.0) (write vs A b) (all_fit (OrOld N) (identifiers_or N j) A a b h.1)) r)
    one_fits N j A a at (with (is x e (one_of y f bs)) b) p (inr h) rest r = absurd h.0
    one_fits N j A a at (with (is x e (is y f bs)) b) p (inr h) rest r = absurd h.0
    one_fits N j A a at (while e b) p h rest r = absurd p
    one_fits N j A a at (goto l) p h rest r = absurd p
    one_fits N j A a at (macro m ts) p h rest r = absurd p
    one_fits N j A a at (call q ts) p h rest r = absurd p
    one_fits N j A a at return p h rest r = absurd p

    pub all_fit : (N : Word → Type 0) → HasIdentifiers N → (A : Names) → HoldsIdentifiers A → (ss : Statements) → StatementsFit N IsPlain ss → ItemsFit N (write vs A ss)
    all_fit N j A a done h = tt
    all_fit N j A a (then at st rest) h =
        one_fits N j A a at.first st h.0 h.1 (write vs (more A (assigned st)) rest)
        (all_fit N j (more A (assigned st)) (more_identifiers A (assigned st) a (one_assigned N IsPlain st h.1)) rest h.2)
    all_fit N j A a (mark l k rest) h = tt

    some_fit : (N : Word → Type 0) → HasIdentifiers N → (A : Names) → HoldsIdentifiers A → (at : Place) (all : List Word) (bs : Branches) → OrsFit N IsPlain bs → BranchesFit N (write_some vs A at all bs)
    some_fit N j A a at all no_branches h = tt
    some_fit N j A a at all (or b bs) h = (branch_fits N at (write vs A b) all (assigned_in b) (all_fit N j A a b h.0), some_fit N j A a at all bs h.1)

-- the items of a step, with its last UNCHANGED
pub action_fits : (vs : List Word) → AreIdentifiers vs → (ss : Statements) → StatementsFit IsIdentifier IsPlain ss → ItemsFit IsIdentifier (action_items vs ss)
action_fits vs known ss h =
    onto_fits IsIdentifier (write vs none ss) (unchanged_of (left_of vs vs (assigned_in ss)))
    (all_fit vs known IsIdentifier (λ x i. i) none (λ x e. cc) ss h) (left_fits vs known IsIdentifier vs (assigned_in ss))
