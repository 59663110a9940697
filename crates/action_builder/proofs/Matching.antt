-- Verdicts that match, and the parts of which the truth of the written items is put together.
use Rattle.std.proofs.Common.{◌≡◌, List, [], ◌∷◌, ◌++◌, Bool, true, false, cond, not, ◌||◌, ◌&&◌, bytes_eq, Some, None, ◌⊎◌, refl, sym, ◌∙◌, ap, subst, ⊎_elim, inl, inr, Ok, Err}
use Rattle.std.proofs.lemmas.Bool.{cases_Bool, or_cases, both_ways, and_parts, or_left, or_right}
use Rattle.tla_token.specs.Signs.{is_among}
use Rattle.tla_token.specs.declared.place.Place.{Place}
use Rattle.tla_token.proofs.Spelled.{same_bytes}
use Rattle.tla_tree.specs.Tree.{Word, apply, name, strict, select, Tree, node, Trees, no_trees, tree, EveryOf, root_place}
use Rattle.tla_value.specs.declared.fault.FaultKind.TheVariants.{AssertFailed}
use Rattle.tla_value.specs.Value.{Value, truth, int, text, model, set, fun, Values, no_values, and, Outcome, ◌>>=◌, fault, and_then, or_all}
use Rattle.tla_value.specs.Value as Values
use Rattle.tla_value.specs.Order.{same}
use Rattle.tla_value.specs.Stops.{plain, truth_at, members_at}
use Rattle.tla_value.specs.Standard.{printed, asserted, standard_value}
use Rattle.tla_value.specs.Meaning.{Env, just, bind, eval}
use Rattle.tla_value.specs.laws.Grafting.{In, BindsNone, IsUnprimed}
use Rattle.tla_value.specs.laws.FreeNames.{FreeInParts}
use Rattle.tla_value.proofs.Primes.{unprimed_law}
use Rattle.tla_value.proofs.Outcomes.{then_then}
use Rattle.tla_value.specs.OrderLaws.{same_is}
use Rattle.module_tree.specs.ActionTruth.{Verdict, is_unchanged}
use Rattle.module_tree.specs.ActionTruth as Module
use Rattle.pcal_tree.specs.Algorithm.{Assignments, no_assignments, assignment}
use Rattle.pcal_tree.specs.Scope.{State, Scope, bound}
use Rattle.action_builder.specs.Assigned.{Names, head_of}
use Rattle.action_builder.specs.laws.States.{mid}
use Rattle.action_builder.proofs.Actions.{minus, all_same, some_member}
use Rattle.action_builder.specs.laws.Ready.{Readable, Halfway, IsWithin, Paired, Scoped, IsLeft, LeftFirst, LeftSides, FineTree, FineSides, values_of}
use Rattle.action_builder.specs.Written.{Key, sub, fixed, subs, keys_of, keys_first, subscripts, own, slot_trees, except_of, sets_whole, side_of, primed, left_of}
use Rattle.action_builder.proofs.Except.{own_left}
use Rattle.action_builder.proofs.Equal.{eq-name, eq-value}
use Rattle.action_builder.proofs.Sets.{minus_same, same_minus}
use Rattle.action_builder.proofs.Main.{Within}

-- ---- verdicts that match

-- the same truth value, or neither has one
abbrev pub Matches : Verdict → Verdict → Type 0
Matches (Ok a) (Ok b) = a ≡ b
Matches (Ok a) (Err k) = ⊥
Matches (Err k) (Ok b) = ⊥
Matches (Err j) (Err k) = Unit {0}

pub match_and : (p q : Verdict) (v w : Outcome Bool) → Matches p v → Matches q w → Matches (Values.and_then p q) (and_then v w)
match_and (Ok true) q (Ok true) w h k = k
match_and (Ok true) q (Ok false) w h k = cc
match_and (Ok false) q (Ok true) w h k = cc
match_and (Ok false) q (Ok false) w h k = refl
match_and (Ok b) q (Err j) w h k = absurd h
match_and (Err j) q (Ok b) w h k = absurd h
match_and (Err j) q (Err i) w h k = tt

pub match_or : (p q : Verdict) (v w : Outcome Bool) → Matches p v → Matches q w → Matches (Values.or_all p q) (or_all v w)
match_or (Ok a) (Ok b) (Ok c) (Ok d) h k = λ i. h i || k i
match_or (Ok a) (Ok b) (Ok c) (Err j) h k = absurd k
match_or (Ok a) (Err j) (Ok c) (Ok d) h k = absurd k
match_or (Ok a) (Err j) (Ok c) (Err i) h k = tt
match_or (Ok a) q (Err j) w h k = absurd h
match_or (Err j) q (Ok b) w h k = absurd h
match_or (Err j) q (Err i) w h k = tt

pub match_value : (o : Outcome Value) (f : Value → Verdict) (g : Value → Outcome Bool) → ((v : Value) → Matches (f v) (g v)) → Matches (o >>= f) (o >>= g)
match_value (Ok v) f g h = h v
match_value (Err (Values.fault k p)) f g h = tt
match_value (Err (Values.over p)) f g h = tt

-- where a truth value is needed; places do not matter
pub match_truth : (at p : Place) (v : Value) (f : Bool → Verdict) (g : Bool → Outcome Bool) → ((b : Bool) → Matches (f b) (g b)) → Matches ((truth_at at v) >>= f) ((truth_at p v) >>= g)
match_truth at p (truth b) f g h = h b
match_truth at p (int n) f g h = tt
match_truth at p (text w) f g h = tt
match_truth at p (model w) f g h = tt
match_truth at p (set vs) f g h = tt
match_truth at p (fun ds rs) f g h = tt

pub match_members : (vs : Values) (f : Value → Verdict) (g : Value → Outcome Bool) → ((v : Value) → Matches (f v) (g v)) → Matches (Module.some_member vs f) (some_member vs g)
match_members no_values f g h = refl
match_members (and v vs) f g h = match_or (f v) (Module.some_member vs f) (g v) (some_member vs g) (h v) (match_members vs f g h)

pub match_set : (at p : Place) (v : Value) (f : Value → Verdict) (g : Value → Outcome Bool) → ((v : Value) → Matches (f v) (g v)) → Matches ((members_at at v) >>= (λ vs. Module.some_member vs f)) ((members_at p v) >>= (λ vs. some_member vs g))
match_set at p (truth b) f g h = tt
match_set at p (int n) f g h = tt
match_set at p (text w) f g h = tt
match_set at p (model w) f g h = tt
match_set at p (set vs) f g h = match_members vs f g h
match_set at p (fun ds rs) f g h = tt

pub match_test : (o : Outcome Value) (at p : Place) (f : Bool → Verdict) (g : Bool → Outcome Bool) → ((b : Bool) → Matches (f b) (g b)) → Matches ((o >>= truth_at at) >>= f) ((o >>= (truth_at p)) >>= g)
match_test (Ok v) at p f g h = match_truth at p v f g h
match_test (Err (Values.fault k q)) at p f g h = tt
match_test (Err (Values.over q)) at p f g h = tt

pub match_some : (o : Outcome Value) (at p : Place) (f : Value → Verdict) (g : Value → Outcome Bool) → ((v : Value) → Matches (f v) (g v)) → Matches ((o >>= members_at at) >>= (λ vs. Module.some_member vs f)) ((o >>= (members_at p)) >>= (λ vs. some_member vs g))
match_some (Ok v) at p f g h = match_set at p v f g h
match_some (Err (Values.fault k q)) at p f g h = tt
match_some (Err (Values.over q)) at p f g h = tt

pub match_once : (p : Verdict) (v : Outcome Bool) → Matches p v → Matches p (or_all v (Ok false))
match_once (Ok true) (Ok true) h = refl
match_once (Ok true) (Ok false) h = cc
match_once (Ok false) (Ok true) h = cc
match_once (Ok false) (Ok false) h = refl
match_once (Ok b) (Err k) h = absurd h
match_once (Err j) (Ok b) h = absurd h
match_once (Err j) (Err k) h = tt

pub match_one : (o : Outcome Value) (f : Value → Verdict) (g : Value → Outcome Bool) → ((v : Value) → Matches (f v) (g v)) → Matches (o >>= f) ((o >>= (λ v. Ok (and v no_values))) >>= (λ vs. some_member vs g))
match_one o f g h =
    subst (Matches (o >>= f)) (sym (then_then o (λ v. Ok (and v no_values)) (λ vs. some_member vs g)))
    (match_value o f (λ v. or_all (g v) (Ok false)) (λ v. match_once (f v) (g v) (h v)))

pub match_true : (v : Outcome Bool) (p : Verdict) → Matches p v → Matches (Values.and_then p (Ok true)) (and_then v (Ok true))
match_true v p h = match_and p (Ok true) v (Ok true) h refl

-- a truth value that is got as it is
pub match_told : (o : Outcome Value) (at p : Place) → Matches (o >>= truth_at at) (o >>= (truth_at p))
match_told o at p = match_value o (truth_at at) (truth_at p) (λ v. by v)
  where
    by : (v : Value) → Matches (truth_at at v) (truth_at p v)
    by (truth b) = refl
    by (int n) = tt
    by (text w) = tt
    by (model w) = tt
    by (set vs) = tt
    by (fun ds rs) = tt

pub match_print : (o : Outcome Value) (at : Place) → Matches (((o >>= (λ v. Ok (v ∷ []))) >>= standard_value plain printed at) >>= truth_at at) (o >>= (λ v. Ok true))
match_print (Ok v) at = refl
match_print (Err (Values.fault k p)) at = tt
match_print (Err (Values.over p)) at = tt

pub match_assert : (o : Outcome Value) (m : Value) (at p q : Place) → Matches (((o >>= (λ v. Ok (v ∷ m ∷ []))) >>= standard_value plain asserted at) >>= truth_at at) ((o >>= (truth_at p)) >>= (λ b. cond b (Ok true) (Err (fault AssertFailed q))))
match_assert (Ok (truth true)) m at p q = refl
match_assert (Ok (truth false)) m at p q = tt
match_assert (Ok (int n)) m at p q = tt
match_assert (Ok (text w)) m at p q = tt
match_assert (Ok (model w)) m at p q = tt
match_assert (Ok (set vs)) m at p q = tt
match_assert (Ok (fun ds rs)) m at p q = tt
match_assert (Err (Values.fault k r)) m at p q = tt
match_assert (Err (Values.over r)) m at p q = tt

-- ---- expressions

pub exp_law : (U : Readable) (vs : List Word) (A : Names) (sc : Scope) (env : State → State → Env) → Paired U vs sc env → IsWithin A (is_among vs) → (e : Tree) → FineTree U A e → (s t : State) → eval plain (primed A e) (env s t) ≡ eval plain e (sc.env (mid s t A))
exp_law U vs A sc env p w e f s t =
    let k = p.halfway A w s t in
    unprimed_law plain A (In (U A)) e f.0 f.1 f.2 (env s t) (sc.env (mid s t A)) (record { now = k.now; defs = k.defs })

halfway_bound : (A : Names) (U : Word → Type 0) (x : Word) (v : Value) → A x ≡ false → (e f : Env) → Halfway A U e f → Halfway A U (bind x v e) (bind x v f)
halfway_bound A U x v out e f r = record { now = λ y u at. by y u at (bytes_eq x y) refl; defs = r.defs }
  where
    by : (y : Word) → U y → (at : Place) (b : Bool) → bytes_eq x y ≡ b → cond (bytes_eq x y) (just v) (f.now y at) ≡ cond (A y) (e.primed y at) (cond (bytes_eq x y) (just v) (e.now y at))
    by y u at true q =
        ap (λ b. cond b (just v) (f.now y at)) q
        ∙ sym (ap (λ a. cond a (e.primed y at) (cond (bytes_eq x y) (just v) (e.now y at))) (sym (ap A (same_bytes x y q)) ∙ out) ∙ ap (λ b. cond b (just v) (e.now y at)) q)
    by y u at false q =
        ap (λ b. cond b (just v) (f.now y at)) q ∙ r.now y u at
        ∙ sym (ap (λ b. cond (A y) (e.primed y at) (cond b (just v) (e.now y at))) q)

pub outside : (A V : Names) → IsWithin A V → (x : Word) → V x ≡ false → A x ≡ false
outside A V w x e = ⊎_elim (λ a. absurd (both_ways (V x) e (w x a))) (λ a. a) (cases_Bool (A x))

abbrev pub bound_env : Word → Value → (State → State → Env) → State → State → Env
bound_env x v env s t = bind x v (env s t)

pub paired_bound : (U : Readable) (vs : List Word) (sc : Scope) (env : State → State → Env) (x : Word) (v : Value) → is_among vs x ≡ false → Paired U vs sc env → Paired U vs (bound x v sc) (bound_env x v env)
paired_bound U vs sc env x v out p = record {
  halfway = λ A w s t. halfway_bound A (In (U A)) x v (outside A (is_among vs) w x out) (env s t) (sc.env (mid s t A)) (p.halfway A w s t);
  print = p.print;
  assert = p.assert;
}

pub scoped_bound : (vs : List Word) (sc : Scope) (x : Word) (v : Value) → is_among vs x ≡ false → Scoped vs sc → Scoped vs (bound x v sc)
scoped_bound vs sc x v out k = record { part = k.part; reads = λ y m at s. by y m at s (bytes_eq x y) refl }
  where
    by : (y : Word) → is_among vs y ≡ true → (at : Place) (s : State) (b : Bool) → bytes_eq x y ≡ b → cond (bytes_eq x y) (just v) ((sc.env s).now y at) ≡ just (s y)
    by y m at s true q = absurd (both_ways (is_among vs x) out (ap (is_among vs) (same_bytes x y q) ∙ m))
    by y m at s false q = ap (λ b. cond b (just v) ((sc.env s).now y at)) q ∙ k.reads y m at s

-- ---- the trees of right sides

module _ (U : Readable) (A : Names) where
  abbrev AllFine : Trees → Type 0
  AllFine no_trees = Unit {0}
  AllFine (tree t ts) = FineTree U A t × AllFine ts

  abbrev EachKey : List Key → Type 0
  EachKey [] = Unit {0}
  EachKey (sub t ∷ ks) = FineTree U A t × EachKey ks
  EachKey (fixed a ∷ ks) = EachKey ks

  -- trees under a form that binds no name
  parts_fine : (ts : Trees) → EveryOf (BindsNone A) ts → EveryOf IsUnprimed ts → FreeInParts (In (U A)) (In (U A)) [] ts → AllFine ts
  parts_fine no_trees b n h = tt
  parts_fine (tree t ts) b n h = ((b.0, n.0, h.0), parts_fine ts b.1 n.1 h.1)

  fine_parts : (ts : Trees) → AllFine ts → EveryOf (BindsNone A) ts × EveryOf IsUnprimed ts × FreeInParts (In (U A)) (In (U A)) [] ts
  fine_parts no_trees h = (tt, tt, tt)
  fine_parts (tree t ts) h = let k = fine_parts ts h.1 in ((h.0.0, k.0), (h.0.1, k.1), (h.0.2, k.2))

  keys_both : (ks js : List Key) → EachKey ks → EachKey js → EachKey (ks ++ js)
  keys_both [] js h k = k
  keys_both (sub t ∷ ks) js h k = (h.0, keys_both ks js h.1 k)
  keys_both (fixed a ∷ ks) js h k = keys_both ks js h k

  subs_fine : (ts : Trees) → AllFine ts → EachKey (subs ts)
  subs_fine no_trees h = tt
  subs_fine (tree t ts) h = (h.0, subs_fine ts h.1)

  mutual
    keys_fine : (V : Names) (l : Tree) → IsLeft V l → FineTree U A l → EachKey (keys_of l)
    keys_fine V (node (name x) at ts) k h = tt
    keys_fine V (node (strict apply) at ts) k h = first_fine V ts k (parts_fine ts h.0.1 h.1.1 h.2.1)
    keys_fine V (node (strict (select a)) at ts) k h = keys_both (keys_first ts) (fixed a ∷ []) (first_fine V ts k (parts_fine ts h.0.1 h.1.1 h.2.1)) tt
    keys_fine V (node _ at ts) k h = absurd k

    first_fine : (V : Names) (ts : Trees) → LeftFirst V ts → AllFine ts → EachKey (keys_first ts)
    first_fine V no_trees k h = tt
    first_fine V (tree f us) k h = keys_both (keys_of f) (subs us) (keys_fine V f k h.0) (subs_fine us h.1)

  subscripts_fine : (ks : List Key) (ts : Trees) → EachKey ks → AllFine ts → AllFine (subscripts ks ts)
  subscripts_fine [] ts h k = k
  subscripts_fine (sub t ∷ ks) ts h k = (h.0, subscripts_fine ks ts h.1 k)
  subscripts_fine (fixed a ∷ ks) ts h k = subscripts_fine ks ts h k

  slots_fine : (V : Names) (ms : Assignments) → LeftSides V ms → FineSides U A ms → AllFine (slot_trees ms)
  slots_fine V no_assignments k h = tt
  slots_fine V (assignment l e ms) k h = subscripts_fine (keys_of l) (tree e (slot_trees ms)) (keys_fine V l k.0 h.0) (h.1, slots_fine V ms k.1 h.2)

  own_fine : (y : Word) (ms : Assignments) → FineSides U A ms → FineSides U A (own y ms)
  own_fine y no_assignments h = tt
  own_fine y (assignment l e ms) h = by (own_fine y ms h.2) (bytes_eq (head_of l) y)
    where
      by : FineSides U A (own y ms) → (b : Bool) → FineSides U A (cond b (assignment l e (own y ms)) (own y ms))
      by ih true = (h.0, h.1, ih)
      by ih false = ih

  fine_side : (V : Names) (y : Word) (ms : Assignments) → U A y ≡ true → LeftSides V ms → FineSides U A ms → FineTree U A (side_of y ms)
  fine_side V y no_assignments u k h = ((tt, tt), (tt, tt), (u, tt))
  fine_side V y (assignment l e ms) u k h = by (sets_whole (keys_of l) ms)
    where
      by : (b : Bool) → FineTree U A (cond b e (except_of (root_place l) y (assignment l e ms)))
      by true = h.1
      by false =
          let p = fine_parts (slot_trees (assignment l e ms)) (slots_fine V (assignment l e ms) k h) in
          ((tt, ((tt, tt), p.0)), (tt, ((tt, tt), p.1)), (tt, ((u, tt), p.2)))

  -- the right side that is written for a variable
  pub side_fine : (V : Names) (y : Word) (ms : Assignments) → U A y ≡ true → LeftSides V ms → FineSides U A ms → FineTree U A (side_of y (own y ms))
  side_fine V y ms u k h = fine_side V y (own y ms) u (own_left V y ms k) (own_fine y ms h)

-- ---- UNCHANGED

bool_alike : (a b : Bool) → (a ≡ true → b ≡ true) → (b ≡ true → a ≡ true) → a ≡ b
bool_alike true b f g = sym (f refl)
bool_alike false true f g = g refl
bool_alike false false f g = refl

look_same : (vs xs : List Word) (s t : State) → ((x : Word) → is_among xs x ≡ true → is_among vs x ≡ true) → Module.are_unchanged (values_of vs s) (values_of vs t) xs ≡ all_same xs s t
look_same vs [] s t h = refl
look_same vs (x ∷ xs) s t h =
    (λ i. is_unchanged (cond (h x here i) (Some (s x)) None) (cond (h x here i) (Some (t x)) None) && Module.are_unchanged (values_of vs s) (values_of vs t) xs)
    ∙ (λ i. same (t x) (s x) && look_same vs xs s t (λ y m. h y (or_right (bytes_eq x y) (is_among xs y) m)) i)
  where
    here : (bytes_eq x x || is_among xs x) ≡ true
    here = or_left (bytes_eq x x) (is_among xs x) (eq-name x x refl)

kept_in : (vs all own : List Word) (x : Word) → is_among (left_of vs all own) x ≡ true → is_among vs x ≡ true
kept_in [] all own x m = m
kept_in (v ∷ vs) all own x m = by (kept_in vs all own x) (is_among all v && not (is_among own v)) m
  where
    by : (is_among (left_of vs all own) x ≡ true → is_among vs x ≡ true) → (b : Bool) → is_among (cond b (v ∷ left_of vs all own) (left_of vs all own)) x ≡ true → (bytes_eq v x || is_among vs x) ≡ true
    by ih true k = ⊎_elim (λ a. or_left (bytes_eq v x) (is_among vs x) a) (λ a. or_right (bytes_eq v x) (is_among vs x) (ih a)) (or_cases (bytes_eq v x) (is_among (left_of vs all own) x) k)
    by ih false k = or_right (bytes_eq v x) (is_among vs x) (ih k)

and_not : (a b : Bool) → a ≡ true → b ≡ false → (a && not b) ≡ true
and_not a b p q = (λ i. p i && not (q i))

not_and : (a b : Bool) → (a && not b) ≡ true → (a ≡ true) × (b ≡ false)
not_and true true e = cc
not_and true false e = (refl, refl)
not_and false b e = cc

-- what is kept of vs is the same: all names of `all` that are not in `own` are
left_same : (vs all own : List Word) (s t : State) → all_same (left_of vs all own) s t ≡ true → (x : Word) → is_among vs x ≡ true → is_among all x ≡ true → is_among own x ≡ false → t x ≡ s x
left_same [] all own s t h x m a o = cc
left_same (v ∷ vs) all own s t h x m a o =
    by (λ g k. left_same vs all own s t g x k a o) (is_among all v && not (is_among own v)) refl h (or_cases (bytes_eq v x) (is_among vs x) m)
  where
    by : (all_same (left_of vs all own) s t ≡ true → is_among vs x ≡ true → t x ≡ s x) → (b : Bool) → (is_among all v && not (is_among own v)) ≡ b → all_same (cond b (v ∷ left_of vs all own) (left_of vs all own)) s t ≡ true → (bytes_eq v x ≡ true) ⊎ (is_among vs x ≡ true) → t x ≡ s x
    by ih true p g (inl e) = subst (λ z. t z ≡ s z) (same_bytes v x e) (same_is (t v) (s v) (and_parts (same (t v) (s v)) (all_same (left_of vs all own) s t) g).0)
    by ih true p g (inr k) = ih (and_parts (same (t v) (s v)) (all_same (left_of vs all own) s t) g).1 k
    by ih false p g (inl e) = absurd (both_ways (is_among all v && not (is_among own v)) p (and_not (is_among all v) (is_among own v) (ap (is_among all) (same_bytes v x e) ∙ a) (ap (is_among own) (same_bytes v x e) ∙ o)))
    by ih false p g (inr k) = ih g k

same_left : (vs all own : List Word) (s t : State) → ((x : Word) → is_among all x ≡ true → is_among own x ≡ false → t x ≡ s x) → all_same (left_of vs all own) s t ≡ true
same_left [] all own s t h = refl
same_left (v ∷ vs) all own s t h = by (same_left vs all own s t h) (is_among all v && not (is_among own v)) refl
  where
    by : all_same (left_of vs all own) s t ≡ true → (b : Bool) → (is_among all v && not (is_among own v)) ≡ b → all_same (cond b (v ∷ left_of vs all own) (left_of vs all own)) s t ≡ true
    by ih true p =
        let k = not_and (is_among all v) (is_among own v) p in
        (λ i. eq-value (t v) (s v) (h v k.0 k.1) i && all_same (left_of vs all own) s t) ∙ ih
    by ih false p = ih

pub unchanged_same : (vs all own : List Word) (s t : State) → Within all vs → Module.are_unchanged (values_of vs s) (values_of vs t) (left_of vs all own) ≡ all_same (minus all own) s t
unchanged_same vs all own s t w =
    look_same vs (left_of vs all own) s t (kept_in vs all own)
    ∙ bool_alike _ _
    (λ e. same_minus all own s t (λ x a o. left_same vs all own s t e x (w x a) a o))
    (λ e. same_left vs all own s t (λ x a o. minus_same all own s t e x a o))
