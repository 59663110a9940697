-- The written action is true exactly of the steps that a run makes.
use Rattle.std.proofs.Common.{◌≡◌, List, [], ◌∷◌, ◌++◌, Bool, true, false, cond, ◌||◌, bytes_eq, ◌⊎◌, refl, sym, ◌∙◌, ap, subst, inl, inr, ⊎_elim, Ok, Err}
use Rattle.std.proofs.lemmas.Bool.{cases_Bool, or_cases, both_ways, or_left, or_right, or_parts}
use Rattle.tla_token.specs.Signs.{is_among}
use Rattle.tla_token.proofs.Spelled.{same_bytes}
use Rattle.tla_tree.specs.Tree.{Word}
use Rattle.tla_value.specs.Value.{Value, Values, no_values, and, Outcome, ◌>>=◌, and_then, or_all, IsBad}
use Rattle.tla_value.specs.Order.{same}
use Rattle.tla_value.proofs.Outcomes.{ok_is}
use Rattle.tla_value.specs.OrderLaws.{same_is}
use Rattle.pcal_tree.specs.Scope.{Scope, bound, State}
use Rattle.action_builder.specs.Assigned.{Names, more}
use Rattle.action_builder.specs.laws.States.{mid}
use Rattle.action_builder.proofs.Effects.{Effect, assign, await, branch, either, choose, Effects, done, then, Ways, no_ways, way, Parts, firsts, moved, effect_names, effects_names, ways_names, Awaits, Chosen, SomeOf, Picks, RunOne, Run, RunSome}
use Rattle.action_builder.proofs.Actions.{value_for, hold_sets, settings_of, Item, unchanged, Items, none, item, all_same, some_member, holds, hold, hold_some, ended, minus, build_one, build, build_some, OnceOne, Once, OnceSome}
use Rattle.action_builder.proofs.Sets.{member_append, more_append, mid_in, mid_out, is_mid, mid_grow, minus_same}
use Rattle.action_builder.proofs.Parts.{moved_good, moved_bad, value_kept, bad_assigned, not_bad}

-- ---- verdicts

pub and_then_assoc : (u v w : Outcome Bool) → and_then (and_then u v) w ≡ and_then u (and_then v w)
and_then_assoc (Ok true) v w = refl
and_then_assoc (Ok false) v w = refl
and_then_assoc (Err k) v w = refl

pub hold_ended : (is : Items) (j : Item) (c : Scope) (s t : State) → hold (ended is j) c s t ≡ and_then (hold is c s t) (and_then (holds j c s t) (Ok true))
hold_ended none j c s t = refl
hold_ended (item i is) j c s t = ap (and_then (holds i c s t)) (hold_ended is j c s t) ∙ sym (and_then_assoc (holds i c s t) (hold is c s t) (and_then (holds j c s t) (Ok true)))

pub got_bool : {P : Type 0} → ◌≡◌ {A = Outcome Bool} (Ok false) (Ok true) → P
got_bool e = cc

pub both_true : (v w : Outcome Bool) → and_then v w ≡ Ok true → (v ≡ Ok true) × (w ≡ Ok true)
both_true (Ok true) w e = (refl, e)
both_true (Ok false) w e = got_bool e
both_true (Err k) w e = not_bad true k (sym e)

pub ended_true : (v : Outcome Bool) (b : Bool) → and_then v (and_then (Ok b) (Ok true)) ≡ Ok true → (v ≡ Ok true) × (b ≡ true)
ended_true v true e = ((both_true v (Ok true) e).0, refl)
ended_true v false e = got_bool (both_true v (Ok false) e).1

pub either_true : (v w : Outcome Bool) → or_all v w ≡ Ok true → (v ≡ Ok true) ⊎ (w ≡ Ok true)
either_true (Ok true) w e = inl refl
either_true (Ok false) (Ok b) e = inr e
either_true (Ok false) (Err k) e = not_bad true k (sym e)
either_true (Err k) w e = not_bad true k (sym e)

-- ---- assignments

value_true : (o : Outcome Value) (w : Value) → o >>= (λ v. Ok (same w v)) ≡ Ok true → o ≡ Ok w
value_true (Ok v) w e = ap Ok (sym (same_is w v (ok_is e)))
value_true (Err k) w e = not_bad true k (sym e)

pub sets_values : (A : Names) (ps : Parts) (c : Scope) (s t : State) (ys : List Word) → hold_sets (settings_of A ps ys) c s t ≡ Ok true → (y : Word) → is_among ys y ≡ true → value_for y ps c (mid s t A) ≡ Ok (t y)
sets_values A ps c s t [] h y m = absurd (both_ways false refl m)
sets_values A ps c s t (z ∷ ys) h y m =
    let p = both_true _ _ h in
    ⊎_elim
    (λ a. subst (λ x. value_for x ps c (mid s t A) ≡ Ok (t x)) (same_bytes z y a) (value_true (value_for z ps c (mid s t A)) (t z) p.0))
    (λ b. sets_values A ps c s t ys p.1 y b)
    (or_cases (bytes_eq z y) (is_among ys y) m)

is_bad_not : {X P : Type 0} (o : Outcome X) (x : X) → IsBad o → o ≡ Ok x → P
is_bad_not o x b e = absurd (subst IsBad e b)

-- the settings true: the run ends in the state between
pub assign_true : (A : Names) (ps : Parts) (c : Scope) (s t : State) → hold_sets (settings_of A ps (firsts ps)) c s t ≡ Ok true → Ok (mid s t (more A (firsts ps))) ≡ moved ps c (mid s t A)
assign_true A ps c s t h = by (moved ps c (mid s t A)) refl
  where
    there : (u : State) → moved ps c (mid s t A) ≡ Ok u → (x : Word) → is_among (firsts ps) x ≡ true → u x ≡ t x
    there u p x m = ok_is (sym (moved_good ps c (mid s t A) u p x) ∙ sets_values A ps c s t (firsts ps) h x m)

    kept : (u : State) → moved ps c (mid s t A) ≡ Ok u → (x : Word) → is_among (firsts ps) x ≡ false → u x ≡ mid s t A x
    kept u p x m = ok_is (sym (moved_good ps c (mid s t A) u p x) ∙ value_kept ps c (mid s t A) x m)

    inside : (u : State) → moved ps c (mid s t A) ≡ Ok u → (x : Word) → more A (firsts ps) x ≡ true → u x ≡ t x
    inside u p x e = ⊎_elim (λ m. there u p x m) (λ m. kept u p x m ∙ mid_in s t A x (⊎_elim (λ a. a) (λ b. absurd (both_ways (is_among (firsts ps) x) m b)) (or_cases (A x) (is_among (firsts ps) x) e))) (cases_Bool (is_among (firsts ps) x))

    outside : (u : State) → moved ps c (mid s t A) ≡ Ok u → (x : Word) → more A (firsts ps) x ≡ false → u x ≡ s x
    outside u p x e = let q = or_parts (A x) (is_among (firsts ps) x) e in kept u p x q.1 ∙ mid_out s t A x q.0

    by : (o : Outcome State) → moved ps c (mid s t A) ≡ o → Ok (mid s t (more A (firsts ps))) ≡ moved ps c (mid s t A)
    by (Ok u) p = sym (p ∙ ap Ok (is_mid s t u (more A (firsts ps)) (inside u p) (outside u p)))
    by (Err k) p =
        let b = moved_bad ps c (mid s t A) k p in
        is_bad_not _ (t b.0) b.1 (sets_values A ps c s t (firsts ps) h b.0 (bad_assigned ps c (mid s t A) b.0 b.1))

-- ---- apart

more_false : (A : Names) (xs : List Word) (x : Word) → more A xs x ≡ false → A x ≡ false
more_false A xs x e = (or_parts (A x) (is_among xs x) e).0

pub append_cases : (xs ys : List Word) (x : Word) → is_among (xs ++ ys) x ≡ true → (is_among xs x ≡ true) ⊎ (is_among ys x ≡ true)
append_cases xs ys x e = or_cases (is_among xs x) (is_among ys x) (sym (member_append xs ys x) ∙ e)

pub in_front : (xs ys : List Word) (x : Word) → is_among xs x ≡ true → is_among (xs ++ ys) x ≡ true
in_front xs ys x e = member_append xs ys x ∙ or_left (is_among xs x) (is_among ys x) e

pub behind : (xs ys : List Word) (x : Word) → is_among ys x ≡ true → is_among (xs ++ ys) x ≡ true
behind xs ys x e = member_append xs ys x ∙ or_right (is_among xs x) (is_among ys x) e

mutual
  pub apart_one : (A : Names) (st : Effect) → OnceOne A st → (x : Word) → is_among (effect_names st) x ≡ true → A x ≡ false
  apart_one A (assign ps) h x m = h x m
  apart_one A (await e) h x m = absurd (both_ways false refl m)
  apart_one A (branch e a b) h x m = ⊎_elim (apart A a h.0 x) (apart A b h.1 x) (append_cases (effects_names a) (effects_names b) x m)
  apart_one A (either bs) h x m = apart_by A bs h x m
  apart_one A (choose y e b) h x m = apart A b h x m

  pub apart : (A : Names) (ss : Effects) → Once A ss → (x : Word) → is_among (effects_names ss) x ≡ true → A x ≡ false
  apart A done h x m = absurd (both_ways false refl m)
  apart A (then st rest) h x m =
      ⊎_elim (apart_one A st h.0 x) (λ k. more_false A (effect_names st) x (apart (more A (effect_names st)) rest h.1 x k)) (append_cases (effect_names st) (effects_names rest) x m)

  pub apart_by : (A : Names) (bs : Ways) → OnceSome A bs → (x : Word) → is_among (ways_names bs) x ≡ true → A x ≡ false
  apart_by A no_ways h x m = absurd (both_ways false refl m)
  apart_by A (way b bs) h x m = ⊎_elim (apart A b h.0 x) (apart_by A bs h.1 x) (append_cases (effects_names b) (ways_names bs) x m)

-- A branch, and what it leaves unchanged of the names of all branches

abbrev pub Within : List Word → List Word → Type 0
Within xs ys = (x : Word) → is_among xs x ≡ true → is_among ys x ≡ true

abbrev pub Covers : List Word → List Word → List Word → Type 0
Covers own other all = (x : Word) → is_among all x ≡ true → (is_among own x ≡ true) ⊎ (is_among other x ≡ true)

more_within : (A : Names) (xs ys : List Word) → Within xs ys → (x : Word) → more A xs x ≡ true → more A ys x ≡ true
more_within A xs ys h x e = ⊎_elim (λ a. or_left (A x) (is_among ys x) a) (λ b. or_right (A x) (is_among ys x) (h x b)) (or_cases (A x) (is_among xs x) e)

pub grown : (s t : State) (A : Names) (own other all : List Word) → Within own all → Covers own other all → all_same (minus other own) s t ≡ true → mid s t (more A own) ≡ mid s t (more A all)
grown s t A own other all w v same = mid_grow s t (more A own) (more A all) (more_within A own all w) (λ x out inside. at x (or_parts (A x) (is_among own x) out) inside)
  where
    at : (x : Word) → (A x ≡ false) × (is_among own x ≡ false) → more A all x ≡ true → t x ≡ s x
    at x out inside =
        let in_all : is_among all x ≡ true = ⊎_elim (λ a. absurd (both_ways (A x) out.0 a)) (λ b. b) (or_cases (A x) (is_among all x) inside) in
        ⊎_elim (λ a. absurd (both_ways (is_among own x) out.1 a)) (λ b. minus_same other own s t same x b out.1) (v x in_all)

-- ---- true, so a run fits

pub more_nil : (s t : State) (A : Names) → mid s t (more A []) ≡ mid s t A
more_nil s t A = λ i x. cond (or_false (A x) i) (t x) (s x)
  where
    or_false : (b : Bool) → (b || false) ≡ b
    or_false true = refl
    or_false false = refl

abbrev pub End : State → State → Names → List Word → Outcome State
End s t A xs = Ok (mid s t (more A xs))

await_true : (o : Outcome Bool) (A : Names) (s t : State) → o ≡ Ok true → Awaits o (mid s t A) (End s t A [])
await_true (Ok true) A s t e = ap Ok (more_nil s t A)
await_true (Ok false) A s t e = got_bool e
await_true (Err k) A s t e = not_bad true k (sym e)

branch_true : (o : Outcome Bool) (P Q : Type 0) (v w : Outcome Bool) (r : Outcome State) → o >>= (λ p. cond p v w) ≡ Ok true → (v ≡ Ok true → P) → (w ≡ Ok true → Q) → Chosen o P Q r
branch_true (Ok true) P Q v w r e f g = f e
branch_true (Ok false) P Q v w r e f g = g e
branch_true (Err k) P Q v w r e f g = not_bad true k (sym e)

some_true : (vs : Values) (p : Value → Outcome Bool) (P : Value → Type 0) → some_member vs p ≡ Ok true → ((v : Value) → p v ≡ Ok true → P v) → SomeOf vs P
some_true no_values p P e f = got_bool e
some_true (and v vs) p P e f = ⊎_elim (λ a. inl (f v a)) (λ b. inr (some_true vs p P b f)) (either_true (p v) (some_member vs p) e)

pick_true : (o : Outcome Values) (p : Value → Outcome Bool) (P : Value → Type 0) (r : Outcome State) → o >>= (λ vs. some_member vs p) ≡ Ok true → ((v : Value) → p v ≡ Ok true → P v) → Picks o P r
pick_true (Ok vs) p P r e f = some_true vs p P e f
pick_true (Err k) p P r e f = not_bad true k (sym e)

-- a branch with its UNCHANGED, true
ended_run : (A : Names) (b : Effects) (own other all : List Word) (c : Scope) (s t : State) → Within own all → Covers own other all → hold (ended (build A b) (unchanged (minus other own))) c s t ≡ Ok true → (hold (build A b) c s t ≡ Ok true → Run b c (mid s t A) (End s t A own)) → Run b c (mid s t A) (End s t A all)
ended_run A b own other all c s t w v e run =
    let parts = ended_true (hold (build A b) c s t) (all_same (minus other own) s t) (sym (hold_ended (build A b) (unchanged (minus other own)) c s t) ∙ e) in
    subst (λ m. Run b c (mid s t A) (Ok m)) (grown s t A own other all w v parts.1) (run parts.0)

mutual
  pub true_one : (A : Names) (st : Effect) (c : Scope) (s t : State) → holds (build_one A st) c s t ≡ Ok true → RunOne st c (mid s t A) (End s t A (effect_names st))
  true_one A (assign ps) c s t h = assign_true A ps c s t h
  true_one A (await e) c s t h = await_true (e c (mid s t A)) A s t h
  true_one A (branch e a b) c s t h =
      branch_true (e c (mid s t A)) _ _ _ _ _ h
      (λ k. ended_run A a (effects_names a) (effects_names b) (effects_names a ++ effects_names b) c s t (in_front (effects_names a) (effects_names b)) (append_cases (effects_names a) (effects_names b)) k (λ m. true_all A a c s t m))
      (λ k. ended_run A b (effects_names b) (effects_names a) (effects_names a ++ effects_names b) c s t (behind (effects_names a) (effects_names b)) (λ x m. ⊎_elim inr inl (append_cases (effects_names a) (effects_names b) x m)) k (λ m. true_all A b c s t m))
  true_one A (either bs) c s t h = true_some A (ways_names bs) bs c s t (λ x m. m) h
  true_one A (choose x e b) c s t h = pick_true (e c (mid s t A)) _ _ _ h (λ v k. true_all A b (bound x v c) s t k)

  pub true_all : (A : Names) (ss : Effects) (c : Scope) (s t : State) → hold (build A ss) c s t ≡ Ok true → Run ss c (mid s t A) (End s t A (effects_names ss))
  true_all A done c s t h = ap Ok (more_nil s t A)
  true_all A (then st rest) c s t h =
      let parts = both_true (holds (build_one A st) c s t) (hold (build (more A (effect_names st)) rest) c s t) h in (
        End s t A (effect_names st),
        true_one A st c s t parts.0,
        subst (λ B. Run rest c (mid s t (more A (effect_names st))) (Ok (mid s t B))) (sym (more_append A (effect_names st) (effects_names rest))) (true_all (more A (effect_names st)) rest c s t parts.1),
      )

  true_some : (A : Names) (all : List Word) (bs : Ways) (c : Scope) (s t : State) → Within (ways_names bs) all → hold_some (build_some A all bs) c s t ≡ Ok true → RunSome bs c (mid s t A) (End s t A all)
  true_some A all no_ways c s t w h = got_bool h
  true_some A all (way b bs) c s t w h =
      ⊎_elim
      (λ k. inl (ended_run A b (effects_names b) all all c s t (λ x m. w x (in_front (effects_names b) (ways_names bs) x m)) (λ x m. inr m) k (λ m. true_all A b c s t m)))
      (λ k. inr (true_some A all bs c s t (λ x m. w x (behind (effects_names b) (ways_names bs) x m)) k))
      (either_true _ _ h)
