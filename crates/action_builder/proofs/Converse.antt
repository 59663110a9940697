-- A run that fits makes the written action true, or another branch of it faults; a fault of the action is one of a run.
use Rattle.std.proofs.Common.{◌≡◌, List, [], ◌∷◌, ◌++◌, Bool, true, false, cond, ◌||◌, bytes_eq, ◌⊎◌, refl, sym, ◌∙◌, ap, subst, inl, inr, ⊎_elim, Ok, Err}
use Rattle.std.proofs.lemmas.Bool.{cases_Bool, both_ways, or_left, or_right, or_parts}
use Rattle.tla_token.specs.Signs.{is_among}
use Rattle.tla_tree.specs.Tree.{Word}
use Rattle.tla_value.specs.Value.{Value, Values, no_values, and, Trouble, Outcome, ◌>>=◌, and_then, or_all, IsBad, NotFalse}
use Rattle.tla_value.specs.Order.{same}
use Rattle.pcal_tree.specs.Scope.{Scope, bound, State}
use Rattle.action_builder.proofs.Equal.{eq-name, eq-value}
use Rattle.action_builder.specs.Assigned.{Names, more}
use Rattle.action_builder.specs.laws.States.{mid}
use Rattle.action_builder.proofs.Effects.{Effect, assign, await, branch, either, choose, Effects, done, then, Ways, no_ways, way, Parts, firsts, moved, effect_names, effects_names, ways_names, Awaits, Chosen, SomeOf, Picks, Next, RunOne, Run, RunSome}
use Rattle.action_builder.proofs.Actions.{value_for, hold_sets, settings_of, unchanged, all_same, some_member, holds, hold, hold_some, ended, minus, build_one, build, build_some, OnceOne, Once, OnceSome}
use Rattle.action_builder.proofs.Sets.{more_append, mid_in, mid_out, is_mid, same_minus}
use Rattle.action_builder.proofs.Frame.{frame_one, frame}
use Rattle.action_builder.proofs.Parts.{moved_good, not_bad}
use Rattle.action_builder.proofs.Main.{hold_ended, append_cases, in_front, behind, apart, apart_by, Within, Covers, grown, End, true_one, true_all}

and_not_no : (v w : Outcome Bool) → NotFalse v → NotFalse w → NotFalse (and_then v w)
and_not_no (Ok true) w p q = q
and_not_no (Ok false) w p q = absurd p
and_not_no (Err k) w p q = tt

or_not_no : (v w : Outcome Bool) → NotFalse v ⊎ NotFalse w → NotFalse (or_all v w)
or_not_no (Ok true) (Ok b) p = tt
or_not_no (Ok true) (Err k) p = tt
or_not_no (Ok false) (Ok true) p = tt
or_not_no (Ok false) (Ok false) p = ⊎_elim (λ a. a) (λ b. b) p
or_not_no (Ok false) (Err k) p = tt
or_not_no (Err k) w p = tt

-- A run that fits meets the state between at each of its items.
meets : (A : Names) (xs ys : List Word) (s t u : State) → ((x : Word) → is_among ys x ≡ true → more A xs x ≡ false) → ((x : Word) → is_among xs x ≡ false → u x ≡ mid s t A x) → ((x : Word) → is_among ys x ≡ false → mid s t (more A (xs ++ ys)) x ≡ u x) → u ≡ mid s t (more A xs)
meets A xs ys s t u late before after = is_mid s t u (more A xs) inside outside
  where
    inside : (x : Word) → more A xs x ≡ true → u x ≡ t x
    inside x e =
        let out : is_among ys x ≡ false = ⊎_elim (λ a. absurd (both_ways (more A xs x) (late x a) e)) (λ b. b) (cases_Bool (is_among ys x)) in
        sym (after x out) ∙ mid_in s t (more A (xs ++ ys)) x (ap (λ B. B x) (more_append A xs ys) ∙ or_left (more A xs x) (is_among ys x) e)

    outside : (x : Word) → more A xs x ≡ false → u x ≡ s x
    outside x e = let p = or_parts (A x) (is_among xs x) e in before x p.1 ∙ mid_out s t A x p.0

-- what a branch leaves unchanged, where its end fits
left : (A : Names) (own other all : List Word) (s t : State) → ((x : Word) → is_among other x ≡ true → A x ≡ false) → Within other all → ((x : Word) → is_among own x ≡ false → mid s t (more A all) x ≡ mid s t A x) → all_same (minus other own) s t ≡ true
left A own other all s t late w frames = same_minus other own s t (λ x e f.
    sym (mid_in s t (more A all) x (or_right (A x) (is_among all x) (w x e))) ∙ frames x f ∙ mid_out s t A x (late x e))

ended_fits : (A : Names) (b : Effects) (own other all : List Word) (c : Scope) (s t : State) → Within own all → Within other all → Covers own other all → ((x : Word) → is_among other x ≡ true → A x ≡ false) → ((x : Word) → is_among own x ≡ false → mid s t (more A all) x ≡ mid s t A x) → Run b c (mid s t A) (End s t A all) → (Run b c (mid s t A) (End s t A own) → NotFalse (hold (build A b) c s t)) → NotFalse (hold (ended (build A b) (unchanged (minus other own))) c s t)
ended_fits A b own other all c s t w w' v late frames r ih =
    let same = left A own other all s t late w' frames in
    let here = subst (λ m. Run b c (mid s t A) (Ok m)) (sym (grown s t A own other all w v same)) r in
    subst NotFalse (sym (hold_ended (build A b) (unchanged (minus other own)) c s t)) (and_not_no (hold (build A b) c s t) _ (ih here) (subst (λ z. NotFalse (and_then (Ok z) (Ok true))) (sym same) tt))

and_true : (v w : Outcome Bool) → v ≡ Ok true → w ≡ Ok true → and_then v w ≡ Ok true
and_true v w p q = ap (λ x. and_then x w) p ∙ q

pub sets_true : (A : Names) (ps : Parts) (c : Scope) (s t : State) (ys : List Word) → ((y : Word) → is_among ys y ≡ true → value_for y ps c (mid s t A) ≡ Ok (t y)) → hold_sets (settings_of A ps ys) c s t ≡ Ok true
sets_true A ps c s t [] h = refl
sets_true A ps c s t (z ∷ ys) h =
    and_true _ _
    (ap (λ o. o >>= (λ v. Ok (same (t z) v))) (h z (or_left (bytes_eq z z) (is_among ys z) (eq-name z z refl))) ∙ ap Ok (eq-value (t z) (t z) refl))
    (sets_true A ps c s t ys (λ y m. h y (or_right (bytes_eq z y) (is_among ys y) m)))

assign_fits : (A : Names) (ps : Parts) (c : Scope) (s t : State) → Ok (mid s t (more A (firsts ps))) ≡ moved ps c (mid s t A) → NotFalse (hold_sets (settings_of A ps (firsts ps)) c s t)
assign_fits A ps c s t r = subst NotFalse (sym (sets_true A ps c s t (firsts ps) (λ y m. moved_good ps c (mid s t A) _ (sym r) y ∙ ap Ok (mid_in s t (more A (firsts ps)) y (or_right (A y) (is_among (firsts ps) y) m))))) tt

await_fits : (o : Outcome Bool) (m : State) (r : State) → Awaits o m (Ok r) → NotFalse o
await_fits (Ok true) m r e = tt
await_fits (Ok false) m r e = e
await_fits (Err k) m r e = tt

chosen_fits : (o : Outcome Bool) (P Q : Type 0) (v w : Outcome Bool) (r : State) → Chosen o P Q (Ok r) → (P → NotFalse v) → (Q → NotFalse w) → NotFalse (o >>= (λ p. cond p v w))
chosen_fits (Ok true) P Q v w r h f g = f h
chosen_fits (Ok false) P Q v w r h f g = g h
chosen_fits (Err k) P Q v w r h f g = tt

some_fits : (vs : Values) (p : Value → Outcome Bool) (P : Value → Type 0) → SomeOf vs P → ((v : Value) → P v → NotFalse (p v)) → NotFalse (some_member vs p)
some_fits no_values p P h f = h
some_fits (and v vs) p P h f = or_not_no (p v) (some_member vs p) (⊎_elim (λ a. inl (f v a)) (λ b. inr (some_fits vs p P b f)) h)

pick_fits : (o : Outcome Values) (p : Value → Outcome Bool) (P : Value → Type 0) (r : State) → Picks o P (Ok r) → ((v : Value) → P v → NotFalse (p v)) → NotFalse (o >>= (λ vs. some_member vs p))
pick_fits (Ok vs) p P r h f = some_fits vs p P h f
pick_fits (Err k) p P r h f = tt

-- the middle of a run of two parts
halves : (R : State → Outcome State → Type 0) (q : Outcome State) (r : State) (P : Type 0) → Next R q (Ok r) → ((u : State) → q ≡ Ok u → R u (Ok r) → P) → P
halves R (Ok u) r P n h = h u refl n
halves R (Err k) r P n h = not_bad r k n

mutual
  pub fits_one : (A : Names) (st : Effect) (c : Scope) (s t : State) → OnceOne A st → RunOne st c (mid s t A) (End s t A (effect_names st)) → NotFalse (holds (build_one A st) c s t)
  fits_one A (assign ps) c s t o r = assign_fits A ps c s t r
  fits_one A (await e) c s t o r = await_fits (e c (mid s t A)) _ _ r
  fits_one A (branch e a b) c s t o r =
      chosen_fits (e c (mid s t A)) _ _ _ _ _ r
      (λ k. ended_fits A a (effects_names a) (effects_names b) (effects_names a ++ effects_names b) c s t (in_front (effects_names a) (effects_names b)) (behind (effects_names a) (effects_names b)) (append_cases (effects_names a) (effects_names b)) (apart A b o.1) (λ x f. frame a c (mid s t A) _ x k f) k (λ m. fits_all A a c s t o.0 m))
      (λ k. ended_fits A b (effects_names b) (effects_names a) (effects_names a ++ effects_names b) c s t (behind (effects_names a) (effects_names b)) (in_front (effects_names a) (effects_names b)) (λ x m. ⊎_elim inr inl (append_cases (effects_names a) (effects_names b) x m)) (apart A a o.0) (λ x f. frame b c (mid s t A) _ x k f) k (λ m. fits_all A b c s t o.1 m))
  fits_one A (either bs) c s t o r = fits_some A (ways_names bs) bs c s t o (λ x m. m) (apart_by A bs o) r
  fits_one A (choose x e b) c s t o r = pick_fits (e c (mid s t A)) _ _ _ r (λ v k. fits_all A b (bound x v c) s t o k)

  pub fits_all : (A : Names) (ss : Effects) (c : Scope) (s t : State) → Once A ss → Run ss c (mid s t A) (End s t A (effects_names ss)) → NotFalse (hold (build A ss) c s t)
  fits_all A done c s t o r = tt
  fits_all A (then st rest) c s t o r =
      halves (Run rest c) r.0 _ _ r.2 (λ u q n.
      let one : RunOne st c (mid s t A) (Ok u) = subst (RunOne st c (mid s t A)) q r.1 in
      let between : u ≡ mid s t (more A (effect_names st)) = meets A (effect_names st) (effects_names rest) s t u (apart (more A (effect_names st)) rest o.1) (λ x f. frame_one st c (mid s t A) u x one f) (λ x f. frame rest c u _ x n f) in
      let one' : RunOne st c (mid s t A) (End s t A (effect_names st)) = subst (λ w. RunOne st c (mid s t A) (Ok w)) between one in
      let two : Run rest c (mid s t (more A (effect_names st))) (Ok (mid s t (more A (effect_names st ++ effects_names rest)))) = subst (λ w. Run rest c w (Ok (mid s t (more A (effect_names st ++ effects_names rest))))) between n in
      let two' : Run rest c (mid s t (more A (effect_names st))) (End s t (more A (effect_names st)) (effects_names rest)) = subst (λ B. Run rest c (mid s t (more A (effect_names st))) (Ok (mid s t B))) (more_append A (effect_names st) (effects_names rest)) two in
      and_not_no (holds (build_one A st) c s t) (hold (build (more A (effect_names st)) rest) c s t) (fits_one A st c s t o.0 one') (fits_all (more A (effect_names st)) rest c s t o.1 two'))

  fits_some : (A : Names) (all : List Word) (bs : Ways) (c : Scope) (s t : State) → OnceSome A bs → Within (ways_names bs) all → ((x : Word) → is_among all x ≡ true → A x ≡ false) → RunSome bs c (mid s t A) (End s t A all) → NotFalse (hold_some (build_some A all bs) c s t)
  fits_some A all no_ways c s t o w late r = absurd r
  fits_some A all (way b bs) c s t o w late r =
      or_not_no _ (hold_some (build_some A all bs) c s t) (⊎_elim
      (λ k. inl (ended_fits A b (effects_names b) all all c s t (λ x m. w x (in_front (effects_names b) (ways_names bs) x m)) (λ x m. m) (λ x m. inr m) late (λ x f. frame b c (mid s t A) _ x k f) k (λ m. fits_all A b c s t o.0 m)))
      (λ k. inr (fits_some A all bs c s t o.1 (λ x m. w x (behind (effects_names b) (ways_names bs) x m)) late k))
      r)

-- ---- faults of the action are faults of a run

abbrev fails : Trouble → Outcome Bool
fails k = Err k

both_bad : (v w : Outcome Bool) (k : Trouble) → and_then v w ≡ Err k → (v ≡ Err k) ⊎ ((v ≡ Ok true) × (w ≡ Err k))
both_bad (Ok true) w k e = inr (refl, e)
both_bad (Ok false) w k e = not_bad false k e
both_bad (Err j) w k e = inl e

ended_bad : (v : Outcome Bool) (b : Bool) (k : Trouble) → and_then v (and_then (Ok b) (Ok true)) ≡ Err k → v ≡ Err k
ended_bad v true k e = ⊎_elim (λ a. a) (λ p. not_bad true k p.1) (both_bad v (Ok true) k e)
ended_bad v false k e = ⊎_elim (λ a. a) (λ p. not_bad false k p.1) (both_bad v (Ok false) k e)

either_bad : (v w : Outcome Bool) (k : Trouble) → or_all v w ≡ Err k → (v ≡ Err k) ⊎ (w ≡ Err k)
either_bad (Ok a) (Ok b) k e = not_bad (a || b) k e
either_bad (Ok a) (Err j) k e = inr e
either_bad (Err j) w k e = inl e

-- a fault, of whatever kind
abbrev pub Some : (Trouble → Type 0) → Type 0
Some P = (j : Trouble) × P j

sets_bad : (A : Names) (ps : Parts) (c : Scope) (s t : State) (ys : List Word) (k : Trouble) → hold_sets (settings_of A ps ys) c s t ≡ Err k → (y : Word) × IsBad (value_for y ps c (mid s t A))
sets_bad A ps c s t [] k h = not_bad true k h
sets_bad A ps c s t (z ∷ ys) k h = ⊎_elim
    (λ a. (z, by (value_for z ps c (mid s t A)) a))
    (λ b. sets_bad A ps c s t ys k b.1)
    (both_bad _ (hold_sets (settings_of A ps ys) c s t) k h)
  where
    by : (o : Outcome Value) → o >>= (λ v. Ok (same (t z) v)) ≡ Err k → IsBad o
    by (Ok v) e = not_bad (same (t z) v) k e
    by (Err j) e = tt

assign_bad : (A : Names) (ps : Parts) (c : Scope) (s t : State) (k : Trouble) → hold_sets (settings_of A ps (firsts ps)) c s t ≡ Err k → Some (λ j. Err j ≡ moved ps c (mid s t A))
assign_bad A ps c s t k h = by (moved ps c (mid s t A)) refl (sets_bad A ps c s t (firsts ps) k h)
  where
    by : (o : Outcome State) → moved ps c (mid s t A) ≡ o → (y : Word) × IsBad (value_for y ps c (mid s t A)) → Some (λ j. Err j ≡ moved ps c (mid s t A))
    by (Ok u) p b = absurd (subst IsBad (moved_good ps c (mid s t A) u p b.0) b.1)
    by (Err j) p b = (j, sym p)

await_bad : (o : Outcome Bool) (k : Trouble) (s : State) → o ≡ Err k → Some (λ j. Awaits o s (Err j))
await_bad (Ok b) k s e = not_bad b k e
await_bad (Err j) k s e = (j, refl)

branch_bad : (o : Outcome Bool) (P Q : Trouble → Type 0) (v w : Outcome Bool) (k : Trouble) → o >>= (λ p. cond p v w) ≡ Err k → (v ≡ Err k → Some P) → (w ≡ Err k → Some Q) → Some (λ j. Chosen o (P j) (Q j) (Err j))
branch_bad (Ok true) P Q v w k e f g = f e
branch_bad (Ok false) P Q v w k e f g = g e
branch_bad (Err j) P Q v w k e f g = (j, refl)

some_bad : (vs : Values) (p : Value → Outcome Bool) (P : Value → Trouble → Type 0) (k : Trouble) → some_member vs p ≡ Err k → ((v : Value) → p v ≡ Err k → Some (P v)) → Some (λ j. SomeOf vs (λ v. P v j))
some_bad no_values p P k e f = not_bad false k e
some_bad (and v vs) p P k e f = ⊎_elim (λ a. let r = f v a in (r.0, inl r.1)) (λ b. let r = some_bad vs p P k b f in (r.0, inr r.1)) (either_bad (p v) (some_member vs p) k e)

pick_bad : (o : Outcome Values) (p : Value → Outcome Bool) (P : Value → Trouble → Type 0) (k : Trouble) → o >>= (λ vs. some_member vs p) ≡ Err k → ((v : Value) → p v ≡ Err k → Some (P v)) → Some (λ j. Picks o (λ v. P v j) (Err j))
pick_bad (Ok vs) p P k e f = some_bad vs p P k e f
pick_bad (Err j) p P k e f = (j, refl)

mutual
  pub bad_one : (A : Names) (st : Effect) (c : Scope) (s t : State) (k : Trouble) → holds (build_one A st) c s t ≡ Err k → Some (λ j. RunOne st c (mid s t A) (Err j))
  bad_one A (assign ps) c s t k h = assign_bad A ps c s t k h
  bad_one A (await e) c s t k h = await_bad (e c (mid s t A)) k (mid s t A) h
  bad_one A (branch e a b) c s t k h =
      branch_bad (e c (mid s t A)) (λ j. Run a c (mid s t A) (Err j)) (λ j. Run b c (mid s t A) (Err j)) _ _ k h
      (λ m. bad_all A a c s t k (ended_bad _ _ k (sym (hold_ended (build A a) _ c s t) ∙ m)))
      (λ m. bad_all A b c s t k (ended_bad _ _ k (sym (hold_ended (build A b) _ c s t) ∙ m)))
  bad_one A (either bs) c s t k h = bad_some A (ways_names bs) bs c s t k h
  bad_one A (choose x e b) c s t k h = pick_bad (e c (mid s t A)) _ (λ v j. Run b (bound x v c) (mid s t A) (Err j)) k h (λ v m. bad_all A b (bound x v c) s t k m)

  pub bad_all : (A : Names) (ss : Effects) (c : Scope) (s t : State) (k : Trouble) → hold (build A ss) c s t ≡ Err k → Some (λ j. Run ss c (mid s t A) (Err j))
  bad_all A done c s t k h = not_bad true k h
  bad_all A (then st rest) c s t k h =
      ⊎_elim
      (λ m. let r = bad_one A st c s t k m in (r.0, (Err r.0, r.1, refl)))
      (λ m. let r = bad_all (more A (effect_names st)) rest c s t k m.1 in (r.0, (End s t A (effect_names st), true_one A st c s t m.0, r.1)))
      (both_bad (holds (build_one A st) c s t) (hold (build (more A (effect_names st)) rest) c s t) k h)

  bad_some : (A : Names) (all : List Word) (bs : Ways) (c : Scope) (s t : State) (k : Trouble) → hold_some (build_some A all bs) c s t ≡ Err k → Some (λ j. RunSome bs c (mid s t A) (Err j))
  bad_some A all no_ways c s t k h = not_bad false k h
  bad_some A all (way b bs) c s t k h =
      ⊎_elim
      (λ m. let r = bad_all A b c s t k (ended_bad _ _ k (sym (hold_ended (build A b) _ c s t) ∙ m)) in (r.0, inl r.1))
      (λ m. let r = bad_some A all bs c s t k m in (r.0, inr r.1))
      (either_bad _ _ k h)

-- ---- the theorem, where no run faults

abbrev pub NoFault : Effects → Scope → State → Type 0
NoFault ss c m = (k : Trouble) → Run ss c m (Err k) → ⊥

pub true_exactly : (A : Names) (ss : Effects) (c : Scope) (s t : State) → Once A ss → NoFault ss c (mid s t A) → (hold (build A ss) c s t ≡ Ok true → Run ss c (mid s t A) (End s t A (effects_names ss))) × (Run ss c (mid s t A) (End s t A (effects_names ss)) → hold (build A ss) c s t ≡ Ok true)
true_exactly A ss c s t o fine = (true_all A ss c s t, λ r. by (hold (build A ss) c s t) refl (fits_all A ss c s t o r))
  where
    by : (v : Outcome Bool) → hold (build A ss) c s t ≡ v → NotFalse v → hold (build A ss) c s t ≡ Ok true
    by (Ok true) e n = e
    by (Ok false) e n = absurd n
    by (Err k) e n = let r = bad_all A ss c s t k e in absurd (fine r.0 r.1)

-- an end that agrees with t on A and on all that the items assign is the state between
pub fitting_end : (A : Names) (ss : Effects) (c : Scope) (s t u : State) → Run ss c (mid s t A) (Ok u) → ((x : Word) → more A (effects_names ss) x ≡ true → u x ≡ t x) → u ≡ mid s t (more A (effects_names ss))
fitting_end A ss c s t u r fits = is_mid s t u (more A (effects_names ss)) fits (λ x e.
    let p = or_parts (A x) (is_among (effects_names ss) x) e in frame ss c (mid s t A) u x r p.1 ∙ mid_out s t A x p.0)
