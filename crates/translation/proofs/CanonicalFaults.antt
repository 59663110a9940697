-- Where the written action is a fault for some later state, it is one for a later state whose variables have canonical values.
use Rattle.std.proofs.Common.{◌≡◌, ◌↔◌, List, [], ◌∷◌, Bool, true, false, cond, refl, sym, ap, ◌∙◌, subst, ⊎_elim, Ok, Err}
use Rattle.std.proofs.lemmas.Bool.{cases_Bool}
use Rattle.tla_token.specs.Signs.{is_among}
use Rattle.tla_tree.specs.Tree.{Word}
use Rattle.tla_value.specs.Value.{Value, Values, no_values, and, Outcome, ◌>>=◌, and_then, or_all, IsBad}
use Rattle.tla_value.specs.Order.{same, IsCanonical, AreCanonical}
use Rattle.tla_value.specs.OrderLaws.{same_is}
use Rattle.tla_value.specs.Stops.{plain}
use Rattle.tla_value.specs.Meaning.{Env}
use Rattle.tla_value.specs.laws.CanonicalNames.{Has}
use Rattle.tla_value.specs.laws.Places.{AgreeButPlaces}
use Rattle.tla_value.proofs.Canonical.{IsSet}
use Rattle.module_tree.specs.ActionTruth.{Verdict}
use Rattle.pcal_tree.specs.Scope.{State, Scope, bound}
use Rattle.action_builder.specs.Assigned.{Names, more, assigned_in}
use Rattle.action_builder.specs.Prepared.{none}
use Rattle.action_builder.specs.Written.{left_of, unchanged_of}
use Rattle.action_builder.specs.laws.LabelSteps.{LabelStep, prepared_of, items_of, action_of, IsReady}
use Rattle.action_builder.specs.laws.Ready.{Readable, values_of, holds_on}
use Rattle.action_builder.specs.laws.States.{mid}
use Rattle.action_builder.proofs.Actions.{value_for, hold_sets, settings_of, Items, some_member, holds, hold, hold_some, ended, minus, unchanged, build_one, build, build_some}
use Rattle.action_builder.proofs.Effects.{Effect, assign, await, branch, either, choose, Effects, done, then, Ways, no_ways, way, Parts, firsts, effect_names, effects_names, ways_names, effects_of}
use Rattle.action_builder.proofs.Faults.{mid_agree, local_one}
use Rattle.action_builder.proofs.Main.{hold_ended, true_one}
use Rattle.action_builder.proofs.Matching.{Matches}
use Rattle.action_builder.proofs.Sets.{mid_in, mid_out}
use Rattle.action_builder.proofs.Truth.{hold_onto, match_all}
use Rattle.translation.proofs.CanonicalTold.{canonical_or, or_canonical, or_same}
use Rattle.translation.proofs.CanonicalRuns.{AllCanonical, CanonicalScope, canonical_bound, KeepsOne, Keeps, KeepsSome, run_one_keeps, all_keep}

-- ---- verdicts

pub and_first : (v w : Verdict) → IsBad v → IsBad (and_then v w)
and_first (Ok b) w h = absurd h
and_first (Err k) w h = tt

and_second : (v w : Verdict) → v ≡ Ok true → IsBad w → IsBad (and_then v w)
and_second v w e h = subst (λ z. IsBad (and_then z w)) (sym e) h

pub or_first : (v w : Verdict) → IsBad v → IsBad (or_all v w)
or_first (Ok b) w h = absurd h
or_first (Err k) w h = tt

pub or_second : (v w : Verdict) → IsBad w → IsBad (or_all v w)
or_second (Ok a) (Ok b) h = absurd h
or_second (Ok a) (Err k) h = tt
or_second (Err j) w h = tt

and_bad : (v w : Verdict) (Z : Type 0) → IsBad (and_then v w) → (IsBad v → Z) → (v ≡ Ok true → IsBad w → Z) → Z
and_bad (Ok true) w Z h f g = g refl h
and_bad (Ok false) w Z h f g = absurd h
and_bad (Err k) w Z h f g = f tt

or_bad : (v w : Verdict) (Z : Type 0) → IsBad (or_all v w) → (IsBad v → Z) → (IsBad w → Z) → Z
or_bad (Ok a) (Ok b) Z h f g = absurd h
or_bad (Ok a) (Err k) Z h f g = g tt
or_bad (Err k) w Z h f g = f tt

-- the same but for places: both are a fault, or neither is
pub bad_alike : (v w : Verdict) → AgreeButPlaces v w → IsBad v ↔ IsBad w
bad_alike (Ok a) (Ok b) h = (λ i. i, λ i. i)
bad_alike (Ok a) (Err k) h = absurd h
bad_alike (Err j) (Ok b) h = absurd h
bad_alike (Err j) (Err k) h = (λ i. i, λ i. i)

-- a branch faults only where its items do, as what it leaves unchanged never does
ended_bad : (is : Items) (xs : List Word) (c : Scope) (s t : State) → IsBad (hold (ended is (unchanged xs)) c s t) → IsBad (hold is c s t)
ended_bad is xs c s t h = by (hold is c s t) _ (subst IsBad (hold_ended is (unchanged xs) c s t) h)
  where
    by : (v : Verdict) (b : Bool) → IsBad (and_then v (and_then (Ok b) (Ok true))) → IsBad v
    by (Ok true) true k = k
    by (Ok true) false k = k
    by (Ok false) b k = k
    by (Err j) b k = tt

bad_ended : (is : Items) (xs : List Word) (c : Scope) (s t : State) → IsBad (hold is c s t) → IsBad (hold (ended is (unchanged xs)) c s t)
bad_ended is xs c s t h = subst IsBad (sym (hold_ended is (unchanged xs) c s t)) (and_first (hold is c s t) _ h)

chosen_bad : (o : Outcome Bool) (v w x y : Verdict) → IsBad (o >>= (λ p. cond p v w)) → (IsBad v → IsBad x) → (IsBad w → IsBad y) → IsBad (o >>= (λ p. cond p x y))
chosen_bad (Ok true) v w x y h f g = f h
chosen_bad (Ok false) v w x y h f g = g h
chosen_bad (Err k) v w x y h f g = tt

some_bad : (us : Values) (p q : Value → Verdict) → AreCanonical us → IsBad (some_member us p) → ((v : Value) → IsCanonical v → IsBad (p v) → IsBad (q v)) → IsBad (some_member us q)
some_bad no_values p q k h f = absurd h
some_bad (and v us) p q k h f =
    or_bad (p v) (some_member us p) _ h (λ i. or_first (q v) (some_member us q) (f v k.0 i)) (λ i. or_second (q v) (some_member us q) (some_bad us p q k.1 i f))

picks_bad : (o : Outcome Values) (p q : Value → Verdict) → Has IsSet o → IsBad (o >>= (λ us. some_member us p)) → ((v : Value) → IsCanonical v → IsBad (p v) → IsBad (q v)) → IsBad (o >>= (λ us. some_member us q))
picks_bad (Ok us) p q k h f = some_bad us p q k.1 h f
picks_bad (Err j) p q k h f = tt

-- ---- the later state

module _ (vs : List Word) (s u : State) (start : AllCanonical vs s) where
  -- what is canonical of u, else as before
  abbrev later : State
  later x = cond (is_among vs x) (canonical_or (u x) (s x)) (u x)

  later_canonical : AllCanonical vs later
  later_canonical x m = subst IsCanonical (sym (ap (λ b. cond b (canonical_or (u x) (s x)) (u x)) m)) (or_canonical (u x) (s x) (start x m))

  later_same : (x : Word) → (is_among vs x ≡ true → IsCanonical (u x)) → later x ≡ u x
  later_same x h =
      ⊎_elim
      (λ m. ap (λ b. cond b (canonical_or (u x) (s x)) (u x)) m ∙ or_same (u x) (s x) (h m))
      (λ m. ap (λ b. cond b (canonical_or (u x) (s x)) (u x)) m)
      (cases_Bool (is_among vs x))

  -- u is canonical on A
  abbrev CanonicalOn : Names → Type 0
  CanonicalOn A = (x : Word) → A x ≡ true → is_among vs x ≡ true → IsCanonical (u x)

  middle_canonical : (A : Names) → CanonicalOn A → AllCanonical vs (mid s u A)
  middle_canonical A h x m = ⊎_elim (λ a. subst IsCanonical (sym (mid_in s u A x a)) (h x a m)) (λ a. subst IsCanonical (sym (mid_out s u A x a)) (start x m)) (cases_Bool (A x))

  middle_same : (A : Names) → CanonicalOn A → mid s later A ≡ mid s u A
  middle_same A h = mid_agree s later u A (λ x a. later_same x (h x a))

  -- after an item that is true u is canonical on what it assigns too
  true_canonical : (A : Names) (st : Effect) → KeepsOne vs st → (c : Scope) → CanonicalScope vs c → CanonicalOn A → holds (build_one A st) c s u ≡ Ok true → CanonicalOn (more A (effect_names st))
  true_canonical A st k c g h e x a m =
      subst IsCanonical (mid_in s u (more A (effect_names st)) x a)
      (run_one_keeps vs st k c (mid s u A) (Ok (mid s u (more A (effect_names st)))) g (middle_canonical A h) (true_one A st c s u e) x m)

  -- ---- the settings of an assignment

  set_bad : (y : Word) (o : Outcome Value) (w x : Verdict) → (is_among vs y ≡ true → Has IsCanonical o) → IsBad (and_then (o >>= (λ v. Ok (same (u y) v))) w) → (IsBad w → IsBad x) → IsBad (and_then (o >>= (λ v. Ok (same (later y) v))) x)
  set_bad y (Err j) w x q b f = tt
  set_bad y (Ok v) w x q b f = by (same (u y) v) refl b
    where
      by : (b : Bool) → same (u y) v ≡ b → IsBad (and_then (Ok b) w) → IsBad (and_then (Ok (same (later y) v)) x)
      by false e i = absurd i
      by true e i =
          let is : later y ≡ u y = later_same y (λ m. subst IsCanonical (sym (same_is (u y) v e)) (q m)) in
          and_second (Ok (same (later y) v)) x (ap (λ z. Ok (same z v)) is ∙ ap (λ z. Ok z) e) (f i)

  sets_bad : (A : Names) (ps : Parts) → KeepsOne vs (assign ps) → (c : Scope) → CanonicalScope vs c → CanonicalOn A → (ys : List Word) → IsBad (hold_sets (settings_of A ps ys) c s u) → IsBad (hold_sets (settings_of A ps ys) c s later)
  sets_bad A ps k c g h [] b = absurd b
  sets_bad A ps k c g h (y ∷ ys) b =
      subst (λ w. IsBad (and_then (value_for y ps c w >>= (λ v. Ok (same (later y) v))) (hold_sets (settings_of A ps ys) c s later))) (sym (middle_same A h))
      (set_bad y (value_for y ps c (mid s u A)) (hold_sets (settings_of A ps ys) c s u) (hold_sets (settings_of A ps ys) c s later) (λ m. k y m c (mid s u A) g (middle_canonical A h)) b (sets_bad A ps k c g h ys))

  -- ---- all items

  mutual
    bad_one : (A : Names) (st : Effect) → KeepsOne vs st → (c : Scope) → CanonicalScope vs c → CanonicalOn A → IsBad (holds (build_one A st) c s u) → IsBad (holds (build_one A st) c s later)
    bad_one A (assign ps) k c g h b = sets_bad A ps k c g h (firsts ps) b
    bad_one A (await e) k c g h b = subst (λ w. IsBad (e c w)) (sym (middle_same A h)) b
    bad_one A (branch e x y) k c g h b =
        subst (λ w. IsBad (e c w >>= (λ p. cond p (hold (ended (build A x) (unchanged (minus (effects_names y) (effects_names x)))) c s later) (hold (ended (build A y) (unchanged (minus (effects_names x) (effects_names y)))) c s later)))) (sym (middle_same A h))
        (chosen_bad (e c (mid s u A)) _ _ _ _ b
        (λ i. bad_ended (build A x) (minus (effects_names y) (effects_names x)) c s later (bad_all A x k.0 c g h (ended_bad (build A x) (minus (effects_names y) (effects_names x)) c s u i)))
        (λ i. bad_ended (build A y) (minus (effects_names x) (effects_names y)) c s later (bad_all A y k.1 c g h (ended_bad (build A y) (minus (effects_names x) (effects_names y)) c s u i))))
    bad_one A (either bs) k c g h b = bad_some A (ways_names bs) bs k c g h b
    bad_one A (choose x e ss) k c g h b =
        subst (λ w. IsBad (e c w >>= (λ us. some_member us (λ v. hold (build A ss) (bound x v c) s later)))) (sym (middle_same A h))
        (picks_bad (e c (mid s u A)) (λ v. hold (build A ss) (bound x v c) s u) (λ v. hold (build A ss) (bound x v c) s later) (k.1 c (mid s u A) g (middle_canonical A h)) b
        (λ v q i. bad_all A ss k.2 (bound x v c) (canonical_bound vs x v c k.0 q g) h i))

    bad_all : (A : Names) (ss : Effects) → Keeps vs ss → (c : Scope) → CanonicalScope vs c → CanonicalOn A → IsBad (hold (build A ss) c s u) → IsBad (hold (build A ss) c s later)
    bad_all A done k c g h b = absurd b
    bad_all A (then st rest) k c g h b =
        and_bad (holds (build_one A st) c s u) (hold (build (more A (effect_names st)) rest) c s u) _ b
        (λ i. and_first (holds (build_one A st) c s later) _ (bad_one A st k.0 c g h i))
        (λ e i. (let on = true_canonical A st k.0 c g h e in
        and_second (holds (build_one A st) c s later) _ (local_one A st c s later u (λ x a. later_same x (on x a)) ∙ e) (bad_all (more A (effect_names st)) rest k.1 c g on i)))

    bad_some : (A : Names) (all : List Word) (bs : Ways) → KeepsSome vs bs → (c : Scope) → CanonicalScope vs c → CanonicalOn A → IsBad (hold_some (build_some A all bs) c s u) → IsBad (hold_some (build_some A all bs) c s later)
    bad_some A all no_ways k c g h b = absurd b
    bad_some A all (way ss bs) k c g h b =
        let xs = minus all (effects_names ss) in
        or_bad (hold (ended (build A ss) (unchanged xs)) c s u) (hold_some (build_some A all bs) c s u) _ b
        (λ i. or_first (hold (ended (build A ss) (unchanged xs)) c s later) _ (bad_ended (build A ss) xs c s later (bad_all A ss k.0 c g h (ended_bad (build A ss) xs c s u i))))
        (λ i. or_second (hold (ended (build A ss) (unchanged xs)) c s later) _ (bad_some A all bs k.1 c g h i))

-- ---- of a step

matched_bad : (p v : Verdict) → Matches p v → IsBad p → IsBad v
matched_bad (Ok a) v h i = absurd i
matched_bad (Err k) (Ok b) h i = absurd h
matched_bad (Err k) (Err j) h i = tt

bad_matched : (p v : Verdict) → Matches p v → IsBad v → IsBad p
bad_matched (Ok a) (Ok b) h i = absurd i
bad_matched (Ok a) (Err k) h i = absurd h
bad_matched (Err k) v h i = tt

-- where the items of a step fault for some later state, its action faults for one of canonical values
pub canonical_fault : (U : Readable) (vs : List Word) (env : State → State → Env) (d : LabelStep) → IsReady U vs env none d → CanonicalScope vs d.scope → (s u : State) → AllCanonical vs s → IsBad (holds_on vs env (items_of vs none d) s u)
    → (t : State) × AllCanonical vs t × IsBad (holds_on vs env (action_of vs d) s t)
canonical_fault U vs env d r g s u i b =
    let ss = prepared_of d in
    let t = later vs s u i in
    let items = bad_matched _ _ (match_all U vs none ss r.settled r.fine r.within d.scope env r.stands s t)
    (bad_all vs s u i none (effects_of plain ss) (all_keep vs U none ss r.settled r.fine) d.scope g (λ x a m. cc) (matched_bad _ _ (match_all U vs none ss r.settled r.fine r.within d.scope env r.stands s u) b)) in (
      t,
      later_canonical vs s u i,
      subst IsBad (sym (hold_onto (values_of vs s) (values_of vs t) (env s t) (items_of vs none d) (unchanged_of (left_of vs vs (assigned_in ss))))) (and_first _ _ items),
    )
