-- Where some run faults, the written action faults for some later state that agrees on A.
use Rattle.std.proofs.Common.{◌≡◌, List, [], ◌∷◌, ◌++◌, Bool, true, false, cond, ◌&&◌, bytes_eq, ◌⊎◌, refl, sym, ◌∙◌, ap, subst, inl, inr, ⊎_elim, Ok, Err}
use Rattle.std.proofs.lemmas.Bool.{cases_Bool, or_cases, both_ways, or_left, or_right, or_parts}
use Rattle.tla_token.specs.Signs.{is_among}
use Rattle.tla_token.proofs.Spelled.{same_bytes}
use Rattle.tla_tree.specs.Tree.{Word}
use Rattle.tla_value.specs.Value.{Value, Values, no_values, and, Trouble, Outcome, ◌>>=◌, and_then, or_all, IsBad, NotFalse}
use Rattle.tla_value.specs.Order.{same}
use Rattle.pcal_tree.specs.Scope.{Scope, bound, State}
use Rattle.action_builder.proofs.Equal.{eq-name, eq-value}
use Rattle.action_builder.specs.Assigned.{Names, more}
use Rattle.action_builder.specs.laws.States.{mid, SameOn, BadSomewhere}
use Rattle.action_builder.proofs.Effects.{Effect, assign, await, branch, either, choose, Effects, done, then, Ways, no_ways, way, Parts, firsts, moved, effect_names, effects_names, ways_names, Awaits, Chosen, SomeOf, Picks, Next, RunOne, Run, RunSome}
use Rattle.action_builder.proofs.Actions.{value_for, hold_sets, settings_of, Item, unchanged, Items, all_same, some_member, holds, hold, hold_some, ended, minus, build_one, build, build_some, OnceOne, Once, OnceSome}
use Rattle.action_builder.proofs.Sets.{more_append, mid_in, mid_out, is_mid}
use Rattle.action_builder.proofs.Frame.{frame_one}
use Rattle.action_builder.proofs.Parts.{moved_bad, bad_assigned, not_bad}
use Rattle.action_builder.proofs.Main.{hold_ended, in_front, behind, apart_one, Within}
use Rattle.action_builder.proofs.Converse.{fits_one}
use Rattle.action_builder.specs.laws.Ready.{Apart}
use Rattle.action_builder.proofs.SetAgain.{bad_first}

pub mid_agree : (s t u : State) (A : Names) → SameOn A t u → mid s t A ≡ mid s u A
mid_agree s t u A h = is_mid s u (mid s t A) A (λ x e. mid_in s t A x e ∙ h x e) (λ x e. mid_out s t A x e)

-- ---- the written action reads of the later state only a and what is assigned

same_local : (xs : List Word) (s t u : State) → ((x : Word) → is_among xs x ≡ true → t x ≡ u x) → all_same xs s t ≡ all_same xs s u
same_local [] s t u h = refl
same_local (y ∷ xs) s t u h = λ i. same (h y (or_left (bytes_eq y y) (is_among xs y) (eq-name y y refl)) i) (s y) && same_local xs s t u (λ x e. h x (or_right (bytes_eq y x) (is_among xs x) e)) i

minus_within : (xs ys : List Word) (x : Word) → is_among (minus xs ys) x ≡ true → is_among xs x ≡ true
minus_within [] ys x e = e
minus_within (y ∷ xs) ys x e = by (minus_within xs ys x) (is_among ys y) refl
  where
    by : (is_among (minus xs ys) x ≡ true → is_among xs x ≡ true) → (b : Bool) → is_among ys y ≡ b → is_among (y ∷ xs) x ≡ true
    by ih true p = or_right (bytes_eq y x) (is_among xs x) (ih (ap (λ b. is_among (cond b (minus xs ys) (y ∷ minus xs ys)) x) (sym p) ∙ e))
    by ih false p = ⊎_elim (λ a. or_left (bytes_eq y x) (is_among xs x) a) (λ b. or_right (bytes_eq y x) (is_among xs x) (ih b)) (or_cases (bytes_eq y x) (is_among (minus xs ys) x) (ap (λ b. is_among (cond b (minus xs ys) (y ∷ minus xs ys)) x) (sym p) ∙ e))

ended_local : (is : Items) (A : Names) (own other all : List Word) (c : Scope) (s t u : State) → Within other all → SameOn (more A all) t u → hold is c s t ≡ hold is c s u → hold (ended is (unchanged (minus other own))) c s t ≡ hold (ended is (unchanged (minus other own))) c s u
ended_local is A own other all c s t u w h p =
    hold_ended is (unchanged (minus other own)) c s t
    ∙ (λ i. and_then (p i) (and_then (Ok (same_local (minus other own) s t u (λ x e. h x (or_right (A x) (is_among all x) (w x (minus_within other own x e)))) i)) (Ok true)))
    ∙ sym (hold_ended is (unchanged (minus other own)) c s u)

some_alike : (vs : Values) (p q : Value → Outcome Bool) → ((v : Value) → p v ≡ q v) → some_member vs p ≡ some_member vs q
some_alike vs p q h = λ i. some_member vs (λ v. h v i)

smaller : (A : Names) (xs ys : List Word) (t u : State) → Within xs ys → SameOn (more A ys) t u → SameOn (more A xs) t u
smaller A xs ys t u w h x e = h x (⊎_elim (λ a. or_left (A x) (is_among ys x) a) (λ b. or_right (A x) (is_among ys x) (w x b)) (or_cases (A x) (is_among xs x) e))

only : (A : Names) (xs : List Word) (t u : State) → SameOn (more A xs) t u → SameOn A t u
only A xs t u h x e = h x (or_left (A x) (is_among xs x) e)

sets_local : (A : Names) (ps : Parts) (c : Scope) (s t u : State) → SameOn (more A (firsts ps)) t u → (ys : List Word) → Within ys (firsts ps) → hold_sets (settings_of A ps ys) c s t ≡ hold_sets (settings_of A ps ys) c s u
sets_local A ps c s t u h [] w = refl
sets_local A ps c s t u h (y ∷ ys) w =
    λ i. and_then ((value_for y ps c (mid_agree s t u A (only A (firsts ps) t u h) i)) >>= (λ v. Ok (same (h y (or_right (A y) (is_among (firsts ps) y) (w y (or_left (bytes_eq y y) (is_among ys y) (eq-name y y refl)))) i) v)))
    (sets_local A ps c s t u h ys (λ x m. w x (or_right (bytes_eq y x) (is_among ys x) m)) i)

mutual
  pub local_one : (A : Names) (st : Effect) (c : Scope) (s t u : State) → SameOn (more A (effect_names st)) t u → holds (build_one A st) c s t ≡ holds (build_one A st) c s u
  local_one A (assign ps) c s t u h = sets_local A ps c s t u h (firsts ps) (λ x m. m)
  local_one A (await e) c s t u h = λ i. e c (mid_agree s t u A (only A [] t u h) i)
  local_one A (branch e a b) c s t u h =
      let xs = effects_names a in let ys = effects_names b in
      λ i. (e c (mid_agree s t u A (only A (xs ++ ys) t u h) i)) >>= (λ p. cond p
      (ended_local (build A a) A xs ys (xs ++ ys) c s t u (behind xs ys) h (local_all A a c s t u (smaller A xs (xs ++ ys) t u (in_front xs ys) h)) i)
      (ended_local (build A b) A ys xs (xs ++ ys) c s t u (in_front xs ys) h (local_all A b c s t u (smaller A ys (xs ++ ys) t u (behind xs ys) h)) i))
  local_one A (either bs) c s t u h = local_some A (ways_names bs) bs c s t u (λ x m. m) h
  local_one A (choose x e b) c s t u h =
      λ i. (e c (mid_agree s t u A (only A (effects_names b) t u h) i)) >>= (λ vs. some_alike vs (λ v. hold (build A b) (bound x v c) s t) (λ v. hold (build A b) (bound x v c) s u) (λ v. local_all A b (bound x v c) s t u h) i)

  pub local_all : (A : Names) (ss : Effects) (c : Scope) (s t u : State) → SameOn (more A (effects_names ss)) t u → hold (build A ss) c s t ≡ hold (build A ss) c s u
  local_all A done c s t u h = refl
  local_all A (then st rest) c s t u h =
      let xs = effect_names st in let ys = effects_names rest in
      λ i. and_then (local_one A st c s t u (smaller A xs (xs ++ ys) t u (in_front xs ys) h) i)
      (local_all (more A xs) rest c s t u (subst (λ B. SameOn B t u) (more_append A xs ys) h) i)

  local_some : (A : Names) (all : List Word) (bs : Ways) (c : Scope) (s t u : State) → Within (ways_names bs) all → SameOn (more A all) t u → hold_some (build_some A all bs) c s t ≡ hold_some (build_some A all bs) c s u
  local_some A all no_ways c s t u w h = refl
  local_some A all (way b bs) c s t u w h =
      let xs = effects_names b in let ys = ways_names bs in
      λ i. or_all
      (ended_local (build A b) A xs all all c s t u (λ x m. m) h (local_all A b c s t u (smaller A xs all t u (λ x m. w x (in_front xs ys x m)) h)) i)
      (local_some A all bs c s t u (λ x m. w x (behind xs ys x m)) h i)

-- ---- a fault of a run is a fault of the action, for some later state

and_bad_right : (v w : Outcome Bool) → NotFalse v → IsBad w → IsBad (and_then v w)
and_bad_right (Ok true) w n h = h
and_bad_right (Ok false) w n h = absurd n
and_bad_right (Err k) w n h = tt

or_bad : (v w : Outcome Bool) → IsBad v ⊎ IsBad w → IsBad (or_all v w)
or_bad (Ok a) (Ok b) h = ⊎_elim (λ x. x) (λ x. x) h
or_bad (Ok a) (Err k) h = tt
or_bad (Err k) w h = tt

ended_is_bad : (is : Items) (j : Item) (c : Scope) (s t : State) → IsBad (hold is c s t) → IsBad (hold (ended is j) c s t)
ended_is_bad is j c s t h = subst IsBad (sym (hold_ended is j c s t)) (bad_first (hold is c s t) _ h)

abbrev or_else : Outcome Value → Value → Value
or_else (Ok v) w = v
or_else (Err k) w = w

sets_is_bad : (A : Names) (ps : Parts) (c : Scope) (s u : State) (ys : List Word) → ((x : Word) (v : Value) → is_among ys x ≡ true → value_for x ps c (mid s u A) ≡ Ok v → u x ≡ v) → (y : Word) → is_among ys y ≡ true → IsBad (value_for y ps c (mid s u A)) → IsBad (hold_sets (settings_of A ps ys) c s u)
sets_is_bad A ps c s u [] h y m b = absurd (both_ways false refl m)
sets_is_bad A ps c s u (z ∷ ys) h y m b = ⊎_elim
    (λ a. bad_first ((value_for z ps c (mid s u A)) >>= (λ v. Ok (same (u z) v))) _ (here (value_for z ps c (mid s u A)) (subst (λ x. IsBad (value_for x ps c (mid s u A))) (sym (same_bytes z y a)) b)))
    (λ k. by (value_for z ps c (mid s u A)) refl (sets_is_bad A ps c s u ys (λ x v n p. h x v (or_right (bytes_eq z x) (is_among ys x) n) p) y k b))
    (or_cases (bytes_eq z y) (is_among ys y) m)
  where
    here : (o : Outcome Value) → IsBad o → IsBad (o >>= (λ v. Ok (same (u z) v)))
    here (Ok v) k = absurd k
    here (Err j) k = tt

    by : (o : Outcome Value) → value_for z ps c (mid s u A) ≡ o → IsBad (hold_sets (settings_of A ps ys) c s u) → IsBad (and_then ((value_for z ps c (mid s u A)) >>= (λ v. Ok (same (u z) v))) (hold_sets (settings_of A ps ys) c s u))
    by (Ok v) p r =
        let agree : same (u z) v ≡ true = eq-value (u z) v (h z v (or_left (bytes_eq z z) (is_among ys z) (eq-name z z refl)) p) in
        subst (λ w. IsBad (and_then w (hold_sets (settings_of A ps ys) c s u))) (sym (ap (λ o. o >>= (λ v. Ok (same (u z) v))) p ∙ ap Ok agree)) r
    by (Err j) p r = subst (λ o. IsBad (and_then (o >>= (λ v. Ok (same (u z) v))) (hold_sets (settings_of A ps ys) c s u))) (sym p) tt

-- the later state has the values of the settings that don't fault
faults_assign : (A : Names) (ps : Parts) (c : Scope) (s t : State) (k : Trouble) → Apart A (firsts ps) → Err k ≡ moved ps c (mid s t A) → BadSomewhere A t (hold_sets (settings_of A ps (firsts ps)) c s)
faults_assign A ps c s t k out r = (u, agrees, sets_is_bad A ps c s u ys value b.0 (bad_assigned ps c m b.0 b.1) (subst (λ w. IsBad (value_for b.0 ps c w)) (sym same) b.1))
  where
    ys : List Word
    ys = firsts ps

    m : State
    m = mid s t A

    u : State
    u = λ x. cond (is_among (firsts ps) x) (or_else (value_for x ps c (mid s t A)) (t x)) (t x)

    b : (y : Word) × IsBad (value_for y ps c (mid s t A))
    b = moved_bad ps c (mid s t A) k (sym r)

    agrees : SameOn A (λ x. cond (is_among (firsts ps) x) (or_else (value_for x ps c (mid s t A)) (t x)) (t x)) t
    agrees x e = ⊎_elim (λ q. absurd (both_ways (A x) (out x q) e)) (λ q. ap (λ z. cond z (or_else (value_for x ps c (mid s t A)) (t x)) (t x)) q) (cases_Bool (is_among (firsts ps) x))

    same : mid s (λ x. cond (is_among (firsts ps) x) (or_else (value_for x ps c (mid s t A)) (t x)) (t x)) A ≡ mid s t A
    same = mid_agree s _ t A agrees

    value : (x : Word) (v : Value) → is_among (firsts ps) x ≡ true → value_for x ps c (mid s (λ x. cond (is_among (firsts ps) x) (or_else (value_for x ps c (mid s t A)) (t x)) (t x)) A) ≡ Ok v → cond (is_among (firsts ps) x) (or_else (value_for x ps c (mid s t A)) (t x)) (t x) ≡ v
    value x v q p =
        ap (λ z. cond z (or_else (value_for x ps c (mid s t A)) (t x)) (t x)) q
        ∙ ap (λ o. or_else o (t x)) (ap (λ w. value_for x ps c w) (sym same) ∙ p)

faults_await : (o : Outcome Bool) (k : Trouble) (s : State) → Awaits o s (Err k) → IsBad o
faults_await (Ok true) k s e = not_bad s k (sym e)
faults_await (Ok false) k s e = e
faults_await (Err j) k s e = tt

faults_chosen : (A : Names) (t : State) (o : Outcome Bool) (f : State → Outcome Bool) (P Q : Type 0) (k : Trouble) (v w : State → Outcome Bool) → ((u : State) → SameOn A u t → f u ≡ o) → Chosen o P Q (Err k) → (P → BadSomewhere A t v) → (Q → BadSomewhere A t w) → BadSomewhere A t (λ u. (f u) >>= (λ p. cond p (v u) (w u)))
faults_chosen A t (Ok true) f P Q k v w same r g h = let x = g r in (x.0, x.1, subst (λ o. IsBad (o >>= (λ p. cond p (v x.0) (w x.0)))) (sym (same x.0 x.1)) x.2)
faults_chosen A t (Ok false) f P Q k v w same r g h = let x = h r in (x.0, x.1, subst (λ o. IsBad (o >>= (λ p. cond p (v x.0) (w x.0)))) (sym (same x.0 x.1)) x.2)
faults_chosen A t (Err j) f P Q k v w same r g h = (t, λ x e. refl, subst (λ o. IsBad (o >>= (λ p. cond p (v t) (w t)))) (sym (same t (λ x e. refl))) tt)

faults_some : (A : Names) (t : State) (vs : Values) (P : Value → Type 0) (p : Value → State → Outcome Bool) → SomeOf vs P → ((v : Value) → P v → BadSomewhere A t (p v)) → BadSomewhere A t (λ u. some_member vs (λ v. p v u))
faults_some A t no_values P p r h = absurd r
faults_some A t (and v vs) P p r h = ⊎_elim
    (λ a. let x = h v a in (x.0, x.1, or_bad (p v x.0) (some_member vs (λ w. p w x.0)) (inl x.2)))
    (λ b. let x = faults_some A t vs P p b h in (x.0, x.1, or_bad (p v x.0) (some_member vs (λ w. p w x.0)) (inr x.2))) r

faults_picks : (A : Names) (t : State) (o : Outcome Values) (f : State → Outcome Values) (P : Value → Type 0) (k : Trouble) (p : Value → State → Outcome Bool) → ((u : State) → SameOn A u t → f u ≡ o) → Picks o P (Err k) → ((v : Value) → P v → BadSomewhere A t (p v)) → BadSomewhere A t (λ u. (f u) >>= (λ vs. some_member vs (λ v. p v u)))
faults_picks A t (Ok vs) f P k p same r h = let x = faults_some A t vs P p r h in (x.0, x.1, subst (λ o. IsBad (o >>= (λ ws. some_member ws (λ v. p v x.0)))) (sym (same x.0 x.1)) x.2)
faults_picks A t (Err j) f P k p same r h = (t, λ x e. refl, subst (λ o. IsBad (o >>= (λ ws. some_member ws (λ v. p v t)))) (sym (same t (λ x e. refl))) tt)

-- the first item faults, or ends in a state from which the rest does
parted : (R : State → Outcome State → Type 0) (q : Outcome State) (k : Trouble) (P : Type 0) → Next R q (Err k) → ((j : Trouble) → q ≡ Err j → P) → ((v : State) → q ≡ Ok v → R v (Err k) → P) → P
parted R (Ok v) k P n f g = g v refl n
parted R (Err j) k P n f g = f j refl

mutual
  pub fault_one : (A : Names) (st : Effect) (c : Scope) (s t : State) (k : Trouble) → OnceOne A st → RunOne st c (mid s t A) (Err k) → BadSomewhere A t (holds (build_one A st) c s)
  fault_one A (assign ps) c s t k o r = faults_assign A ps c s t k o r
  fault_one A (await e) c s t k o r = (t, λ y h. refl, faults_await (e c (mid s t A)) k (mid s t A) r)
  fault_one A (branch e a b) c s t k o r =
      faults_chosen A t (e c (mid s t A)) (λ u. e c (mid s u A)) _ _ k _ _ (λ u h. ap (e c) (mid_agree s u t A h)) r
      (λ m. let x = fault_all A a c s t k o.0 m in (x.0, x.1, ended_is_bad (build A a) _ c s x.0 x.2))
      (λ m. let x = fault_all A b c s t k o.1 m in (x.0, x.1, ended_is_bad (build A b) _ c s x.0 x.2))
  fault_one A (either bs) c s t k o r = fault_some A (ways_names bs) bs c s t k o r
  fault_one A (choose x e b) c s t k o r =
      faults_picks A t (e c (mid s t A)) (λ u. e c (mid s u A)) _ k (λ v. hold (build A b) (bound x v c) s) (λ u h. ap (e c) (mid_agree s u t A h)) r (λ v m. fault_all A b (bound x v c) s t k o m)

  pub fault_all : (A : Names) (ss : Effects) (c : Scope) (s t : State) (k : Trouble) → Once A ss → Run ss c (mid s t A) (Err k) → BadSomewhere A t (hold (build A ss) c s)
  fault_all A done c s t k o r = not_bad (mid s t A) k (sym r)
  fault_all A (then st rest) c s t k o r =
      let B = more A (effect_names st) in
      parted (Run rest c) r.0 k _ r.2
      (λ j q. let x = fault_one A st c s t j o.0 (subst (RunOne st c (mid s t A)) q r.1) in (x.0, x.1, bad_first (holds (build_one A st) c s x.0) _ x.2))
      (λ v q n.
      let one : RunOne st c (mid s t A) (Ok v) = subst (RunOne st c (mid s t A)) q r.1 in
      let off : (y : Word) → is_among (effect_names st) y ≡ false → v y ≡ mid s t A y = λ y f. frame_one st c (mid s t A) v y one f in
      let on_a : SameOn A v t = λ y e. off y (⊎_elim (λ a. absurd (both_ways (A y) (apart_one A st o.0 y a) e)) (λ b. b) (cases_Bool (is_among (effect_names st) y))) ∙ mid_in s t A y e in
      let is : v ≡ mid s v B = is_mid s v v B (λ y e. refl) (λ y e. let p = or_parts (A y) (is_among (effect_names st) y) e in off y p.1 ∙ mid_out s t A y p.0) in
      let one' : RunOne st c (mid s v A) (Ok (mid s v B)) = subst (λ w. RunOne st c (mid s v A) (Ok w)) is (subst (λ w. RunOne st c w (Ok v)) (mid_agree s t v A (λ y e. sym (on_a y e))) one) in
      let x = fault_all B rest c s v k o.1 (subst (λ w. Run rest c w (Err k)) is n) in
      let good : NotFalse (holds (build_one A st) c s x.0) = subst NotFalse (local_one A st c s v x.0 (λ y e. sym (x.1 y e))) (fits_one A st c s v o.0 one') in
      (x.0, λ y e. x.1 y (or_left (A y) (is_among (effect_names st) y) e) ∙ on_a y e, and_bad_right (holds (build_one A st) c s x.0) (hold (build B rest) c s x.0) good x.2))

  fault_some : (A : Names) (all : List Word) (bs : Ways) (c : Scope) (s t : State) (k : Trouble) → OnceSome A bs → RunSome bs c (mid s t A) (Err k) → BadSomewhere A t (hold_some (build_some A all bs) c s)
  fault_some A all no_ways c s t k o r = absurd r
  fault_some A all (way b bs) c s t k o r = ⊎_elim
      (λ m. let x = fault_all A b c s t k o.0 m in (x.0, x.1, or_bad (hold (ended (build A b) (unchanged (minus all (effects_names b)))) c s x.0) (hold_some (build_some A all bs) c s x.0) (inl (ended_is_bad (build A b) _ c s x.0 x.2))))
      (λ m. let x = fault_some A all bs c s t k o.1 m in (x.0, x.1, or_bad (hold (ended (build A b) (unchanged (minus all (effects_names b)))) c s x.0) (hold_some (build_some A all bs) c s x.0) (inr x.2))) r
