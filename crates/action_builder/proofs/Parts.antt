-- The parts of an assignment in the order written, and variable by variable.
use Rattle.std.proofs.Common.{◌≡◌, List, [], ◌∷◌, Bool, true, false, cond, ◌||◌, bytes_eq, refl, sym, ◌∙◌, ap, subst, ⊎_elim, Ok, Err}
use Rattle.std.proofs.lemmas.Bool.{cases_Bool, both_ways, or_parts}
use Rattle.tla_token.specs.Signs.{is_among}
use Rattle.tla_token.proofs.Spelled.{same_bytes}
use Rattle.tla_tree.specs.Tree.{Word}
use Rattle.tla_value.specs.Value.{Value, Trouble, Outcome, ◌>>=◌, IsBad}
use Rattle.tla_value.proofs.Outcomes.{ok_is}
use Rattle.pcal_tree.specs.Scope.{Scope, State, put}
use Rattle.action_builder.proofs.Equal.{eq-name}
use Rattle.action_builder.specs.Assigned.{without}
use Rattle.action_builder.proofs.Effects.{Change, Parts, no_parts, part, firsts, Changes, no_changes, change, evaluated, applied, moved}
use Rattle.action_builder.proofs.Actions.{changes_for, folded, value_for}

pub not_bad : {X P : Type 0} (x : X) (k : Trouble) → Ok x ≡ Err k → P
not_bad x k e = cc

abbrev kept : Word → Changes → List Change
kept y no_changes = []
kept y (change x f fs) = cond (bytes_eq x y) (f ∷ kept y fs) (kept y fs)

-- ---- parts that end

pull : (b : Bool) (f : Change) (q : Outcome (List Change)) (ks : List Change) → q ≡ Ok ks → cond b (q >>= (λ gs. Ok (f ∷ gs))) q ≡ Ok (cond b (f ∷ ks) ks)
pull true f q ks e = ap (λ z. z >>= (λ gs. Ok (f ∷ gs))) e
pull false f q ks e = e

evaluated_step : (o : Outcome Change) (q : Outcome Changes) (q' : Outcome (List Change)) (x y : Word) (fs : Changes) → ((gs : Changes) → q ≡ Ok gs → q' ≡ Ok (kept y gs)) → o >>= (λ f. q >>= (λ gs. Ok (change x f gs))) ≡ Ok fs → cond (bytes_eq x y) (o >>= (λ f. q' >>= (λ gs. Ok (f ∷ gs)))) q' ≡ Ok (kept y fs)
evaluated_step (Ok f) (Ok gs) q' x y fs ih h = unfolding_kept
  where
    unfolding_kept : cond (bytes_eq x y) (q' >>= (λ ks. Ok (f ∷ ks))) q' ≡ Ok (kept y fs)
    unfolding_kept = pull (bytes_eq x y) f q' (kept y gs) (ih gs refl) ∙ ap (λ z. Ok (kept y z)) (ok_is h)
evaluated_step (Ok f) (Err k) q' x y fs ih h = not_bad fs k (sym h)
evaluated_step (Err k) q q' x y fs ih h = not_bad fs k (sym h)

evaluated_for : (ps : Parts) (y : Word) (c : Scope) (s : State) (fs : Changes) → evaluated ps c s ≡ Ok fs → changes_for y ps c s ≡ Ok (kept y fs)
evaluated_for no_parts y c s fs h = ap (λ z. Ok (kept y z)) (ok_is h)
evaluated_for (part x e ps) y c s fs h = evaluated_step (e c s) (evaluated ps c s) (changes_for y ps c s) x y fs (evaluated_for ps y c s) h

put_at : (x : Word) (v : Value) (y : Word) (s : State) (b : Bool) → bytes_eq x y ≡ b → put x v s y ≡ cond b v (s y)
put_at x v y s b e = ap (λ z. cond z v (s y)) e

applied_for : (fs : Changes) (y : Word) (s u : State) → applied fs s ≡ Ok u → folded (kept y fs) (s y) ≡ Ok (u y)
applied_for no_changes y s u h = ap (λ z. Ok (z y)) (ok_is h)
applied_for (change x f fs) y s u h = by (λ v. applied_for fs y (put x v s) u) (f (s x)) refl h (bytes_eq x y) refl
  where
    by : ((v : Value) → applied fs (put x v s) ≡ Ok u → folded (kept y fs) (put x v s y) ≡ Ok (u y)) → (o : Outcome Value) → f (s x) ≡ o → o >>= (λ v. applied fs (put x v s)) ≡ Ok u → (b : Bool) → bytes_eq x y ≡ b → folded (cond (bytes_eq x y) (f ∷ kept y fs) (kept y fs)) (s y) ≡ Ok (u y)
    by ih (Ok v) p k true e =
        ap (λ b. folded (cond b (f ∷ kept y fs) (kept y fs)) (s y)) e
        ∙ ap (λ z. (f (s z)) >>= (folded (kept y fs))) (sym (same_bytes x y e))
        ∙ ap (λ o. o >>= (folded (kept y fs))) p
        ∙ sym (ap (folded (kept y fs)) (put_at x v y s true e))
        ∙ ih v k
    by ih (Ok v) p k false e =
        ap (λ b. folded (cond b (f ∷ kept y fs) (kept y fs)) (s y)) e
        ∙ sym (ap (folded (kept y fs)) (put_at x v y s false e))
        ∙ ih v k
    by ih (Err j) p k b e = not_bad u j (sym k)

-- where the parts end in u, each variable's item has its value in u
pub moved_good : (ps : Parts) (c : Scope) (s u : State) → moved ps c s ≡ Ok u → (y : Word) → value_for y ps c s ≡ Ok (u y)
moved_good ps c s u h y = by (evaluated ps c s) refl h
  where
    by : (o : Outcome Changes) → evaluated ps c s ≡ o → o >>= (λ fs. applied fs s) ≡ Ok u → value_for y ps c s ≡ Ok (u y)
    by (Ok fs) p k = ap (λ o. o >>= (λ gs. folded gs (s y))) (evaluated_for ps y c s fs p) ∙ applied_for fs y s u k
    by (Err j) p k = not_bad u j (sym k)

-- ---- parts that fault

some_bad_step : (o : Outcome Change) (q : Outcome Changes) (x : Word) (k : Trouble) (P : Type 0) → o >>= (λ f. q >>= (λ gs. Ok (change x f gs))) ≡ Err k → (IsBad o → P) → ((j : Trouble) → q ≡ Err j → P) → P
some_bad_step (Ok f) (Ok gs) x k P h a b = not_bad (change x f gs) k h
some_bad_step (Ok f) (Err j) x k P h a b = b j refl
some_bad_step (Err j) q x k P h a b = a tt

bad_head : (b : Bool) (o : Outcome Change) (q : Outcome (List Change)) → b ≡ true → IsBad o → IsBad (cond b (o >>= (λ f. q >>= (λ gs. Ok (f ∷ gs)))) q)
bad_head true (Ok f) q e h = absurd h
bad_head true (Err k) q e h = tt
bad_head false o q e h = absurd (both_ways false refl e)

bad_rest : (b : Bool) (o : Outcome Change) (q : Outcome (List Change)) → IsBad q → IsBad (cond b (o >>= (λ f. q >>= (λ gs. Ok (f ∷ gs)))) q)
bad_rest true (Ok f) (Ok gs) h = absurd h
bad_rest true (Ok f) (Err k) h = tt
bad_rest true (Err j) q h = tt
bad_rest false o q h = h

evaluated_bad : (ps : Parts) (c : Scope) (s : State) (k : Trouble) → evaluated ps c s ≡ Err k → (y : Word) × IsBad (changes_for y ps c s)
evaluated_bad no_parts c s k h = not_bad no_changes k h
evaluated_bad (part x e ps) c s k h =
    some_bad_step (e c s) (evaluated ps c s) x k _ h
    (λ a. (x, bad_head (bytes_eq x x) (e c s) (changes_for x ps c s) (eq-name x x refl) a))
    (λ j b. let r = evaluated_bad ps c s j b in (r.0, bad_rest (bytes_eq x r.0) (e c s) (changes_for r.0 ps c s) r.1))

applied_bad : (fs : Changes) (s : State) (k : Trouble) → applied fs s ≡ Err k → (y : Word) × IsBad (folded (kept y fs) (s y))
applied_bad no_changes s k h = not_bad s k h
applied_bad (change x f fs) s k h = by (λ v. applied_bad fs (put x v s) k) (f (s x)) refl h
  where
    here : (j : Trouble) → f (s x) ≡ Err j → IsBad (folded (cond (bytes_eq x x) (f ∷ kept x fs) (kept x fs)) (s x))
    here j p = subst IsBad (sym (ap (λ b. folded (cond b (f ∷ kept x fs) (kept x fs)) (s x)) (eq-name x x refl) ∙ ap (λ o. o >>= (folded (kept x fs))) p)) tt

    later : (v : Value) (y : Word) (b : Bool) → f (s x) ≡ Ok v → bytes_eq x y ≡ b → IsBad (folded (kept y fs) (put x v s y)) → IsBad (folded (cond (bytes_eq x y) (f ∷ kept y fs) (kept y fs)) (s y))
    later v y true p e r = subst IsBad (
        ap (folded (kept y fs)) (put_at x v y s true e)
        ∙ sym (ap (λ o. o >>= (folded (kept y fs))) p)
        ∙ ap (λ z. (f (s z)) >>= (folded (kept y fs))) (same_bytes x y e)
        ∙ sym (ap (λ b. folded (cond b (f ∷ kept y fs) (kept y fs)) (s y)) e)) r
    later v y false p e r = subst IsBad (
        ap (folded (kept y fs)) (put_at x v y s false e)
        ∙ sym (ap (λ b. folded (cond b (f ∷ kept y fs) (kept y fs)) (s y)) e)) r

    by : ((v : Value) → applied fs (put x v s) ≡ Err k → (y : Word) × IsBad (folded (kept y fs) (put x v s y))) → (o : Outcome Value) → f (s x) ≡ o → o >>= (λ v. applied fs (put x v s)) ≡ Err k → (y : Word) × IsBad (folded (cond (bytes_eq x y) (f ∷ kept y fs) (kept y fs)) (s y))
    by ih (Ok v) p q = let r = ih v q in (r.0, later v r.0 (bytes_eq x r.0) p refl r.1)
    by ih (Err j) p q = (x, here j p)

-- where a part faults, some variable's item does
pub moved_bad : (ps : Parts) (c : Scope) (s : State) (k : Trouble) → moved ps c s ≡ Err k → (y : Word) × IsBad (value_for y ps c s)
moved_bad ps c s k h = by (evaluated ps c s) refl h
  where
    bad_on : (o : Outcome (List Change)) (go : List Change → Outcome Value) → IsBad o → IsBad (o >>= go)
    bad_on (Ok x) go a = absurd a
    bad_on (Err j) go a = tt

    by : (o : Outcome Changes) → evaluated ps c s ≡ o → o >>= (λ fs. applied fs s) ≡ Err k → (y : Word) × IsBad (value_for y ps c s)
    by (Ok fs) p q =
        let r = applied_bad fs s k q in
        (r.0, subst (λ o. IsBad (o >>= (λ gs. folded gs (s r.0)))) (sym (evaluated_for ps r.0 c s fs p)) r.1)
    by (Err j) p q = let r = evaluated_bad ps c s j p in (r.0, bad_on (changes_for r.0 ps c s) _ r.1)

-- ---- no part

without_other : (x y : Word) (zs : List Word) → bytes_eq x y ≡ false → is_among (without x zs) y ≡ is_among zs y
without_other x y [] e = refl
without_other x y (z ∷ zs) e = by (without_other x y zs e) (bytes_eq x z) refl
  where
    by : is_among (without x zs) y ≡ is_among zs y → (b : Bool) → bytes_eq x z ≡ b → is_among (cond (bytes_eq x z) (without x zs) (z ∷ without x zs)) y ≡ (bytes_eq z y || is_among zs y)
    by ih true p =
        ap (λ b. is_among (cond b (without x zs) (z ∷ without x zs)) y) p ∙ ih
        ∙ sym (ap (λ b. b || is_among zs y) (ap (λ w. bytes_eq w y) (sym (same_bytes x z p)) ∙ e))
    by ih false p = ap (λ b. is_among (cond b (without x zs) (z ∷ without x zs)) y) p ∙ ap (λ b. bytes_eq z y || b) ih

none_for : (ps : Parts) (c : Scope) (s : State) (y : Word) → is_among (firsts ps) y ≡ false → changes_for y ps c s ≡ Ok []
none_for no_parts c s y h = refl
none_for (part x e ps) c s y h =
    let p = or_parts (bytes_eq x y) (is_among (without x (firsts ps)) y) h in
    ap (λ b. cond b ((e c s) >>= (λ f. (changes_for y ps c s) >>= (λ fs. Ok (f ∷ fs)))) (changes_for y ps c s)) p.0
    ∙ none_for ps c s y (sym (without_other x y (firsts ps) p.0) ∙ p.1)

pub value_kept : (ps : Parts) (c : Scope) (s : State) (y : Word) → is_among (firsts ps) y ≡ false → value_for y ps c s ≡ Ok (s y)
value_kept ps c s y h = ap (λ o. o >>= (λ fs. folded fs (s y))) (none_for ps c s y h)

-- a variable whose item faults is one of those assigned
pub bad_assigned : (ps : Parts) (c : Scope) (s : State) (y : Word) → IsBad (value_for y ps c s) → is_among (firsts ps) y ≡ true
bad_assigned ps c s y h = ⊎_elim (λ a. a) (λ b. absurd (subst IsBad (value_kept ps c s y b) h)) (cases_Bool (is_among (firsts ps) y))
