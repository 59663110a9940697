-- The procedures that are reached by chains of calls are those in the least closed set: chains longer than there are procedures reach no more.
use Rattle.std.proofs.Common.{◌≡◌, inl, inr, ◌⊎◌, ℕ, zero, suc, ◌<◌, ◌≤◌, Bool, true, false, ◌||◌, cond, List, [], ◌∷◌, length, refl, sym, ap, ◌∙◌, subst, true≢false, arith}
use Rattle.std.specs.Prelude.{filter}
use Rattle.std.proofs.lemmas.List.Folds.{list_any-append}
use Rattle.tla_token.specs.Signs.{is_among}
use Rattle.tla_tree.specs.Tree.{Word}
use Rattle.pcal_tree.specs.Algorithm.{Routine, numbered, procedure_routine, procedure_routines, first_procedure, Algorithm}
use Rattle.pcal_tree.specs.Processes.{OneOf}
use Rattle.fairness.specs.ReachedProcedures.{calls, called_by, reached_within, reached}
use Rattle.fairness_lines.specs.LeastSets.{IsClosed, IsLeast}
use Rattle.fairness_lines.proofs.NamesFound.{either_true, or_first, or_second}

-- ---- lists that are filtered

pub in_filter : {X : Type 0} (p : X → Bool) (x : X) (xs : List X) → OneOf x xs → p x ≡ true → OneOf x (filter p xs)
in_filter p x [] h e = h
in_filter p x (y ∷ ys) h e = by (p y) refl h (λ q. in_filter p x ys q e)
  where
    by : (b : Bool) → p y ≡ b → (x ≡ y) ⊎ OneOf x ys → (OneOf x ys → OneOf x (filter p ys)) → OneOf x (cond b (y ∷ filter p ys) (filter p ys))
    by true k (inl q) ih = inl q
    by true k (inr q) ih = inr (ih q)
    by false k (inl q) ih = absurd (true≢false (sym e ∙ ap p q ∙ k))
    by false k (inr q) ih = ih q

pub of_filter : {X : Type 0} (p : X → Bool) (x : X) (xs : List X) → OneOf x (filter p xs) → OneOf x xs × (p x ≡ true)
of_filter p x [] h = absurd h
of_filter p x (y ∷ ys) h = by (p y) refl h (of_filter p x ys)
  where
    later : OneOf x ys × (p x ≡ true) → ((x ≡ y) ⊎ OneOf x ys) × (p x ≡ true)
    later t = (inr t.0, t.1)

    by : (b : Bool) → p y ≡ b → OneOf x (cond b (y ∷ filter p ys) (filter p ys)) → (OneOf x (filter p ys) → OneOf x ys × (p x ≡ true)) → ((x ≡ y) ⊎ OneOf x ys) × (p x ≡ true)
    by true k (inl q) ih = (inl q, ap p q ∙ k)
    by true k (inr q) ih = later (ih q)
    by false k q ih = later (ih q)

pub filters_same : {X : Type 0} (p q : X → Bool) (xs : List X) → ((x : X) → OneOf x xs → p x ≡ q x) → filter p xs ≡ filter q xs
filters_same p q [] h = refl
filters_same p q (x ∷ xs) h = λ i. cond (h x (inl refl) i) (x ∷ filters_same p q xs (λ y k. h y (inr k)) i) (filters_same p q xs (λ y k. h y (inr k)) i)

fewer : {X : Type 0} (p : X → Bool) (xs : List X) → length (filter p xs) ≤ length xs
fewer p [] = omega arith
fewer p (x ∷ xs) = by (p x) (fewer p xs)
  where
    by : (b : Bool) → length (filter p xs) ≤ length xs → length (cond b (x ∷ filter p xs) (filter p xs)) ≤ suc (length xs)
    by true h = omega (arith, h)
    by false h = omega (arith, h)

-- what lets more through gives the same, or more
same_or_more : {X : Type 0} (p q : X → Bool) (xs : List X) → ((x : X) → OneOf x xs → p x ≡ true → q x ≡ true)
    → (filter p xs ≡ filter q xs) ⊎ (length (filter p xs) < length (filter q xs))
same_or_more p q [] h = inl refl
same_or_more p q (x ∷ xs) h = by (p x) (q x) (h x (inl refl)) (same_or_more p q xs (λ y k. h y (inr k)))
  where
    by : (a b : Bool) → (a ≡ true → b ≡ true) → (filter p xs ≡ filter q xs) ⊎ (length (filter p xs) < length (filter q xs))
        → (cond a (x ∷ filter p xs) (filter p xs) ≡ cond b (x ∷ filter q xs) (filter q xs))
        ⊎ (length (cond a (x ∷ filter p xs) (filter p xs)) < length (cond b (x ∷ filter q xs) (filter q xs)))
    by true true k (inl e) = inl (ap (λ ys. x ∷ ys) e)
    by true true k (inr l) = inr (omega (arith, l))
    by true false k r = absurd (true≢false (sym (k refl)))
    by false true k (inl e) = inr (omega (arith, ap length e))
    by false true k (inr l) = inr (omega (arith, l))
    by false false k r = r

both : (a b : Bool) → (a ≡ true → b ≡ true) → (b ≡ true → a ≡ true) → a ≡ b
both true b h k = sym (h refl)
both false true h k = k refl
both false false h k = refl

-- ---- what routines call

called_one : (v : Routine) (vs : List Routine) (x : Word) → OneOf v vs → is_among (calls v.body) x ≡ true → is_among (called_by vs) x ≡ true
called_one v [] x h e = absurd h
called_one v (w ∷ ws) x h e = list_any-append _ (calls w.body) (called_by ws) ∙ by h (λ q. called_one v ws x q e)
  where
    by : (v ≡ w) ⊎ OneOf v ws → (OneOf v ws → is_among (called_by ws) x ≡ true) → (is_among (calls w.body) x || is_among (called_by ws) x) ≡ true
    by (inl q) ih = or_first _ _ (ap (λ (r : Routine). is_among (calls r.body) x) (sym q) ∙ e)
    by (inr q) ih = or_second _ _ (ih q)

one_caller : (vs : List Routine) (x : Word) → is_among (called_by vs) x ≡ true → (v : Routine) × OneOf v vs × (is_among (calls v.body) x ≡ true)
one_caller [] x e = absurd (true≢false (sym e))
one_caller (w ∷ ws) x e = by (either_true _ _ (sym (list_any-append _ (calls w.body) (called_by ws)) ∙ e)) (one_caller ws x)
  where
    later : ((v : Routine) × OneOf v ws × (is_among (calls v.body) x ≡ true)) → (v : Routine) × OneOf v (w ∷ ws) × (is_among (calls v.body) x ≡ true)
    later t = (t.0, inr t.1, t.2)

    by : (is_among (calls w.body) x ≡ true) ⊎ (is_among (called_by ws) x ≡ true) → (is_among (called_by ws) x ≡ true → (v : Routine) × OneOf v ws × (is_among (calls v.body) x ≡ true))
        → (v : Routine) × OneOf v (w ∷ ws) × (is_among (calls v.body) x ≡ true)
    by (inl k) ih = (w, inl refl, k)
    by (inr k) ih = later (ih k)

-- ---- chains of calls

module _ (a : Algorithm) (u : Routine) where
  abbrev among : List Routine → Routine → Bool
  among ws p = is_among (called_by (u ∷ ws)) p.name.word

  abbrev next : List Routine → List Routine
  next ws = filter (among ws) (procedure_routines a)

  abbrev within : ℕ → List Routine
  within n = reached_within n a u

  more_called : (vs ws : List Routine) (x : Word) → ((v : Routine) → OneOf v vs → OneOf v ws) → is_among (called_by (u ∷ vs)) x ≡ true → is_among (called_by (u ∷ ws)) x ≡ true
  more_called vs ws x h e = by (one_caller (u ∷ vs) x e)
    where
      there : (v : Routine) → (v ≡ u) ⊎ OneOf v vs → (v ≡ u) ⊎ OneOf v ws
      there v (inl q) = inl q
      there v (inr q) = inr (h v q)

      by : ((v : Routine) × OneOf v (u ∷ vs) × (is_among (calls v.body) x ≡ true)) → is_among (called_by (u ∷ ws)) x ≡ true
      by t = called_one t.0 (u ∷ ws) x (there t.0 t.1) t.2

  -- longer chains reach no fewer
  grows : (n : ℕ) (v : Routine) → OneOf v (within n) → OneOf v (within (suc n))
  grows zero v h = absurd h
  grows (suc n) v h =
      let t = of_filter (among (within n)) v (procedure_routines a) h in
      in_filter (among (within (suc n))) v (procedure_routines a) t.0 (more_called (within n) (within (suc n)) v.name.word (grows n) t.1)

  -- chains of one call more reach the same, or there are as many procedures as the chains have calls
  rises : (n : ℕ) → (within n ≡ within (suc n)) ⊎ (suc n ≤ length (within (suc n)))
  rises zero = by (within 1)
    where
      by : (vs : List Routine) → ([] ≡ vs) ⊎ (1 ≤ length vs)
      by [] = inl refl
      by (v ∷ vs) = inr (omega arith)
  rises (suc n) = by (rises n)
    where
      more : suc n ≤ length (within (suc n)) → (within (suc n) ≡ within (suc (suc n))) ⊎ (length (within (suc n)) < length (within (suc (suc n))))
          → (within (suc n) ≡ within (suc (suc n))) ⊎ (suc (suc n) ≤ length (within (suc (suc n))))
      more h (inl e) = inl e
      more h (inr l) = inr (omega (arith, h, l))

      by : (within n ≡ within (suc n)) ⊎ (suc n ≤ length (within (suc n))) → (within (suc n) ≡ within (suc (suc n))) ⊎ (suc (suc n) ≤ length (within (suc (suc n))))
      by (inl e) = inl (ap next e)
      by (inr h) =
          more h (same_or_more (among (within n)) (among (within (suc n))) (procedure_routines a) (λ v k. more_called (within n) (within (suc n)) v.name.word (grows n)))

  count : {A B : Type 0} (f : ℕ → A → B) (n : ℕ) (xs : List A) → length (numbered f n xs) ≡ length xs
  count f n [] = refl
  count f n (x ∷ xs) = ap suc (count f (suc n) xs)

  settles : reached a u ≡ next (reached a u)
  settles = by (rises (length a.procedures))
    where
      by : (within (length a.procedures) ≡ within (suc (length a.procedures))) ⊎ (suc (length a.procedures) ≤ length (within (suc (length a.procedures)))) → within (length a.procedures) ≡ within (suc (length a.procedures))
      by (inl e) = e
      by (inr h) = absurd (let no : ⊥ = omega (arith, h, fewer (among (reached a u)) (procedure_routines a), count procedure_routine (first_procedure a) a.procedures) in no)

  at_first : (S : Word → Bool) → IsClosed (procedure_routines a) u S → (q : Routine) → OneOf q (procedure_routines a)
      → ((v : Routine) × OneOf v (u ∷ []) × (is_among (calls v.body) q.name.word ≡ true)) → S q.name.word ≡ true
  at_first S h q k (v, inl e, c) = h.starts q k (ap (λ (r : Routine). is_among (calls r.body) q.name.word) (sym e) ∙ c)
  at_first S h q k (v, inr t, c) = absurd t

  -- what chains reach is in each closed set
  stays : (S : Word → Bool) → IsClosed (procedure_routines a) u S → (n : ℕ) (q : Routine) → OneOf q (procedure_routines a) → among (within n) q ≡ true → S q.name.word ≡ true
  stays S h zero q k e = at_first S h q k (one_caller (u ∷ []) q.name.word e)
  stays S h (suc n) q k e = by (one_caller (u ∷ within (suc n)) q.name.word e) (stays S h n)
    where
      by : ((v : Routine) × OneOf v (u ∷ within (suc n)) × (is_among (calls v.body) q.name.word ≡ true))
          → ((v : Routine) → OneOf v (procedure_routines a) → among (within n) v ≡ true → S v.name.word ≡ true) → S q.name.word ≡ true
      by (v, inl e, c) ih = h.starts q k (ap (λ (r : Routine). is_among (calls r.body) q.name.word) (sym e) ∙ c)
      by (v, inr t, c) ih =
          let f = of_filter (among (within n)) v (procedure_routines a) t in
          h.goes_on v q f.0 k (ih v f.0 f.1) c

  -- and all that they reach is a closed set
  closes : IsClosed (procedure_routines a) u (is_among (called_by (u ∷ reached a u)))
  closes = record {
    starts = λ q h e. called_one u (u ∷ reached a u) q.name.word (inl refl) e;
    goes_on = λ p q h k e c.
        called_one p (u ∷ reached a u) q.name.word
        (inr (subst (λ (ws : List Routine). OneOf p ws) (sym settles) (in_filter (among (reached a u)) p (procedure_routines a) h e))) c;
  }

  pub reached_is : (R : Word → Bool) → IsLeast (procedure_routines a) u R → reached a u ≡ filter (λ p. R p.name.word) (procedure_routines a)
  reached_is R h =
      settles
      ∙ filters_same (among (reached a u)) (λ p. R p.name.word) (procedure_routines a)
      (λ q k. both (among (reached a u) q) (R q.name.word) (stays R h.closed (length a.procedures) q k) (h.least (is_among (called_by (u ∷ reached a u))) closes q k))
