-- A disjunction that visits all of a list, and a conjunction that stops at the first that isn't true: what loops over lists keep.
use Rattle.std.proofs.Common.{◌≡◌, ℕ, zero, suc, ◌+◌, ◌<◌, List, [], ◌∷◌, ◌++◌, length, take, drop, get_or, reverse, Bool, true, false, cond, Ok, Err, refl, sym, ap, subst, ◌∙◌, arith}
use Rattle.std.proofs.lemmas.List.{drop_more, reverse-append}
use Rattle.tla_value.specs.declared.stop.EvalStop.{EvalStop}
use Rattle.tla_value.specs.declared.stop.EvalStop.TheVariants.{Memory, Fault, Limit}
use Rattle.tla_value.specs.Value.{and_then, or_all}
use Rattle.module_tree.specs.ActionTruth.{Verdict}
use Rattle.value_forms.specs.Gives.{Stops}

-- ---- the element that comes next

pub element : {A : Type 0} (xs : List A) (i : ℕ) → i < length xs → (x : A) × (x ≡ get_or xs i x)
element [] i less = absurd (omega (arith, less))
element (x ∷ xs) zero less = (x, refl)
element (x ∷ xs) (suc i) less = element xs i (omega (arith, less))

pub rest_is : {A : Type 0} (xs : List A) (i : ℕ) (x : A) → x ≡ get_or xs i x → i < length xs → drop i xs ≡ x ∷ drop (i + 1) xs
rest_is xs i x is less = drop_more xs i x less ∙ ap (λ (y : _). y ∷ drop (i + 1) xs) (sym is)

pub last_is : {A : Type 0} (old new : List A) (x : A) → old ≡ new ++ x ∷ [] → reverse old ≡ x ∷ reverse new
last_is old new x e = ap reverse e ∙ reverse-append new (x ∷ [])

pub take_front : {A : Type 0} (xs ys : List A) (n : ℕ) → n ≡ length xs → take n (xs ++ ys) ≡ xs
take_front [] ys zero e = refl
take_front [] ys (suc n) e = absurd (omega (arith, e))
take_front (x ∷ xs) ys zero e = absurd (omega (arith, e))
take_front (x ∷ xs) ys (suc n) e = ap (λ (zs : List _). x ∷ zs) (take_front xs ys n (omega (arith, e)))

-- ---- visiting all

pub record IsAny {A : Type 0} (all : List A → Verdict) (one : A → Verdict) : Type 0 where
  pub none : all [] ≡ Ok false
  pub more : (x : A) (xs : List A) → all (x ∷ xs) ≡ or_all (one x) (all xs)

pub any_start : (w : Verdict) → or_all (Ok false) w ≡ w
any_start (Ok b) = refl
any_start (Err k) = refl

pub or_step : (found next b : Bool) (w : Verdict) → next ≡ cond b true found → or_all (Ok next) w ≡ or_all (Ok found) (or_all (Ok b) w)
or_step found next b (Err k) e = refl
or_step found next true (Ok d) e = ap (λ (n : Bool). or_all (Ok n) (Ok d)) e ∙ by found
  where
    by : (f : Bool) → or_all (Ok true) (Ok d) ≡ or_all (Ok f) (or_all (Ok true) (Ok d))
    by true = refl
    by false = refl
or_step found next false (Ok d) e = ap (λ (n : Bool). or_all (Ok n) (Ok d)) e

pub or_stops : (k : EvalStop) (found : Bool) (v w : Verdict) → Stops k v → Stops k (or_all (Ok found) (or_all v w))
or_stops Memory found v w h = tt
or_stops (Fault e p) found v w h = ap (λ (u : Verdict). or_all (Ok found) (or_all u w)) h
or_stops (Limit p) found v w h = ap (λ (u : Verdict). or_all (Ok found) (or_all u w)) h

module _ {A : Type 0} (all : List A → Verdict) (one : A → Verdict) (h : IsAny all one) (whole : Verdict) where
  pub any_next : (ys xs : List A) (x : A) (found next b : Bool) → ys ≡ x ∷ xs → one x ≡ Ok b → next ≡ cond b true found → or_all (Ok found) (all ys) ≡ whole → or_all (Ok next) (all xs) ≡ whole
  any_next ys xs x found next b e o n k =
      or_step found next b (all xs) n ∙ ap (λ (v : Verdict). or_all (Ok found) (or_all v (all xs))) (sym o) ∙ ap (or_all (Ok found)) (sym (ap all e ∙ h.more x xs)) ∙ k

  pub any_stop : (ys xs : List A) (x : A) (found : Bool) (stop : EvalStop) → ys ≡ x ∷ xs → Stops stop (one x) → or_all (Ok found) (all ys) ≡ whole → Stops stop whole
  any_stop ys xs x found stop e s k = subst (Stops stop) (ap (or_all (Ok found)) (sym (ap all e ∙ h.more x xs)) ∙ k) (or_stops stop found (one x) (all xs) s)

  pub any_end : (ys : List A) (found : Bool) → ys ≡ [] → or_all (Ok found) (all ys) ≡ whole → whole ≡ Ok found
  any_end ys found e k = sym k ∙ ap (or_all (Ok found)) (ap all e ∙ h.none) ∙ by found
    where
      by : (f : Bool) → or_all (Ok f) (Ok false) ≡ Ok f
      by true = refl
      by false = refl

-- ---- up to the first that isn't true

pub record IsEvery {A : Type 0} (all : List A → Verdict) (one : A → Verdict) : Type 0 where
  pub none : all [] ≡ Ok true
  pub more : (x : A) (xs : List A) → all (x ∷ xs) ≡ and_then (one x) (all xs)

pub and_stops : (k : EvalStop) (v w : Verdict) → Stops k v → Stops k (and_then v w)
and_stops Memory v w h = tt
and_stops (Fault e p) v w h = ap (λ (u : Verdict). and_then u w) h
and_stops (Limit p) v w h = ap (λ (u : Verdict). and_then u w) h

module _ {A : Type 0} (all : List A → Verdict) (one : A → Verdict) (h : IsEvery all one) (whole : Verdict) where
  pub every_next : (ys xs : List A) (x : A) → ys ≡ x ∷ xs → one x ≡ Ok true → all ys ≡ whole → all xs ≡ whole
  every_next ys xs x e o k = ap (λ (v : Verdict). and_then v (all xs)) (sym o) ∙ sym (ap all e ∙ h.more x xs) ∙ k

  pub every_false : (ys xs : List A) (x : A) → ys ≡ x ∷ xs → one x ≡ Ok false → all ys ≡ whole → whole ≡ Ok false
  every_false ys xs x e o k = sym k ∙ ap all e ∙ h.more x xs ∙ ap (λ (v : Verdict). and_then v (all xs)) o

  pub every_stop : (ys xs : List A) (x : A) (stop : EvalStop) → ys ≡ x ∷ xs → Stops stop (one x) → all ys ≡ whole → Stops stop whole
  every_stop ys xs x stop e s k = subst (Stops stop) (sym (ap all e ∙ h.more x xs) ∙ k) (and_stops stop (one x) (all xs) s)

  pub every_end : (ys : List A) → ys ≡ [] → all ys ≡ whole → whole ≡ Ok true
  every_end ys e k = sym k ∙ ap all e ∙ h.none
