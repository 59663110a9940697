-- One more conjunct of Spec, in its order.
use Rattle.std.proofs.Common.{◌≡◌, ℕ, zero, suc, ◌<◌, ◌≤◌, List, [], ◌∷◌, ◌++◌, length, map, take, drop, get_or, refl, sym, ap, ◌∙◌, arith}
use Rattle.std.proofs.lemmas.List.{map_push}
use Rattle.module_write.specs.declared.«module».Fairness.{Fairness}
use Rattle.region_calls.specs.declared.fairness.SpecLine.{SpecLine}
use Rattle.region_calls.specs.declared.fairness.SpecLine.TheVariants as line
use Rattle.region_calls.specs.Order.{in_order}

-- so far, where so many came that are no formulas
abbrev so_far : ℕ → List Fairness → List SpecLine
so_far zero fs = []
so_far (suc zero) fs = line.Start ∷ []
so_far (suc (suc n)) fs = in_order fs

pub record IsSoFar (n : ℕ) (fs : List Fairness) (ls : List SpecLine) : Type 0 where
  pub few : n ≤ 2
  pub none : n < 2 → fs ≡ []
  pub lines : ls ≡ so_far n fs

-- ---- it may stand there
pub start_goes : {n : ℕ} {fs : List Fairness} {ls : List SpecLine} → n ≡ 0 → IsSoFar n fs ls → IsSoFar 1 fs (ls ++ line.Start ∷ [])
start_goes {n} {fs} {ls} h s = record {
  few = omega arith;
  none = λ k. s.none (omega (arith, h));
  lines = ap (λ (xs : List SpecLine). xs ++ line.Start ∷ []) (s.lines ∙ ap (λ (k : ℕ). so_far k fs) h);
}

pub steps_goes : {n : ℕ} {fs : List Fairness} {ls : List SpecLine} → n ≡ 1 → IsSoFar n fs ls → IsSoFar 2 fs (ls ++ line.Steps ∷ [])
steps_goes {n} {fs} {ls} h s = record {
  few = omega arith;
  none = λ k. absurd (omega (arith, k));
  lines = ap (λ (xs : List SpecLine). xs ++ line.Steps ∷ []) (s.lines ∙ ap (λ (k : ℕ). so_far k fs) h) ∙ ap in_order (sym (s.none (omega (arith, h))));
}

pub fair_goes : (f : Fairness) {n : ℕ} {fs gs : List Fairness} {ls : List SpecLine} → n ≡ 2 → gs ≡ fs ++ f ∷ [] → IsSoFar n fs ls → IsSoFar n gs (ls ++ line.Fair f ∷ [])
fair_goes f {n} {fs} {gs} {ls} h g s = record {
  few = s.few;
  none = λ k. absurd (omega (arith, h, k));
  lines = ap (λ (xs : List SpecLine). xs ++ line.Fair f ∷ []) (s.lines ∙ ap (λ (k : ℕ). so_far k fs) h)
      ∙ ap (λ (xs : List SpecLine). line.Start ∷ line.Steps ∷ xs) (sym (map_push (λ (f : Fairness). line.Fair f) fs f))
      ∙ ap in_order (sym g) ∙ ap (λ (k : ℕ). so_far k gs) (sym h);
}

-- ---- it may not
not_formula : (x : SpecLine) → ((f : Fairness) → x ≡ line.Fair f → ⊥) → (fs gs : List Fairness) (rest : List SpecLine) → map (λ (f : Fairness). line.Fair f) fs ++ x ∷ rest ≡ map (λ (f : Fairness). line.Fair f) gs → ⊥
not_formula x h [] [] rest e = absurd cc
not_formula x h [] (g ∷ gs) rest e = h g cc
not_formula x h (f ∷ fs) [] rest e = absurd cc
not_formula x h (f ∷ fs) (g ∷ gs) rest e = not_formula x h fs gs rest cc

pub start_not : {n : ℕ} {fs : List Fairness} {ls : List SpecLine} → (n ≡ 0 → ⊥) → IsSoFar n fs ls → (rest : List SpecLine) (gs : List Fairness) → ls ++ line.Start ∷ rest ≡ in_order gs → ⊥
start_not {n} {fs} {ls} h s rest gs e = by n h s.lines
  where
    by : (k : ℕ) → (k ≡ 0 → ⊥) → ls ≡ so_far k fs → ⊥
    by zero h l = h refl
    by (suc zero) h l = (let w : line.Start ∷ line.Start ∷ rest ≡ in_order gs = ap (λ (xs : List SpecLine). xs ++ line.Start ∷ rest) (sym l) ∙ e in absurd cc)
    by (suc (suc k)) h l = (let w : in_order fs ++ line.Start ∷ rest ≡ in_order gs = ap (λ (xs : List SpecLine). xs ++ line.Start ∷ rest) (sym l) ∙ e in not_formula line.Start (λ f i. absurd cc) fs gs rest cc)

pub steps_not : {n : ℕ} {fs : List Fairness} {ls : List SpecLine} → (n ≡ 1 → ⊥) → IsSoFar n fs ls → (rest : List SpecLine) (gs : List Fairness) → ls ++ line.Steps ∷ rest ≡ in_order gs → ⊥
steps_not {n} {fs} {ls} h s rest gs e = by n h s.lines
  where
    by : (k : ℕ) → (k ≡ 1 → ⊥) → ls ≡ so_far k fs → ⊥
    by zero h l = (let w : line.Steps ∷ rest ≡ in_order gs = ap (λ (xs : List SpecLine). xs ++ line.Steps ∷ rest) (sym l) ∙ e in absurd cc)
    by (suc zero) h l = h refl
    by (suc (suc k)) h l = (let w : in_order fs ++ line.Steps ∷ rest ≡ in_order gs = ap (λ (xs : List SpecLine). xs ++ line.Steps ∷ rest) (sym l) ∙ e in not_formula line.Steps (λ f i. absurd cc) fs gs rest cc)

pub fair_not : (f : Fairness) {n : ℕ} {fs : List Fairness} {ls : List SpecLine} → (n ≡ 2 → ⊥) → IsSoFar n fs ls → (rest : List SpecLine) (gs : List Fairness) → ls ++ line.Fair f ∷ rest ≡ in_order gs → ⊥
fair_not f {n} {fs} {ls} h s rest gs e = by n h s.few s.lines
  where
    by : (k : ℕ) → (k ≡ 2 → ⊥) → k ≤ 2 → ls ≡ so_far k fs → ⊥
    by zero h m l = (let w : line.Fair f ∷ rest ≡ in_order gs = ap (λ (xs : List SpecLine). xs ++ line.Fair f ∷ rest) (sym l) ∙ e in absurd cc)
    by (suc zero) h m l = (let w : line.Start ∷ line.Fair f ∷ rest ≡ in_order gs = ap (λ (xs : List SpecLine). xs ++ line.Fair f ∷ rest) (sym l) ∙ e in absurd cc)
    by (suc (suc k)) h m l = h (omega (arith, m))

-- ---- one by one
pub taken_next : (n : ℕ) (ls : List SpecLine) (x : SpecLine) → n < length ls → x ≡ get_or ls n x → take (suc n) ls ≡ take n ls ++ x ∷ []
taken_next n [] x lt e = absurd (omega (arith, lt))
taken_next zero (y ∷ []) x lt e = λ i. sym e i ∷ []
taken_next zero (y ∷ z ∷ ls) x lt e = λ i. sym e i ∷ []
taken_next (suc n) (y ∷ ls) x lt e = ap (λ (zs : List SpecLine). y ∷ zs) (taken_next n ls x (omega (arith, lt)) e)

pub taken_at : (n : ℕ) (ls : List SpecLine) (x : SpecLine) → n < length ls → x ≡ get_or ls n x → take n ls ++ x ∷ drop (suc n) ls ≡ ls
taken_at n [] x lt e = absurd (omega (arith, lt))
taken_at zero (y ∷ []) x lt e = λ i. e i ∷ []
taken_at zero (y ∷ z ∷ ls) x lt e = λ i. e i ∷ z ∷ ls
taken_at (suc n) (y ∷ ls) x lt e = ap (λ (zs : List SpecLine). y ∷ zs) (taken_at n ls x (omega (arith, lt)) e)
