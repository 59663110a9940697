-- Parameters that are found by their names.
use Rattle.std.proofs.Common.{◌≡◌, ℕ, zero, suc, ◌+◌, ◌-◌, ◌<◌, ◌≤◌, Bool, true, false, List, [], ◌∷◌, length, drop, get_or, Some, None, refl, sym, ap, ◌∙◌, subst, cond, bytes_eq, arith}
use Rattle.std.proofs.lemmas.List.{drop_more, drop_all}
use Rattle.tla_tree.specs.Tree.{Word, Name, Tree}
use Rattle.tla_tree.specs.Pool.{at, trees_at}
use Rattle.algorithm_limits.specs.Numbers.{Numbers, number_of, with_number}
use Rattle.algorithm_limits.proofs.Tables.{number_of_with}
use Rattle.pcal_tree.specs.laws.MacroSummaries.{argument}
use Rattle.label_steps.specs.ParamsIn.{place_from, ArePlaces}

-- ---- places, from the last one on

pub places_first : (es : Numbers) (ps : List Name) → es ≡ [] → (x : Word) → number_of es x ≡ place_from (length ps - 0 + 1) (drop (length ps - 0) ps) x
places_first es ps e x = ap (λ (fs : Numbers). number_of fs x) e ∙ ap (λ (qs : List Name). place_from (length ps - 0 + 1) qs x) (sym (drop_all (length ps - 0) ps (omega arith)))

pub places_more : (es fs : Numbers) (ps : List Name) (i : ℕ) (p : Name) → p ≡ get_or ps (length ps - i - 1) p → i < length ps → fs ≡ with_number es p.word (length ps - i)
    → ((x : Word) → number_of es x ≡ place_from (length ps - i + 1) (drop (length ps - i) ps) x) → (x : Word) → number_of fs x ≡ place_from (length ps - (i + 1) + 1) (drop (length ps - (i + 1)) ps) x
places_more es fs ps i p e l n h x =
    let here : (length ps - i - 1) + 1 ≡ length ps - i = omega (arith, l) in
    let more : length ps - i - 1 ≡ length ps - (i + 1) = omega (arith, l) in
    let place : length ps - (i + 1) + 1 ≡ length ps - i = omega (arith, l) in
    let less : length ps - i - 1 < length ps = omega (arith, l) in
    ap (λ (gs : Numbers). number_of gs x) n ∙ number_of_with es p.word (length ps - i) x ∙ ap (cond (bytes_eq p.word x) (length ps - i)) (h x)
    ∙ ap (λ (qs : List Name). place_from (length ps - i) qs x)
    (ap (λ (qs : List Name). p ∷ qs) (ap (λ (m : ℕ). drop m ps) (sym here)) ∙ ap (λ (z : Name). z ∷ drop ((length ps - i - 1) + 1) ps) e ∙ sym (drop_more ps (length ps - i - 1) p less) ∙ ap (λ (m : ℕ). drop m ps) more)
    ∙ ap (λ (m : ℕ). place_from m (drop (length ps - (i + 1)) ps) x) (sym place)

pub places_all : (es : Numbers) (ps : List Name) (i : ℕ) → length ps ≤ i → ((x : Word) → number_of es x ≡ place_from (length ps - i + 1) (drop (length ps - i) ps) x) → ArePlaces es ps
places_all es ps i l h = let none : length ps - i ≡ 0 = omega (arith, l) in subst (λ (m : ℕ). (x : Word) → number_of es x ≡ place_from (m + 1) (drop m ps) x) none h

-- ---- arguments

module _ (ts : List Tree) (x : Word) where
  place_past : (k : ℕ) (ps : List Name) (m : ℕ) → place_from (suc k) ps x ≡ suc m → k ≤ m
  place_past k [] m e = cc
  place_past k (p ∷ ps) m e = by (bytes_eq p.word x) e (λ h. place_past (suc k) ps m h)
    where
      by : (b : Bool) → cond b (suc k) (place_from (suc k + 1) ps x) ≡ suc m → (place_from (suc (suc k)) ps x ≡ suc m → suc k ≤ m) → k ≤ m
      by true e h = omega (arith, e)
      by false e h = let same : suc k + 1 ≡ suc (suc k) = omega arith in let g = h (ap (λ (j : ℕ). place_from j ps x) (sym same) ∙ e) in omega (arith, g)

  pub no_place : (k : ℕ) (ps : List Name) (es : List ℕ) → place_from (suc k) ps x ≡ 0 → None ≡ argument ps (trees_at ts es) x
  no_place k [] es e = refl
  no_place k (p ∷ ps) [] e = refl
  no_place k (p ∷ ps) (i ∷ es) e = by (bytes_eq p.word x) e (λ h. no_place (suc k) ps es h)
    where
      by : (b : Bool) → cond b (suc k) (place_from (suc k + 1) ps x) ≡ 0 → (place_from (suc (suc k)) ps x ≡ 0 → None ≡ argument ps (trees_at ts es) x) → None ≡ cond b (Some (at ts i)) (argument ps (trees_at ts es) x)
      by true e h = absurd (omega (arith, e))
      by false e h = let same : suc k + 1 ≡ suc (suc k) = omega arith in h (ap (λ (j : ℕ). place_from j ps x) (sym same) ∙ e)

  pub late_place : (k : ℕ) (ps : List Name) (es : List ℕ) → length es + k < place_from (suc k) ps x → None ≡ argument ps (trees_at ts es) x
  late_place k [] es l = refl
  late_place k (p ∷ ps) [] l = refl
  late_place k (p ∷ ps) (i ∷ es) l = by (bytes_eq p.word x) l (λ h. late_place (suc k) ps es h)
    where
      by : (b : Bool) → length (i ∷ es) + k < cond b (suc k) (place_from (suc k + 1) ps x) → (length es + suc k < place_from (suc (suc k)) ps x → None ≡ argument ps (trees_at ts es) x)
          → None ≡ cond b (Some (at ts i)) (argument ps (trees_at ts es) x)
      by true l h = absurd (omega (arith, l))
      by false l h = let same : suc k + 1 ≡ suc (suc k) = omega arith in let e = ap (λ (j : ℕ). place_from j ps x) same in h (omega (arith, l, e))

  pub found_place : (k : ℕ) (ps : List Name) (es : List ℕ) (i e : ℕ) → place_from (suc k) ps x ≡ suc (k + i) → i < length es → e ≡ get_or es i e → Some (at ts e) ≡ argument ps (trees_at ts es) x
  found_place k [] es i e h l is = cc
  found_place k (p ∷ ps) [] i e h l is = absurd (omega (arith, l))
  found_place k (p ∷ ps) (j ∷ es) i e h l is = by (bytes_eq p.word x) i h l is (λ n g m q. found_place (suc k) ps es n e g m q)
    where
      by : (b : Bool) (i : ℕ) → cond b (suc k) (place_from (suc k + 1) ps x) ≡ suc (k + i) → i < length (j ∷ es) → e ≡ get_or (j ∷ es) i e
          → ((n : ℕ) → place_from (suc (suc k)) ps x ≡ suc (suc k + n) → n < length es → e ≡ get_or es n e → Some (at ts e) ≡ argument ps (trees_at ts es) x)
          → Some (at ts e) ≡ cond b (Some (at ts j)) (argument ps (trees_at ts es) x)
      by true zero h l is rest = ap (λ (z : ℕ). Some (at ts z)) is
      by true (suc n) h l is rest = absurd (omega (arith, h))
      by false zero h l is rest =
          let same : suc k + 1 ≡ suc (suc k) = omega arith in
          let g = place_past (suc k) ps (k + 0) (ap (λ (z : ℕ). place_from z ps x) (sym same) ∙ h) in
          absurd (omega (arith, g))
      by false (suc n) h l is rest =
          let same : suc k + 1 ≡ suc (suc k) = omega arith in
          let more : suc (k + suc n) ≡ suc (suc k + n) = omega arith in
          rest n (ap (λ (z : ℕ). place_from z ps x) (sym same) ∙ h ∙ more) (omega (arith, l)) is
