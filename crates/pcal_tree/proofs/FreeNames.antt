-- Names with numbers are all different, so that one of them is free; written names are apart.
use Rattle.std.proofs.Common.{◌≡◌, ℕ, zero, suc, ◌+◌, ◌<◌, ◌≤◌, ◌^◌, length, List, [], ◌∷◌, ◌++◌, Bool, true, false, ◌||◌, cond, bytes_eq, refl, sym, ◌∙◌, ap, decimal, arith}
use Rattle.std.proofs.lemmas.Slice.Eq.{bytes_eq-Decides}
use Rattle.std.proofs.lemmas.Bool.{or_left, or_parts}
use Rattle.std.proofs.lemmas.Fmt.{decimal_injective}
use Rattle.std.proofs.lemmas.List.{append_cancel_left}
use Rattle.tla_token.specs.Signs.{is_among}
use Rattle.tla_token.specs.Words.{is_reserved, is_own, is_standard}
use Rattle.tla_tree.specs.Tree.{Word}
use Rattle.std.specs.List.{AllByRecursion}
use Rattle.pcal_tree.specs.Names.{is_taken, joint, with_number, free_from, first_free, Want, give}
use Rattle.pcal_tree.specs.laws.Apart.{Apart}

pub numbered_apart : (x : Word) (m n : ℕ) → m < 2 ^ 64 → n < 2 ^ 64 → with_number x m ≡ with_number x n → m ≡ n
numbered_apart x m n p q e =
    decimal_injective m n p q
    (append_cancel_left (joint x) (decimal m) (decimal n) (append_cancel_left x (joint x ++ decimal m) (joint x ++ decimal n) e))

-- ---- a list without a name

abbrev without : Word → List Word → List Word
without w [] = []
without w (v ∷ vs) = cond (bytes_eq v w) (without w vs) (v ∷ without w vs)

without_le : (w : Word) (vs : List Word) → length (without w vs) ≤ length vs
without_le w [] = omega arith
without_le w (v ∷ vs) = by (bytes_eq v w) (without_le w vs)
  where
    by : (b : Bool) → length (without w vs) ≤ length vs → length (cond b (without w vs) (v ∷ without w vs)) ≤ suc (length vs)
    by true h = omega arith
    by false h = omega arith

without_lt : (w : Word) (vs : List Word) → is_among vs w ≡ true → length (without w vs) < length vs
without_lt w [] e = cc
without_lt w (v ∷ vs) e = by (bytes_eq v w) e (without_le w vs) (without_lt w vs)
  where
    by : (b : Bool) → (b || is_among vs w) ≡ true → length (without w vs) ≤ length vs → (is_among vs w ≡ true → length (without w vs) < length vs)
        → length (cond b (without w vs) (v ∷ without w vs)) < suc (length vs)
    by true e h k = omega arith
    by false e h k = let l = k e in omega arith

-- other names stay
without_other : (w u : Word) (vs : List Word) → (w ≡ u → ⊥) → is_among (without w vs) u ≡ is_among vs u
without_other w u [] differ = refl
without_other w u (v ∷ vs) differ = by (bytes_eq v w) refl (bytes_eq v u) refl (without_other w u vs differ)
  where
    by : (b : Bool) → bytes_eq v w ≡ b → (c : Bool) → bytes_eq v u ≡ c → is_among (without w vs) u ≡ is_among vs u
        → is_among (cond b (without w vs) (v ∷ without w vs)) u ≡ (bytes_eq v u || is_among vs u)
    by true p true q h = absurd (differ (sym ((bytes_eq-Decides v w).0 p) ∙ (bytes_eq-Decides v u).0 q))
    by true p false q h = h ∙ sym (ap (λ k. k || is_among vs u) q)
    by false p c q h = ap (λ k. bytes_eq v u || k) h

-- ---- the first free name

-- it is one of the numbered ones
pub free_is : (k : ℕ) (taken : List Word) (x : Word) (n : ℕ) → (m : ℕ) × (n ≤ m) × (m ≤ n + k) × (free_from k taken x n ≡ with_number x m)
free_is zero taken x n = (n, omega arith, omega arith, refl)
free_is (suc k) taken x n = by (is_among taken (with_number x n)) (free_is k taken x (suc n))
  where
    by : (b : Bool) → ((m : ℕ) × (suc n ≤ m) × (m ≤ suc n + k) × (free_from k taken x (suc n) ≡ with_number x m))
        → (m : ℕ) × (n ≤ m) × (m ≤ n + suc k) × (cond b (free_from k taken x (suc n)) (with_number x n) ≡ with_number x m)
    by true q = (q.0, omega (arith, q.1), omega (arith, q.2), q.3)
    by false q = (n, omega arith, omega arith, refl)

free_same : (k : ℕ) (a b : List Word) (x : Word) (n : ℕ) → ((m : ℕ) → n ≤ m → m ≤ n + k → is_among a (with_number x m) ≡ is_among b (with_number x m))
    → free_from k a x n ≡ free_from k b x n
free_same zero a b x n h = refl
free_same (suc k) a b x n h =
    ap (λ t. cond t (free_from k a x (suc n)) (with_number x n)) (h n (omega arith) (omega arith))
    ∙ ap (λ w. cond (is_among b (with_number x n)) w (with_number x n)) (free_same k a b x (suc n) (λ m p q. h m (omega arith) (omega arith)))

-- among one more name than are taken one isn't taken
pub free_untaken : (k : ℕ) (taken : List Word) (x : Word) (n : ℕ) → length taken ≤ k → n + k < 2 ^ 64 → is_among taken (free_from k taken x n) ≡ false
free_untaken zero [] x n l p = refl
free_untaken zero (v ∷ vs) x n l p = absurd (omega arith)
free_untaken (suc k) taken x n l p = by (is_among taken (with_number x n)) refl (free_untaken k rest x (suc n))
  where
    rest : List Word
    rest = without (with_number x n) taken

    other : (m : ℕ) → suc n ≤ m → m ≤ suc n + k → is_among rest (with_number x m) ≡ is_among taken (with_number x m)
    other m q r =
        without_other (with_number x n) (with_number x m) taken (λ e. let s : n ≡ m = numbered_apart x n m (omega arith) (omega arith) e in omega arith)

    moved : is_among rest (free_from k taken x (suc n)) ≡ is_among taken (free_from k taken x (suc n))
    moved = by_number (free_is k taken x (suc n))
      where
        by_number : ((m : ℕ) × (suc n ≤ m) × (m ≤ suc n + k) × (free_from k taken x (suc n) ≡ with_number x m))
            → is_among rest (free_from k taken x (suc n)) ≡ is_among taken (free_from k taken x (suc n))
        by_number q = ap (is_among rest) q.3 ∙ other q.0 q.1 q.2 ∙ sym (ap (is_among taken) q.3)

    by : (b : Bool) → is_among taken (with_number x n) ≡ b
        → (length rest ≤ k → suc n + k < 2 ^ 64 → is_among rest (free_from k rest x (suc n)) ≡ false)
        → is_among taken (cond b (free_from k taken x (suc n)) (with_number x n)) ≡ false
    by true e ih =
        let less = without_lt (with_number x n) taken e in
        sym moved ∙ ap (is_among rest) (sym (free_same k rest taken x (suc n) other)) ∙ ih (omega arith) (omega arith)
    by false e ih = e

-- what isn't taken isn't among those taken
pub untaken_among : (extended taken : List Word) (x : Word) → is_taken extended taken x ≡ false → is_among taken x ≡ false
untaken_among extended taken x e = (or_parts (is_reserved x || is_own x || is_standard extended x) (is_among taken x) e).1

true_false : true ≡ false → ⊥
true_false e = cc

pub first_untaken : (extended taken : List Word) (x : Word) → length taken + 1 < 2 ^ 64 → is_among taken (first_free extended taken x) ≡ false
first_untaken extended taken x few = by (is_taken extended taken x) refl (free_untaken (length taken) taken x 1 (omega arith) (omega arith))
  where
    by : (b : Bool) → is_taken extended taken x ≡ b → is_among taken (free_from (length taken) taken x 1) ≡ false
        → is_among taken (cond b (free_from (length taken) taken x 1) x) ≡ false
    by true e h = h
    by false e h = untaken_among extended taken x e

-- ---- names given

later : (f w : Word) (taken : List Word) → is_among (f ∷ taken) w ≡ false → (f ≡ w → ⊥) × (is_among taken w ≡ false)
later f w taken e = (
  λ s. true_false (sym (or_left (bytes_eq f w) (is_among taken w) ((bytes_eq-Decides f w).1 s)) ∙ e),
  (or_parts (bytes_eq f w) (is_among taken w) e).1,
)

pub every_map : {X : Type 0} (Q R : X → Type 0) → ((x : X) → Q x → R x) → (xs : List X) → AllByRecursion Q xs → AllByRecursion R xs
every_map Q R f [] h = tt
every_map Q R f (x ∷ xs) h = (f x h.0, every_map Q R f xs h.1)

-- none is taken already
pub given_untaken : (extended taken : List Word) (ws : List Want) → length taken + length ws < 2 ^ 64
    → AllByRecursion (λ g. is_among taken g.written ≡ false) (give extended taken ws)
given_untaken extended taken [] few = tt
given_untaken extended taken (w ∷ ws) few =
    let name : Word = first_free extended taken w.word in (
      first_untaken extended taken w.word (omega arith),
      every_map (λ g. is_among (name ∷ taken) g.written ≡ false) (λ g. is_among taken g.written ≡ false) (λ g h. (later name g.written taken h).1)
          (give extended (name ∷ taken) ws) (given_untaken extended (name ∷ taken) ws (omega arith)),
    )

pub given_apart : (extended taken : List Word) (ws : List Want) → length taken + length ws < 2 ^ 64 → Apart (give extended taken ws)
given_apart extended taken [] few = tt
given_apart extended taken (w ∷ ws) few =
    let name : Word = first_free extended taken w.word in (
      every_map (λ g. is_among (name ∷ taken) g.written ≡ false) (λ g. name ≡ g.written → ⊥) (λ g h. (later name g.written taken h).0)
          (give extended (name ∷ taken) ws) (given_untaken extended (name ∷ taken) ws (omega arith)),
      given_apart extended (name ∷ taken) ws (omega arith),
    )
