-- The next name is the one with the first number from some number on that no typed label has.
use Rattle.std.proofs.Common.{◌≡◌, ℕ, nat_lt, ltb-true, ltb-false, zero, suc, ◌+◌, ◌-◌, ◌<◌, ◌≤◌, ◌^◌, length, List, [], ◌∷◌, Bool, true, false, ◌||◌, cond, bytes_eq, decimal, refl, sym, ◌∙◌, ap, arith, true≢false}
use Rattle.std.specs.Cmp.{IsEquivalence}
use Rattle.std.specs.List.{AllByRecursion, IsDistinct}
use Rattle.std.specs.Set.{is_member}
use Rattle.std.proofs.lemmas.Bool.{false_from_ne_true}
use Rattle.std.proofs.lemmas.Map.Made.{length-le_from_is_member}
use Rattle.std.proofs.lemmas.Slice.Eq.{bytes_eq-Decides}
use Rattle.std.proofs.lemmas.Fmt.{decimal_injective}
use Rattle.std.proofs.lemmas.List.{append_cancel_left}
use Rattle.tla_token.specs.Signs.{is_among}
use Rattle.tla_tree.specs.Tree.{Word}
use Rattle.tla_tree.specs.Same.{equivalence_by}
use Rattle.pcal_tree.proofs.SetLaws.{any_same}
use Rattle.pcal_tree.specs.Labelled.{Supply, added_name, free_number, number}
use Rattle.label_jumps.specs.Meeting.{is_met}
use Rattle.placed_labels.specs.declared.names.Names.{Names}
use Rattle.placed_labels.specs.InMemory.{AreLeft, IsNext}

-- all of them are typed, from one number up to another
abbrev pub TypedFrom : Word → List Word → ℕ → ℕ → Type 0
TypedFrom root typed n m = (i : ℕ) → n ≤ i → i < m → is_among typed (added_name root i) ≡ true

numbers_apart : (root : Word) (m n : ℕ) → m < 2 ^ 64 → n < 2 ^ 64 → added_name root m ≡ added_name root n → m ≡ n
numbers_apart root m n p q e = decimal_injective m n p q (append_cancel_left root (decimal m) (decimal n) e)

-- the names of so many numbers
abbrev names : Word → ℕ → ℕ → List Word
names root n zero = []
names root n (suc d) = added_name root n ∷ names root (suc n) d

as_many : (root : Word) (n d : ℕ) → length (names root n d) ≡ d
as_many root n zero = refl
as_many root n (suc d) = ap suc (as_many root (suc n) d)

others : (root : Word) (m n d : ℕ) → m < n → n + d ≤ 2 ^ 64 → AllByRecursion (λ w. bytes_eq (added_name root m) w ≡ false) (names root n d)
others root m n zero p less = tt
others root m n (suc d) p less = (
  false_from_ne_true _ (λ e. let s = numbers_apart root m n (omega arith) (omega arith) ((bytes_eq-Decides (added_name root m) (added_name root n)).0 e) in absurd (omega (arith, s, p))),
  others root m (suc n) d (omega arith) (omega arith),
)

all_apart : (root : Word) (n d : ℕ) → n + d ≤ 2 ^ 64 → IsDistinct bytes_eq (names root n d)
unfolding IsDistinct
all_apart root n zero less = tt
all_apart root n (suc d) less = (others root n (suc n) d (omega arith) (omega arith), all_apart root (suc n) d (omega arith))

words : IsEquivalence bytes_eq
words = equivalence_by bytes_eq bytes_eq-Decides

member : (typed : List Word) (w : Word) → is_among typed w ≡ is_member bytes_eq typed w
member typed w = any_same (λ v. bytes_eq v w) (bytes_eq w) (λ v. words.symm v w) typed

all_typed : (root : Word) (typed : List Word) (n d : ℕ) → TypedFrom root typed n (n + d) → (w : Word) → is_member bytes_eq (names root n d) w ≡ true → is_member bytes_eq typed w ≡ true
all_typed root typed n zero h w e = absurd (true≢false (sym e))
all_typed root typed n (suc d) h w e = by (all_typed root typed (suc n) d (λ i p q. h i (omega arith) (omega arith)) w) (bytes_eq w (added_name root n)) refl e
  where
    by : (is_member bytes_eq (names root (suc n) d) w ≡ true → is_member bytes_eq typed w ≡ true) → (b : Bool) → bytes_eq w (added_name root n) ≡ b → (b || is_member bytes_eq (names root (suc n) d) w) ≡ true → is_member bytes_eq typed w ≡ true
    by ih true s k = sym (member typed w) ∙ ap (is_among typed) ((bytes_eq-Decides w (added_name root n)).0 s) ∙ h n (omega arith) (omega arith)
    by ih false s k = ih k

-- as many are typed at most as there are typed labels
few : (root : Word) (typed : List Word) (n d : ℕ) → n + d ≤ 2 ^ 64 → TypedFrom root typed n (n + d) → d ≤ length typed
few root typed n d less h =
    let k = length-le_from_is_member words (names root n d) typed (all_apart root n d less) (all_typed root typed n d h) in
    omega (arith, k, as_many root n d)

found : (root : Word) (k : ℕ) (typed : List Word) (n m : ℕ) → n ≤ m → m ≤ n + k → TypedFrom root typed n m → is_among typed (added_name root m) ≡ false → m ≡ free_number k typed root n
found root zero typed n m p q h e = omega arith
found root (suc k) typed n m p q h e = by (λ r. found root k typed (suc n) m r (omega arith) (λ j r s. h j (omega arith) s) e) (is_among typed (added_name root n)) refl
  where
    by : (suc n ≤ m → m ≡ free_number k typed root (suc n)) → (b : Bool) → is_among typed (added_name root n) ≡ b → m ≡ cond b (free_number k typed root (suc n)) n
    by ih true f = ih (past (λ s. true≢false (sym f ∙ ap (λ (i : ℕ). is_among typed (added_name root i)) s ∙ e)))
      where
        past : (n ≡ m → ⊥) → suc n ≤ m
        past ne = omega (arith, ne)
    by ih false f = same (λ s. true≢false (sym (h n (omega arith) s) ∙ f))
      where
        same : (n < m → ⊥) → m ≡ n
        same ne = omega (arith, ne)

-- up to a number all names are typed
abbrev pub TypedUpTo : Names → ℕ → Type 0
TypedUpTo n m = (s : Supply) → AreLeft n s → TypedFrom n.root s.typed s.from m

pub typed_first : (n : Names) → TypedUpTo n n.from
typed_first n s a i p q = absurd (omega (arith, a.from))

pub met_is : (m : ℕ) → (m ≡ 0 → ⊥) → nat_lt 0 m ≡ true
met_is m h = by (nat_lt 0 m) refl
  where
    by : (b : Bool) → nat_lt 0 m ≡ b → b ≡ true
    by true e = refl
    by false e = let p = ltb-false 0 m e in absurd (h (omega (arith, p)))

pub not_met : (m : ℕ) → m ≡ 0 → nat_lt 0 m ≡ false
not_met m e = ap (nat_lt 0) e

pub typed_more : (n : Names) (m : ℕ) (w : Word) → TypedUpTo n m → w ≡ added_name n.root m → is_met n.typed w ≡ true → TypedUpTo n (m + 1)
typed_more n m w h e t s a i p q = last (nat_lt i m) refl
  where
    last : (b : Bool) → nat_lt i m ≡ b → is_among s.typed (added_name n.root i) ≡ true
    last true l = h s a i p (ltb-true i m l)
    last false l =
        let g = ltb-false i m l in
        let same : m ≡ i = omega (arith, g, q) in
        sym (a.typed (added_name n.root i)) ∙ ap (λ (j : ℕ). is_met n.typed (added_name n.root j)) (sym same) ∙ ap (is_met n.typed) (sym e) ∙ t

pub next_found : (n : Names) (m : ℕ) (w : Word) → n.from ≤ m → m < 2 ^ 64 → TypedUpTo n m → w ≡ added_name n.root m → is_met n.typed w ≡ false
    → (s : Supply) → AreLeft n s → IsNext s w m
next_found n m w p q h e t s a = record { word = e ∙ (λ i. added_name (sym a.root i) (same i)); number = same }
  where
    free : is_among s.typed (added_name n.root m) ≡ false
    free = sym (a.typed (added_name n.root m)) ∙ ap (is_met n.typed) (sym e) ∙ t

    typed : TypedFrom n.root s.typed s.from m
    typed = h s a

    fits : m - s.from ≤ length s.typed
    fits = few n.root s.typed s.from (m - s.from) (omega (arith, a.from)) (λ i r l. typed i r (omega (arith, a.from)))

    same : m ≡ number s
    same = found n.root (length s.typed) s.typed s.from m (omega (arith, a.from)) (omega (arith, fits, a.from)) typed free ∙ ap (λ (r : Word). free_number (length s.typed) s.typed r s.from) (sym a.root)
