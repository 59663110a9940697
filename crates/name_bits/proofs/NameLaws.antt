-- Names of an order that are in a set, and in sets that are made of sets.
use Rattle.std.proofs.Common.{◌≡◌, ℕ, zero, suc, ◌+◌, ◌<◌, ◌≤◌, ◌==◌, ◌&&◌, ◌++◌, length, take, get_or, append-nil, subst, eq-eqb, ne_eqb, lt-ltb, Bool, true, false, ◌||◌, List, [], ◌∷◌, Option, Some, None, refl, sym, ap, ◌∙◌, cond, bytes_eq, true≢false, unwrap_or, is_none, arith}
use Rattle.std.specs.Prelude.{filter, position, slice_get, nat_lt}
use Rattle.std.specs.List.{position_from}
use Rattle.std.proofs.lemmas.Bool.{or_parts}
use Rattle.std.proofs.lemmas.Option.{slice_get-get_or}
use Rattle.std.proofs.lemmas.Iterator.Adapters.{position_from-zero}
use Rattle.tla_token.specs.Signs.{is_among}
use Rattle.tla_tree.specs.Tree.{Word}
use Rattle.name_bits.specs.NamesIn.{chosen, AllApart}
use Rattle.name_bits.proofs.OrderLaws.{same_names, same_itself}

-- whether a name is in, as it is looked up: its first number is, where the first name has the number n
abbrev pub told : (ℕ → Bool) → ℕ → List Word → Word → Bool
told p n [] x = false
told p n (y ∷ ys) x = cond (bytes_eq y x) (p n) (told p (suc n) ys x)

-- what is in is of the order
stays_out : (p : ℕ → Bool) (n : ℕ) (ys : List Word) (x : Word) → is_among ys x ≡ false → is_among (chosen p n ys) x ≡ false
stays_out p n [] x h = refl
stays_out p n (y ∷ ys) x h = let parts = or_parts (bytes_eq y x) (is_among ys x) h in by (p n) parts.0 (stays_out p (suc n) ys x parts.1)
  where
    by : (b : Bool) → bytes_eq y x ≡ false → is_among (chosen p (suc n) ys) x ≡ false
        → is_among (cond b (y ∷ chosen p (suc n) ys) (chosen p (suc n) ys)) x ≡ false
    by true e rest = ap (λ (c : Bool). c || is_among (chosen p (suc n) ys) x) e ∙ rest
    by false e rest = rest

pub told_is : (p : ℕ → Bool) (n : ℕ) (ys : List Word) (x : Word) → AllApart ys → is_among (chosen p n ys) x ≡ told p n ys x
told_is p n [] x h = refl
told_is p n (y ∷ ys) x h = by (p n) (bytes_eq y x) refl (told_is p (suc n) ys x h.1)
  where
    by : (b c : Bool) → bytes_eq y x ≡ c → is_among (chosen p (suc n) ys) x ≡ told p (suc n) ys x
        → is_among (cond b (y ∷ chosen p (suc n) ys) (chosen p (suc n) ys)) x ≡ cond (bytes_eq y x) b (told p (suc n) ys x)
    by true true k rest = ap (λ (c : Bool). c || is_among (chosen p (suc n) ys) x) k ∙ sym (ap (λ (c : Bool). cond c true (told p (suc n) ys x)) k)
    by true false k rest = ap (λ (c : Bool). c || is_among (chosen p (suc n) ys) x) k ∙ rest ∙ sym (ap (λ (c : Bool). cond c true (told p (suc n) ys x)) k)
    by false true k rest =
        stays_out p (suc n) ys x (ap (is_among ys) (sym (same_names y x k)) ∙ h.0) ∙ sym (ap (λ (c : Bool). cond c false (told p (suc n) ys x)) k)
    by false false k rest = rest ∙ sym (ap (λ (c : Bool). cond c false (told p (suc n) ys x)) k)

-- ---- by the number of a name

abbrev pub at_number : (ℕ → Bool) → Option ℕ → Bool
at_number p None = false
at_number p (Some i) = p i

told_from : (p : ℕ → Bool) (n : ℕ) (ys : List Word) (x : Word) → told p n ys x ≡ at_number p (position_from (λ v. bytes_eq v x) n ys)
told_from p n [] x = refl
told_from p n (y ∷ ys) x = by (bytes_eq y x) (told_from p (suc n) ys x)
  where
    by : (c : Bool) → told p (suc n) ys x ≡ at_number p (position_from (λ v. bytes_eq v x) (suc n) ys)
        → cond c (p n) (told p (suc n) ys x) ≡ at_number p (cond c (Some n) (position_from (λ v. bytes_eq v x) (n + 1) ys))
    by true rest = refl
    by false rest = rest ∙ ap (λ (m : ℕ). at_number p (position_from (λ v. bytes_eq v x) m ys)) (omega arith)

pub told_at : (p : ℕ → Bool) (ys : List Word) (x : Word) → AllApart ys → is_among (chosen p 0 ys) x ≡ at_number p (position (λ v. bytes_eq v x) ys)
told_at p ys x h = told_is p 0 ys x h ∙ told_from p 0 ys x ∙ ap (at_number p) (sym (position_from-zero (λ v. bytes_eq v x) ys))

-- ---- all of the order that is in

apart_too : (x y : Word) → bytes_eq x y ≡ false → bytes_eq y x ≡ false
apart_too x y h = by (bytes_eq y x) refl
  where
    by : (b : Bool) → bytes_eq y x ≡ b → bytes_eq y x ≡ false
    by true e = absurd (true≢false (sym (same_itself x) ∙ ap (bytes_eq x) (sym (same_names y x e)) ∙ h))
    by false e = e

later : (p : ℕ → Bool) (n : ℕ) (y : Word) (ys zs : List Word) → is_among zs y ≡ false → filter (told p n (y ∷ ys)) zs ≡ filter (told p (suc n) ys) zs
later p n y ys [] h = refl
later p n y ys (z ∷ zs) h =
    let parts = or_parts (bytes_eq z y) (is_among zs y) h in
    let rest = later p n y ys zs parts.1 in
    λ j. cond (cond (apart_too z y parts.0 j) (p n) (told p (suc n) ys z)) (z ∷ rest j) (rest j)

filtered : (p : ℕ → Bool) (n : ℕ) (ys : List Word) → AllApart ys → chosen p n ys ≡ filter (told p n ys) ys
filtered p n [] h = refl
filtered p n (y ∷ ys) h =
    let rest = filtered p (suc n) ys h.1 ∙ sym (later p n y ys ys h.0) in
    λ j. cond (cond (sym (same_itself y) j) (p n) (told p (suc n) ys y)) (y ∷ rest j) (rest j)

-- ---- sets of two sets

module _ (f : Bool → Bool → Bool) (none : f false false ≡ false) (p q r : ℕ → Bool) (each : (i : ℕ) → r i ≡ f (p i) (q i)) where
  told_both : (n : ℕ) (ys : List Word) (x : Word) → told r n ys x ≡ f (told p n ys x) (told q n ys x)
  told_both n [] x = sym none
  told_both n (y ∷ ys) x = by (bytes_eq y x) (told_both (suc n) ys x)
    where
      by : (c : Bool) → told r (suc n) ys x ≡ f (told p (suc n) ys x) (told q (suc n) ys x)
          → cond c (r n) (told r (suc n) ys x) ≡ f (cond c (p n) (told p (suc n) ys x)) (cond c (q n) (told q (suc n) ys x))
      by true rest = each n
      by false rest = rest

  pub among_both : (ys : List Word) → AllApart ys → (x : Word) → is_among (chosen r 0 ys) x ≡ f (is_among (chosen p 0 ys) x) (is_among (chosen q 0 ys) x)
  among_both ys h x = told_is r 0 ys x h ∙ told_both 0 ys x ∙ sym (λ j. f (told_is p 0 ys x h j) (told_is q 0 ys x h j))

  pub names_both : (ys : List Word) → AllApart ys → chosen r 0 ys ≡ filter (λ x. f (is_among (chosen p 0 ys) x) (is_among (chosen q 0 ys) x)) ys
  names_both ys h =
      filtered r 0 ys h ∙ (λ j. filter (λ x. told_both 0 ys x j) ys)
      ∙ sym (λ j. filter (λ x. f (told_is p 0 ys x h j) (told_is q 0 ys x h j)) ys)

pub names_filtered : (p : ℕ → Bool) (ys : List Word) → AllApart ys → chosen p 0 ys ≡ filter (is_among (chosen p 0 ys)) ys
names_filtered p ys h = filtered p 0 ys h ∙ sym (λ j. filter (λ x. told_is p 0 ys x h j) ys)

-- ---- no number

pub no_names : (p : ℕ → Bool) → ((i : ℕ) → p i ≡ false) → (n : ℕ) (ys : List Word) → chosen p n ys ≡ []
no_names p h n [] = refl
no_names p h n (y ∷ ys) = ap (λ (b : Bool). cond b (y ∷ chosen p (suc n) ys) (chosen p (suc n) ys)) (h n) ∙ no_names p h (suc n) ys

-- ---- all numbers

pub all_names : (p : ℕ → Bool) (m : ℕ) → ((i : ℕ) → i < m → p i ≡ true) → (n : ℕ) (ys : List Word) → n + length ys ≤ m → chosen p n ys ≡ ys
all_names p m h n [] l = refl
all_names p m h n (y ∷ ys) l =
    ap (λ (b : Bool). cond b (y ∷ chosen p (suc n) ys) (chosen p (suc n) ys)) (h n (omega (arith, l))) ∙ ap (λ (zs : List Word). y ∷ zs) (all_names p m h (suc n) ys (omega (arith, l)))

-- ---- one number

no_name : (y : Word) → None ≡ Some y → ⊥
no_name y h = true≢false (ap (λ (o : Option Word). is_none o) h)

same_name : (z y : Word) → Some z ≡ Some y → z ≡ y
same_name z y h = ap (λ (o : Option Word). unwrap_or o y) h

module _ (p : ℕ → Bool) (k : ℕ) (here : p k ≡ true) (else : (i : ℕ) → (i ≡ k → ⊥) → p i ≡ false) where
  past_one : (n : ℕ) (ys : List Word) → k < n → chosen p n ys ≡ []
  past_one n [] l = refl
  past_one n (y ∷ ys) l =
      ap (λ (b : Bool). cond b (y ∷ chosen p (suc n) ys) (chosen p (suc n) ys)) (else n (λ e. omega (arith, e, l))) ∙ past_one (suc n) ys (omega (arith, l))

  one_from : (n j : ℕ) (ys : List Word) (y : Word) → k ≡ n + j → slice_get ys j ≡ Some y → chosen p n ys ≡ y ∷ []
  one_from n j [] y e h = absurd (no_name y h)
  one_from n zero (z ∷ zs) y e h =
      ap (λ (b : Bool). cond b (z ∷ chosen p (suc n) zs) (chosen p (suc n) zs)) (ap p (sym (omega (arith, e))) ∙ here)
      ∙ (λ i. same_name z y h i ∷ past_one (suc n) zs (omega (arith, e)) i)
  one_from n (suc j) (z ∷ zs) y e h =
      ap (λ (b : Bool). cond b (z ∷ chosen p (suc n) zs) (chosen p (suc n) zs)) (else n (λ d. omega (arith, d, e))) ∙ one_from (suc n) j zs y (omega (arith, e)) h

  pub among_one : (ys : List Word) (y : Word) → slice_get ys k ≡ Some y → (x : Word) → is_among (chosen p 0 ys) x ≡ bytes_eq y x
  among_one ys y h x = ap (λ (zs : List Word). is_among zs x) (one_from 0 k ys y (omega arith) h) ∙ or_none (bytes_eq y x)
    where
      or_none : (b : Bool) → (b || false) ≡ b
      or_none true = refl
      or_none false = refl

pub among_with : (p r : ℕ → Bool) (k : ℕ) → k < 1088 → ((i : ℕ) → r i ≡ (p i || ((i == k) && nat_lt i 1088))) → (ys : List Word) (y : Word) → AllApart ys → slice_get ys k ≡ Some y → (x : Word)
    → is_among (chosen r 0 ys) x ≡ (is_among (chosen p 0 ys) x || bytes_eq y x)
among_with p r k l each ys y h at x =
    among_both (λ (b c : Bool). b || c) refl p (λ i. (i == k) && nat_lt i 1088) r each ys h x
    ∙ ap (λ (b : Bool). is_among (chosen p 0 ys) x || b)
    (among_one (λ i. (i == k) && nat_lt i 1088) k (λ j. eq-eqb k k refl j && lt-ltb k 1088 l j) (λ i d. ap (λ (b : Bool). b && nat_lt i 1088) (ne_eqb i k d)) ys y at x)

-- ---- the number of a name

abbrev Place_of : Word → ℕ → List Word → Option ℕ → Type 0
Place_of x n ys None = is_among ys x ≡ false
Place_of x n ys (Some i) = (j : ℕ) × (i ≡ n + j) × (slice_get ys j ≡ Some x) × (j < length ys)

place_from : (x : Word) (n : ℕ) (ys : List Word) → Place_of x n ys (position_from (λ v. bytes_eq v x) n ys)
place_from x n [] = refl
place_from x n (y ∷ ys) = by (bytes_eq y x) refl (place_from x (suc n) ys)
  where
    next : (o : Option ℕ) → bytes_eq y x ≡ false → Place_of x (suc n) ys o → Place_of x n (y ∷ ys) o
    next None e h = ap (λ (b : Bool). b || is_among ys x) e ∙ h
    next (Some i) e h = (suc h.0, omega (arith, h.1), h.2, omega (arith, h.3))

    by : (b : Bool) → bytes_eq y x ≡ b → Place_of x (suc n) ys (position_from (λ v. bytes_eq v x) (suc n) ys) → Place_of x n (y ∷ ys) (cond b (Some n) (position_from (λ v. bytes_eq v x) (n + 1) ys))
    by true e h = (0, omega arith, ap Some (same_names y x e), omega arith)
    by false e h = subst (λ (m : ℕ). Place_of x n (y ∷ ys) (position_from (λ v. bytes_eq v x) m ys)) (omega arith) (next (position_from (λ v. bytes_eq v x) (suc n) ys) e h)

pub place_is : (x : Word) (ys : List Word) (i : ℕ) → position (λ v. bytes_eq v x) ys ≡ Some i → (slice_get ys i ≡ Some x) × (i < length ys)
place_is x ys i h =
    let p = subst (Place_of x 0 ys) (sym (position_from-zero (λ v. bytes_eq v x) ys) ∙ h) (place_from x 0 ys) in
    let here : i ≡ p.0 = omega (arith, p.1) in
    subst (λ (m : ℕ). (slice_get ys m ≡ Some x) × (m < length ys)) (sym here) (p.2, p.3)

pub no_place : (x : Word) (ys : List Word) → position (λ v. bytes_eq v x) ys ≡ None → is_among ys x ≡ false
no_place x ys h = subst (Place_of x 0 ys) (sym (position_from-zero (λ v. bytes_eq v x) ys) ∙ h) (place_from x 0 ys)

-- ---- one name after another

more_from : (p : ℕ → Bool) (n i : ℕ) (ys : List Word) (y : Word) → slice_get ys i ≡ Some y → chosen p n (take (suc i) ys) ≡ chosen p n (take i ys) ++ cond (p (n + i)) (y ∷ []) []
more_from p n i [] y h = absurd (no_name y h)
more_from p n zero (z ∷ zs) y h = λ j. cond (p (same j)) (same_name z y h j ∷ []) []
  where
    same : n ≡ n + 0
    same = omega arith
more_from p n (suc i) (z ∷ zs) y h = by (p n) (more_from p (suc n) i zs y h ∙ ap (λ (m : ℕ). chosen p (suc n) (take i zs) ++ cond (p m) (y ∷ []) []) (omega arith))
  where
    by : (b : Bool) → chosen p (suc n) (take (suc i) zs) ≡ chosen p (suc n) (take i zs) ++ cond (p (n + suc i)) (y ∷ []) []
        → cond b (z ∷ chosen p (suc n) (take (suc i) zs)) (chosen p (suc n) (take (suc i) zs)) ≡ cond b (z ∷ chosen p (suc n) (take i zs)) (chosen p (suc n) (take i zs)) ++ cond (p (n + suc i)) (y ∷ []) []
    by true e = ap (λ (ws : List Word). z ∷ ws) e
    by false e = e

more_in : (p : ℕ → Bool) (i : ℕ) (ys : List Word) (y : Word) → slice_get ys i ≡ Some y → chosen p 0 (take (i + 1) ys) ≡ chosen p 0 (take i ys) ++ cond (p i) (y ∷ []) []
more_in p i ys y h = sym (λ j. chosen p 0 (take (next j) ys)) ∙ more_from p 0 i ys y h ∙ (λ j. chosen p 0 (take i ys) ++ cond (p (same j)) (y ∷ []) [])
  where
    next : suc i ≡ i + 1
    next = omega arith

    same : 0 + i ≡ i
    same = omega arith

-- a name that is in comes behind those before it
pub in_more : (p : ℕ → Bool) (i : ℕ) (ys : List Word) (y : Word) → slice_get ys i ≡ Some y → p i ≡ true → chosen p 0 (take (i + 1) ys) ≡ chosen p 0 (take i ys) ++ y ∷ []
in_more p i ys y h e = more_in p i ys y h ∙ ap (λ (b : Bool). chosen p 0 (take i ys) ++ cond b (y ∷ []) []) e

pub not_more : (p : ℕ → Bool) (i : ℕ) (ys : List Word) → i < length ys → p i ≡ false → chosen p 0 (take (i + 1) ys) ≡ chosen p 0 (take i ys)
not_more p i ys l e =
    more_in p i ys (get_or ys i []) (slice_get-get_or ys i [] l) ∙ ap (λ (b : Bool). chosen p 0 (take i ys) ++ cond b (get_or ys i [] ∷ []) []) e ∙ append-nil (chosen p 0 (take i ys))
