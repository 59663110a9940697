-- The offence that counts, found from left to right.
use Rattle.std.proofs.Common.{◌≡◌, ℕ, ◌+◌, ◌<◌, ◌≤◌, Bool, true, false, ◌||◌, ◌&&◌, nat_eq, nat_lt, nat_le, List, [], ◌∷◌, ◌++◌, length, get_or, drop, Option, Some, None, refl, sym, ap, ◌∙◌, ◌⊎◌, inl, inr, arith, if◌then◌else◌, append-nil}
use Rattle.std.proofs.lemmas.List.{drop_all}
use Rattle.std.proofs.lemmas.Bool.{and_parts, and_from, or_cases, or_parts, or_left, or_right, ltb-true, ltb-false, lt-ltb, eqb-true, eq-eqb, both_ways, false_from_ne_true}
use Rattle.tla_token.specs.declared.rule.Rule.TheVariants.{NotAscii, BadToken}
use Rattle.tla_token.specs.Rules.{rule_number}
use Rattle.tla_token.specs.Offences.{Offence, is_stray, byte_offences, offence_if, earlier, or_earlier, least}
use Rattle.tla_token.specs.Readings.{joined}
use Rattle.tla_token.proofs.Steps.{byte_there}

-- ---- of three, in either order

abbrev sooner_than : ℕ → ℕ → ℕ → ℕ → Bool
sooner_than n by m at = nat_lt n m || (nat_eq n m && nat_lt by at)

abbrev Sooner : ℕ → ℕ → ℕ → ℕ → Type 0
Sooner n by m at = (n < m) ⊎ ((n ≡ m) × (by < at))

to_fact : (n by m at : ℕ) → sooner_than n by m at ≡ true → Sooner n by m at
to_fact n by m at h =
    elim (or_cases (nat_lt n m) (nat_eq n m && nat_lt by at) h) [
      | inl e ↦ inl (ltb-true n m e)
      | inr e ↦ (let p = and_parts (nat_eq n m) (nat_lt by at) e in inr (eqb-true n m p.0, ltb-true by at p.1))
    ]

later : (n by m at : ℕ) → sooner_than n by m at ≡ false → (m ≤ n) × (n ≡ m → at ≤ by)
later n by m at h = (let p = or_parts (nat_lt n m) (nat_eq n m && nat_lt by at) h in (ltb-false n m p.0, λ e. same e p.1))
  where
    same : n ≡ m → (nat_eq n m && nat_lt by at) ≡ false → at ≤ by
    same e f = cases (nat_lt by at) refl
      where
        cases : (k : Bool) → nat_lt by at ≡ k → at ≤ by
        cases true k = absurd (both_ways (nat_eq n m && nat_lt by at) f (and_from (nat_eq n m) (nat_lt by at) (eq-eqb n m e) k))
        cases false k = ltb-false by at k

-- what comes sooner than what comes sooner does so too
through : (n by m at k to : ℕ) → sooner_than n by m at ≡ true → sooner_than k to n by ≡ true → sooner_than k to m at ≡ true
through n by m at k to h g =
    elim (to_fact n by m at h) [
      | inl a ↦ elim (to_fact k to n by g) [ inl b ↦ first (omega arith) | inr b ↦ first (omega (arith, b.0)) ]
      | inr a ↦ elim (to_fact k to n by g) [ inl b ↦ first (omega (arith, a.0)) | inr b ↦ second (omega (arith, a.0, b.0)) (omega (arith, a.1, b.1)) ]
    ]
  where
    first : k < m → sooner_than k to m at ≡ true
    first l = or_left (nat_lt k m) (nat_eq k m && nat_lt to at) (lt-ltb k m l)

    second : k ≡ m → to < at → sooner_than k to m at ≡ true
    second e l = or_right (nat_lt k m) (nat_eq k m && nat_lt to at) (and_from (nat_eq k m) (nat_lt to at) (eq-eqb k m e) (lt-ltb to at l))

not_through : (n by m at k to : ℕ) → sooner_than n by m at ≡ false → sooner_than k to n by ≡ false → sooner_than k to m at ≡ false
not_through n by m at k to h g =
    let x = later n by m at h in
    let y = later k to n by g in
    false_from_ne_true (sooner_than k to m at) (λ t. elim (to_fact k to m at t) [
      | inl a ↦ omega (arith, x.0, y.0)
      | inr a ↦ (let i : k ≡ n = omega (arith, x.0, y.0, a.0) in let j : n ≡ m = omega (arith, x.0, y.0, a.0) in omega (arith, x.1 j, y.1 i, a.1))
    ])

earlier_assoc : (a b c : Offence) → earlier (earlier a b) c ≡ earlier a (earlier b c)
earlier_assoc (r, at) (q, by) (o, to) =
    cases (sooner_than (rule_number q) by (rule_number r) at) refl (sooner_than (rule_number o) to (rule_number q) by) refl (sooner_than (rule_number o) to (rule_number r) at) refl
  where
    cases : (x : Bool) → sooner_than (rule_number q) by (rule_number r) at ≡ x → (y : Bool) → sooner_than (rule_number o) to (rule_number q) by ≡ y
        → (z : Bool) → sooner_than (rule_number o) to (rule_number r) at ≡ z → earlier (earlier (r, at) (q, by)) (o, to) ≡ earlier (r, at) (earlier (q, by) (o, to))
    cases true x true y true z = rw (x, y, z) refl
    cases true x true y false z = absurd (both_ways (sooner_than (rule_number o) to (rule_number r) at) z (through (rule_number q) by (rule_number r) at (rule_number o) to x y))
    cases true x false y z zz = rw (x, y, x) refl
    cases false x true y z zz = rw (x, y) refl
    cases false x false y true z = absurd (both_ways (sooner_than (rule_number o) to (rule_number r) at) (not_through (rule_number q) by (rule_number r) at (rule_number o) to x y) z)
    cases false x false y false z = rw (x, y, z, x) refl

pub joined_assoc : (a b c : Option Offence) → joined (joined a b) c ≡ joined a (joined b c)
joined_assoc None b c = refl
joined_assoc (Some a) None None = refl
joined_assoc (Some a) None (Some c) = refl
joined_assoc (Some a) (Some b) None = refl
joined_assoc (Some a) (Some b) (Some c) = ap Some (earlier_assoc a b c)

joined_some : (o : Offence) (q : Option Offence) → joined (Some o) q ≡ or_earlier o q
joined_some o q = refl

pub joined_none : (o : Option Offence) → joined o None ≡ o
joined_none None = refl
joined_none (Some o) = refl

pub least_append : (xs ys : List Offence) → least (xs ++ ys) ≡ joined (least xs) (least ys)
least_append [] ys = refl
least_append (x ∷ xs) ys = ap (or_earlier x) (least_append xs ys) ∙ sym (joined_assoc (Some x) (least xs) (least ys))

-- ---- bytes

at_byte : (f : Option Offence) (at i : ℕ) (b : ℕ) (bs : List ℕ) → joined (joined f (least (byte_offences (at + i) (b ∷ [])))) (least (byte_offences (at + (i + 1)) bs)) ≡ joined f (least (byte_offences (at + i) (b ∷ bs)))
at_byte f at i b bs =
    let e : at + (i + 1) ≡ at + i + 1 = omega arith in
    rw e (joined_assoc f (least (byte_offences (at + i) (b ∷ []))) (least (byte_offences (at + i + 1) bs))
    ∙ ap (joined f) (sym (least_append (byte_offences (at + i) (b ∷ [])) (byte_offences (at + i + 1) bs)) ∙ ap least (split (offence_if (is_stray b) (if nat_le 128 b then NotAscii else BadToken) (at + i)) (byte_offences (at + i + 1) bs))))
  where
    split : (xs ys : List Offence) → (xs ++ []) ++ ys ≡ xs ++ ys
    split xs ys = ap (λ (u : List Offence). u ++ ys) (append-nil xs)

pub byte_step : (f : Option Offence) (at i : ℕ) (bs : List ℕ) → i < length bs
    → joined (joined f (least (byte_offences (at + i) (get_or bs i 0 ∷ [])))) (least (byte_offences (at + (i + 1)) (drop (i + 1) bs))) ≡ joined f (least (byte_offences (at + i) (drop i bs)))
byte_step f at i bs l = rw (byte_there i bs l) (at_byte f at i (get_or bs i 0) (drop (i + 1) bs))

pub bytes_done : (f : Option Offence) (at i : ℕ) (bs : List ℕ) → length bs ≤ i → joined f (least (byte_offences (at + i) (drop i bs))) ≡ f
bytes_done f at i bs l = rw (drop_all i bs l) (joined_none f)
