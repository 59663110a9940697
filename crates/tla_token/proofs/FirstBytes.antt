-- Signs are looked for among those that are spelled from the first byte on.
use Rattle.std.proofs.Common.{◌≡◌, ℕ, Bool, true, false, ◌&&◌, nat_eq, length, subst, get_or, take, drop, List, [], ◌∷◌, find, refl, sym, ap, ◌∙◌, inl, inr, arith}
use Rattle.std.specs.List.{filter, list_any}
use Rattle.std.specs.Str.{bytes_eq}
use Rattle.std.proofs.lemmas.Bool.{and_parts, or_cases, or_parts, or_left, or_right, eqb-true, eq-eqb, both_ways}
use Rattle.tla_token.specs.declared.sign.Sign.{Sign}
use Rattle.tla_token.specs.declared.sign.Sign.TheVariants as sign
use Rattle.tla_token.specs.Lexemes.{is_letter}
use Rattle.tla_token.specs.Signs.{spellings, is_among, all_signs}
use Rattle.tla_token.specs.Offences.{begins_with}
use Rattle.tla_token.specs.Cut.{sign_at, sign_of}
use Rattle.tla_token.proofs.Signed.{tells_apart}
use Rattle.tla_token.proofs.Spelled.{begins, begins_from, stands_at, any_some, same_bytes, no_empty}

-- what has a test is found among those that have another, where the first has it too
pub find_among : {A : Type 0} (p q : A → Bool) (xs : List A) → ((x : A) → p x ≡ true → q x ≡ true) → find p (filter q xs) ≡ find p xs
find_among p q [] h = refl
find_among p q (x ∷ xs) h = by (q x) (p x) refl refl (find_among p q xs h)
  where
    by : (k l : Bool) → q x ≡ k → p x ≡ l → find p (filter q xs) ≡ find p xs → find p (filter q (x ∷ xs)) ≡ find p (x ∷ xs)
    by true true e f h = rw (e, f) refl
    by true false e f h = rw (e, f) h
    by false false e f h = rw (e, f) h
    by false true e f i = absurd (both_ways (q x) e (h x f))

abbrev pub may_begin : ℕ → Sign → Bool
may_begin b s = list_any (begins_with b) (spellings s)

spelled_from : (b : ℕ) (v : List ℕ) (ws : List (List ℕ)) → is_among ws (b ∷ v) ≡ true → list_any (begins_with b) ws ≡ true
spelled_from b v [] i = absurd cc
spelled_from b v (w ∷ ws) i =
    elim (or_cases (bytes_eq w (b ∷ v)) (is_among ws (b ∷ v)) i) [
      | inl e ↦ or_left (begins_with b w) (list_any (begins_with b) ws) (ap (begins_with b) (same_bytes w (b ∷ v) e) ∙ begins_itself b v)
      | inr j ↦ or_right (begins_with b w) (list_any (begins_with b) ws) (spelled_from b v ws j)
    ]
  where
    begins_itself : (b : ℕ) (v : List ℕ) → begins_with b (b ∷ v) ≡ true
    begins_itself b v = begins_from (b ∷ v) (b ∷ []) v refl

stands_from : (b : ℕ) (bs : List ℕ) (s : Sign) → stands_at (b ∷ bs) s ≡ true → may_begin b s ≡ true
stands_from b bs s t = (let r = any_some (b ∷ bs) (spellings s) t in by r.0 r.1 r.2)
  where
    by : (u : List ℕ) → is_among (spellings s) u ≡ true → begins (b ∷ bs) u ≡ true → may_begin b s ≡ true
    by [] i h = absurd (no_empty s i)
    by (c ∷ u) i h =
        let e : c ≡ b = eqb-true c b (and_parts (nat_eq c b) (begins bs u) h).0 in
        spelled_from b u (spellings s) (ap (λ (a : ℕ). is_among (spellings s) (a ∷ u)) (sym e) ∙ i)

pub sign_from : (t : List ℕ) → find (stands_at t) (filter (may_begin (get_or t 0 0)) all_signs) ≡ sign_at t
sign_from [] = refl
sign_from (b ∷ bs) = find_among (stands_at (b ∷ bs)) (may_begin b) all_signs (stands_from b bs)

pub word_from : (w : List ℕ) → find (λ s. is_among (spellings s) w) (filter (may_begin (get_or w 0 0)) all_signs) ≡ sign_of w
word_from [] = refl
word_from (b ∷ v) = find_among (λ s. is_among (spellings s) (b ∷ v)) (may_begin b) all_signs (λ s i. spelled_from b v (spellings s) i)

-- a word that begins with a backslash is looked for among those that are as long
sized : (b : ℕ) (v : List ℕ) (ws : List (List ℕ)) → is_among ws (b ∷ v) ≡ true → list_any (λ w. begins_with b w && nat_eq (length w) (length (b ∷ v))) ws ≡ true
sized b v [] i = absurd cc
sized b v (w ∷ ws) i =
    let test : List ℕ → Bool = λ u. begins_with b u && nat_eq (length u) (length (b ∷ v)) in
    elim (or_cases (bytes_eq w (b ∷ v)) (is_among ws (b ∷ v)) i) [
      | inl e ↦ or_left (test w) (list_any test ws) (ap test (same_bytes w (b ∷ v) e) ∙ (λ j. begins_from (b ∷ v) (b ∷ []) v refl j && same (length (b ∷ v)) j))
      | inr j ↦ or_right (test w) (list_any test ws) (sized b v ws j)
    ]
  where
    same : (n : ℕ) → nat_eq n n ≡ true
    same n = eq-eqb n n refl

pub backslash_from : (w : List ℕ) → get_or w 0 0 ≡ 92 → find (λ s. is_among (spellings s) w) (filter (λ s. list_any (λ u. begins_with 92 u && nat_eq (length u) (length w)) (spellings s)) all_signs) ≡ sign_of w
backslash_from [] e = absurd cc
backslash_from (b ∷ v) e =
    subst (λ (c : ℕ). find (λ s. is_among (spellings s) (b ∷ v)) (filter (λ s. list_any (λ u. begins_with c u && nat_eq (length u) (length (b ∷ v))) (spellings s)) all_signs) ≡ sign_of (b ∷ v)) e
    (find_among (λ s. is_among (spellings s) (b ∷ v)) (λ s. list_any (λ u. begins_with b u && nat_eq (length u) (length (b ∷ v))) (spellings s)) all_signs (λ s i. sized b v (spellings s) i))

-- ---- behind a backslash is no word without a letter

differs : (k c : ℕ) → is_letter k ≡ true → is_letter c ≡ false → nat_eq k c ≡ false
differs k c t f = tells_apart is_letter k c t f

no_word_sign : (t : List ℕ) → get_or t 0 0 ≡ 92 → list_any is_letter (take 1 (drop 1 t)) ≡ false → find (stands_at t) (sign.Or ∷ sign.Without ∷ []) ≡ sign_at t
no_word_sign [] e h = absurd (omega arith)
no_word_sign (a ∷ []) e h = rw e refl
no_word_sign (a ∷ c ∷ t) e h =
    let f : is_letter c ≡ false = (or_parts (is_letter c) false h).0 in
    rw (e, differs 101 c refl f, differs 103 c refl f, differs 108 c refl f, differs 110 c refl f) refl

-- so it is one of two signs
pub or_sign : (t : List ℕ) → get_or t 0 0 ≡ 92 → list_any is_letter (take 1 (drop 1 t)) ≡ false → begins t (92 ∷ 47 ∷ []) ≡ true → find (stands_at t) (sign.Or ∷ []) ≡ sign_at t
or_sign t e h b = (let same : find (stands_at t) (sign.Or ∷ []) ≡ find (stands_at t) (sign.Or ∷ sign.Without ∷ []) = rw b refl in same) ∙ no_word_sign t e h

pub without_sign : (t : List ℕ) → get_or t 0 0 ≡ 92 → list_any is_letter (take 1 (drop 1 t)) ≡ false → begins t (92 ∷ 47 ∷ []) ≡ false → find (stands_at t) (sign.Without ∷ []) ≡ sign_at t
without_sign [] e h b = absurd (omega arith)
without_sign (a ∷ []) e h b = rw e refl
without_sign (a ∷ c ∷ t) e h b = by (nat_eq 47 c) refl
  where
    by : (k : Bool) → nat_eq 47 c ≡ k → find (stands_at (a ∷ c ∷ t)) (sign.Without ∷ []) ≡ sign_at (a ∷ c ∷ t)
    by true k = absurd (both_ways (begins (a ∷ c ∷ t) (92 ∷ 47 ∷ [])) b (rw (e, k) refl))
    by false k =
        let f : is_letter c ≡ false = (or_parts (is_letter c) false h).0 in
        (let same : find (stands_at (a ∷ c ∷ t)) (sign.Without ∷ []) ≡ find (stands_at (a ∷ c ∷ t)) (sign.Or ∷ sign.Without ∷ []) = rw (e, k, differs 108 c refl f) refl in same) ∙ no_word_sign (a ∷ c ∷ t) e h
