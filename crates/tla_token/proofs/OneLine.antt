-- A lexeme is in one line, so what is behind it is no further left.
use Rattle.std.proofs.Common.{◌≡◌, ℕ, ◌≤◌, Bool, true, false, not, ◌&&◌, ◌||◌, nat_eq, List, [], ◌∷◌, Some, None, refl, sym, ap, ◌∙◌, arith, if◌then◌else◌}
use Rattle.std.specs.List.{list_all, list_any}
use Rattle.std.proofs.lemmas.Bool.{and_parts, and_from, eqb-true}
use Rattle.tla_token.specs.declared.place.Place.{Place}
use Rattle.tla_token.specs.declared.sign.Sign.{Sign}
use Rattle.tla_token.specs.Signs.{spellings, is_among, is_sign}
use Rattle.tla_token.specs.Places.{step, after}
use Rattle.tla_token.specs.Lexemes.{Kind, name, number, string, one, other, is_word, is_letter, is_digit, is_printed, is_plain, is_other, escaped, in_front, unquoted, behind_backslash, IsLexeme}
use Rattle.tla_token.proofs.Front.{in_front_some}
use Rattle.tla_token.proofs.Words.{all_append, digits_words}
use Rattle.tla_token.proofs.Spelled.{is_worded, is_mark, Row, row_of, no_empty}
use Rattle.tla_token.proofs.Signed.{tells_apart}

-- no byte ends a line
abbrev pub stays : ℕ → Bool
stays b = not (nat_eq b 10)

pub all_stay : (p : ℕ → Bool) → p 10 ≡ false → (bs : List ℕ) → list_all p bs ≡ true → list_all stays bs ≡ true
all_stay p f [] h = refl
all_stay p f (b ∷ bs) h = (let w = and_parts (p b) (list_all p bs) h in and_from (stays b) (list_all stays bs) (ap not (tells_apart p b 10 w.0 f)) (all_stay p f bs w.1))

-- ---- strings
plain_stays : (b : ℕ) (d : Bool) → is_plain b ≡ d → (c : ℕ) → (if d then Some b else None) ≡ Some c → stays b ≡ true
plain_stays b true h c e = ap not (tells_apart is_plain b 10 h refl)
plain_stays b false h c e = absurd cc

quoted_step : (b : ℕ) (bs w : List ℕ) (k : Bool) → nat_eq b 92 ≡ k → unquoted (b ∷ bs) ≡ Some w → ((v : List ℕ) → unquoted bs ≡ Some v → list_all stays bs ≡ true) → ((v : List ℕ) → behind_backslash bs ≡ Some v → list_all stays bs ≡ true) → list_all stays (b ∷ bs) ≡ true
quoted_step b bs w true k e x y =
    let f : behind_backslash bs ≡ Some w = rw k at e in
    and_from (stays b) (list_all stays bs) (ap stays (eqb-true b 92 k)) (y w f)
quoted_step b bs w false k e x y =
    let f : in_front (if is_plain b then Some b else None) (unquoted bs) ≡ Some w = ap (λ (c : Bool). if c then behind_backslash bs else in_front (if is_plain b then Some b else None) (unquoted bs)) (sym k) ∙ e in
    let i = in_front_some (if is_plain b then Some b else None) (unquoted bs) w f in
    and_from (stays b) (list_all stays bs) (plain_stays b (is_plain b) refl i.0 i.2) (x i.1 i.3)

escape_stays : (b : ℕ) (d : Bool) → nat_eq b 10 ≡ d → (c : ℕ) → escaped b ≡ Some c → stays b ≡ true
escape_stays b false h c e = ap not h
escape_stays b true h c e = (let f : escaped 10 ≡ Some c = ap escaped (sym (eqb-true b 10 h)) ∙ e in absurd cc)

mutual
  quoted_stays : (raw w : List ℕ) → unquoted raw ≡ Some w → list_all stays raw ≡ true
  quoted_stays [] w e = refl
  quoted_stays (b ∷ bs) w e = quoted_step b bs w (nat_eq b 92) refl e (λ v f. quoted_stays bs v f) (λ v f. behind_stays bs v f)

  behind_stays : (raw w : List ℕ) → behind_backslash raw ≡ Some w → list_all stays raw ≡ true
  behind_stays [] w e = absurd cc
  behind_stays (b ∷ bs) w e = (let i = in_front_some (escaped b) (unquoted bs) w e in and_from (stays b) (list_all stays bs) (escape_stays b (nat_eq b 10) refl i.0 i.2) (quoted_stays bs i.1 i.3))

-- ---- signs
worded_stays : (b : ℕ) (v : List ℕ) → (nat_eq b 92 && list_all is_word v && list_any is_letter v) ≡ true → list_all stays (b ∷ v) ≡ true
worded_stays b v h =
    let q = and_parts (nat_eq b 92) (list_all is_word v) (and_parts (nat_eq b 92 && list_all is_word v) (list_any is_letter v) h).0 in
    and_from (stays b) (list_all stays v) (ap stays (eqb-true b 92 q.0)) (all_stay is_word refl v q.1)

sign_stays : (s : Sign) (w : List ℕ) → is_among (spellings s) w ≡ true → list_all stays w ≡ true
sign_stays s [] i = absurd (no_empty s i)
sign_stays s (b ∷ v) i = by (is_worded (b ∷ v)) refl (row_of s (b ∷ v) i)
  where
    by : (k : Bool) → is_worded (b ∷ v) ≡ k → Row s (b ∷ v) → list_all stays (b ∷ v) ≡ true
    by true e r = worded_stays b v e
    by false e r = (let m : (list_all is_mark (b ∷ v) ≡ true) × _ × _ = rw e at r in all_stay is_mark refl (b ∷ v) m.0)

other_stays : (w : List ℕ) → is_other w ≡ true → list_all stays w ≡ true
other_stays [] h = refl
other_stays (b ∷ []) h =
    let p = and_parts (is_printed b && not (is_letter b || is_digit b || nat_eq b 34)) (not (is_sign (b ∷ []))) h in
    let q = and_parts (is_printed b) (not (is_letter b || is_digit b || nat_eq b 34)) p.0 in
    and_from (stays b) true (ap not (tells_apart is_printed b 10 q.0 refl)) refl
other_stays (b ∷ c ∷ v) h = worded_stays b (c ∷ v) (and_parts (nat_eq b 92 && list_all is_word (c ∷ v) && list_any is_letter (c ∷ v)) (not (is_sign (b ∷ c ∷ v))) h).0

pub lexeme_stays : (k : Kind) (bytes : List ℕ) → IsLexeme k bytes → list_all stays bytes ≡ true
lexeme_stays (name w) bytes h = ap (list_all stays) h.0 ∙ all_stay is_word refl w h.1.0
lexeme_stays (number n) bytes h = all_stay is_word refl bytes (digits_words bytes h.1)
lexeme_stays (string w) bytes (raw, e, u) = ap (list_all stays) e ∙ all_append stays raw (34 ∷ []) (quoted_stays raw w u) refl
lexeme_stays (one s) bytes h = sign_stays s bytes h
lexeme_stays (other w) bytes h = ap (list_all stays) h.0 ∙ other_stays w h.1

-- ---- places
step_right : (p : Place) (b : ℕ) → stays b ≡ true → p.col ≤ (step p b).col
step_right p b h = by (nat_eq b 10) refl (nat_eq b 9) refl
  where
    by : (k : Bool) → nat_eq b 10 ≡ k → (j : Bool) → nat_eq b 9 ≡ j → p.col ≤ (step p b).col
    by true e j f = (let g : false ≡ true = rw e at h in absurd cc)
    by false e true f = rw (e, f) (omega arith)
    by false e false f = rw (e, f) (omega arith)

pub after_right : (p : Place) (bs : List ℕ) → list_all stays bs ≡ true → p.col ≤ (after p bs).col
after_right p [] h = omega arith
after_right p (b ∷ bs) h =
    let w = and_parts (stays b) (list_all stays bs) h in
    let x = step_right p b w.0 in
    let y = after_right (step p b) bs w.1 in
    omega (arith, x, y)
