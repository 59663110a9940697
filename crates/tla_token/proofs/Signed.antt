-- Signs, and signs that the profile leaves out, are found at the front of a text where they are longest.
use Rattle.std.proofs.Common.{◌≡◌, ℕ, suc, ◌≤◌, Bool, true, false, not, ◌&&◌, ◌||◌, nat_eq, List, [], ◌∷◌, ◌++◌, length, Option, Some, None, refl, sym, ap, subst, ◌∙◌, inl, inr, arith, codes, append_assoc}
use Rattle.std.specs.List.{list_all, list_any, starts_with}
use Rattle.std.proofs.lemmas.Bool.{and_parts, or_cases, or_parts, eqb-true, false_from_ne_true, both_ways}
use Rattle.tla_token.specs.declared.sign.Sign.{Sign}
use Rattle.tla_token.specs.Signs.{spellings, is_among, all_signs, is_sign}
use Rattle.tla_token.specs.Lexemes.{Kind, name, one, other, is_word, is_letter, is_digit, is_blank, is_printed, is_other, IsLexeme, IsLongest}
use Rattle.tla_token.specs.Tokens.{lexeme, opens_comment}
use Rattle.tla_token.specs.Offences.{sound}
use Rattle.tla_token.specs.Cut.{run, part_at, lexeme_part, sign_part, sign_at, sign_of, spelling_at, sign_bytes, or_other}
use Rattle.tla_token.proofs.Words.{run_over, run_passes, run_splits, all_append, any_append, no_more}
use Rattle.tla_token.proofs.Spelled.{is_worded, is_mark, Row, row_of, sign_before, spelling_before, none_spelled, spelled_some, no_sign_at}

-- ---- the ways through the cutting function
pub to_lexeme : (b : ℕ) (bs : List ℕ) → is_blank b ≡ false → nat_eq b 34 ≡ false → opens_comment (b ∷ bs) ≡ false → part_at b bs ≡ lexeme_part b bs
to_lexeme b bs blank quote none =
    let o = or_parts (starts_with nat_eq (b ∷ bs) (codes "(*")) (starts_with nat_eq (b ∷ bs) (codes "\\*")) none in
    rw (blank, quote, o.0, o.1) refl

pub to_worded : (bs : List ℕ) → list_any is_letter (run is_word bs) ≡ true → lexeme_part 92 bs ≡ or_other (sign_of (92 ∷ run is_word bs)) (92 ∷ run is_word bs)
to_worded bs any = rw any refl

pub to_marks : (b : ℕ) (bs : List ℕ) → list_any is_letter (run is_word (b ∷ bs)) ≡ false → is_digit b ≡ false → (nat_eq b 92 && list_any is_letter (run is_word bs)) ≡ false
    → lexeme_part b bs ≡ sign_part (sign_at (b ∷ bs)) b (b ∷ bs)
to_marks b bs none digit back = rw (none, digit, back) refl

-- ---- printable bytes
pub tells_apart : (p : ℕ → Bool) (b k : ℕ) → p b ≡ true → p k ≡ false → nat_eq b k ≡ false
tells_apart p b k t f = false_from_ne_true (nat_eq b k) (λ e. both_ways (p k) f (ap p (sym (eqb-true b k e)) ∙ t))

pub tells_other : (p : ℕ → Bool) (k b : ℕ) → p b ≡ true → p k ≡ false → nat_eq k b ≡ false
tells_other p k b t f = false_from_ne_true (nat_eq k b) (λ e. both_ways (p k) f (ap p (eqb-true k b e) ∙ t))

pub printed_blank : (b : ℕ) → is_printed b ≡ true → is_blank b ≡ false
printed_blank b h = rw (tells_apart is_printed b 32 h refl, tells_apart is_printed b 9 h refl, tells_apart is_printed b 10 h refl, tells_apart is_printed b 13 h refl) refl

-- ---- a backslash with a word

-- it is a lexeme, of a sign or of one that is left out
pub worded_lexeme : (v : List ℕ) → list_all is_word v ≡ true → list_any is_letter v ≡ true → (k : Kind) × IsLexeme k (92 ∷ v)
worded_lexeme [] all any = absurd cc
worded_lexeme (c ∷ v) all any = by (is_sign (92 ∷ c ∷ v)) refl
  where
    by : (k : Bool) → is_sign (92 ∷ c ∷ v) ≡ k → (k : Kind) × IsLexeme k (92 ∷ c ∷ v)
    by true e = (let r = spelled_some (92 ∷ c ∷ v) all_signs e in (one r.0, r.1))
    by false e = (other (92 ∷ c ∷ v), (refl, rw (all, any, e) refl))

pub cut_run : (v rest : List ℕ) → (more : List ℕ) × (v ++ rest ≡ (v ++ run is_word rest) ++ more)
cut_run v rest = (let s = run_splits is_word rest in (s.0, ap (λ (u : List ℕ). v ++ u) s.1 ∙ sym (append_assoc v (run is_word rest) s.0)))

-- a longest one is the whole run after the backslash
pub worded_run : (v rest : List ℕ) → list_all is_word v ≡ true → list_any is_letter v ≡ true → IsLongest (92 ∷ v) rest → run is_word (v ++ rest) ≡ v
worded_run v rest all any longest =
    let r = run is_word rest in
    let s = cut_run v rest in
    let x = worded_lexeme (v ++ r) (all_append is_word v r all (run_passes is_word rest)) (any_append is_letter v r any) in
    let short : length (92 ∷ (v ++ r)) ≤ length (92 ∷ v) = longest x.0 (92 ∷ (v ++ r)) s.0 x.1 (ap (λ (u : List ℕ). 92 ∷ u) s.1) in
    run_over is_word v rest all ∙ no_more v r (omega arith)

worded_front : (v rest : List ℕ) (o : Option Sign) → list_all is_word v ≡ true → list_any is_letter v ≡ true → sign_of (92 ∷ v) ≡ o → opens_comment (92 ∷ (v ++ rest)) ≡ false
    → IsLongest (92 ∷ v) rest → part_at 92 (v ++ rest) ≡ or_other o (92 ∷ v)
worded_front v rest o all any is none longest =
    let r = worded_run v rest all any longest in
    to_lexeme 92 (v ++ rest) refl refl none
    ∙ to_worded (v ++ rest) (ap (list_any is_letter) r ∙ any)
    ∙ ap (λ (u : List ℕ). or_other (sign_of (92 ∷ u)) (92 ∷ u)) r
    ∙ ap (λ (p : Option Sign). or_other p (92 ∷ v)) is

-- ---- marks

-- after a backslash that is a sign by itself or begins marks is no word
pub no_word_behind : (b : ℕ) (v rest : List ℕ) → list_all is_mark v ≡ true → IsLongest (b ∷ v) rest → (nat_eq b 92 && list_any is_letter (run is_word (v ++ rest))) ≡ false
no_word_behind b v rest marks longest =
    false_from_ne_true (nat_eq b 92 && list_any is_letter (run is_word (v ++ rest))) (λ t.
    (let p = and_parts (nat_eq b 92) (list_any is_letter (run is_word (v ++ rest))) t in
    let e : b ≡ 92 = eqb-true b 92 p.0 in
    by v marks p.1 (λ k m more l s. longest k m more l (ap (λ (c : ℕ). c ∷ (v ++ rest)) e ∙ s))))
  where
    by : (v : List ℕ) → list_all is_mark v ≡ true → list_any is_letter (run is_word (v ++ rest)) ≡ true
        → ((k : Kind) (m more : List ℕ) → IsLexeme k m → 92 ∷ (v ++ rest) ≡ m ++ more → length m ≤ suc (length v)) → ⊥
    by [] h any l =
        let s = cut_run [] rest in
        let x = worded_lexeme (run is_word rest) (run_passes is_word rest) any in
        let short : length (92 ∷ run is_word rest) ≤ 1 = l x.0 (92 ∷ run is_word rest) s.0 x.1 (ap (λ (u : List ℕ). 92 ∷ u) s.1) in
        let none : run is_word rest ≡ [] = no_more [] (run is_word rest) (omega arith) in
        let f : false ≡ true = ap (list_any is_letter) (sym none) ∙ any in cc
    by (c ∷ v) h any l =
        let m = and_parts (is_mark c) (list_all is_mark v) h in
        let w : is_word c ≡ false = mark_word c m.0 in
        let f : false ≡ true = rw w at any in cc
      where
        mark_word : (c : ℕ) → is_mark c ≡ true → is_word c ≡ false
        mark_word c h = (let p = and_parts (is_printed c && not (nat_eq c 34)) (not (is_word c)) h in from_not (is_word c) p.1)
          where
            from_not : (k : Bool) → not k ≡ true → k ≡ false
            from_not true e = absurd cc
            from_not false e = refl

pub not_true : (k : Bool) → not k ≡ true → k ≡ false
not_true true e = absurd cc
not_true false e = refl

pub word_digit : (b : ℕ) → is_word b ≡ false → is_digit b ≡ false
word_digit b h = (or_parts (is_letter b) (is_digit b) (or_parts (is_letter b || is_digit b) (nat_eq b 95) h).0).1

pub no_word : (b : ℕ) (bs : List ℕ) → is_word b ≡ false → list_any is_letter (run is_word (b ∷ bs)) ≡ false
no_word b bs h = rw h refl

pub picked_mark : (s : Sign) (b : ℕ) (bs w : List ℕ) → sign_at bs ≡ Some s → spelling_at (spellings s) bs ≡ Some w → sign_part (sign_at bs) b bs ≡ sound (lexeme (one s) w)
picked_mark s b bs w e f = ap (λ (o : Option Sign). sign_part o b bs) e ∙ ap (λ (o : Option (List ℕ)). sound (lexeme (one s) (sign_bytes o))) f

mark_front : (s : Sign) (b : ℕ) (v rest : List ℕ) → list_all is_mark (b ∷ v) ≡ true → sign_at (b ∷ v) ≡ Some s → spelling_at (spellings s) (b ∷ v) ≡ Some (b ∷ v)
    → opens_comment (b ∷ (v ++ rest)) ≡ false → IsLongest (b ∷ v) rest → part_at b (v ++ rest) ≡ sound (lexeme (one s) (b ∷ v))
mark_front s b v rest marks at spelled none longest =
    let m = and_parts (is_mark b) (list_all is_mark v) marks in
    let p = and_parts (is_printed b && not (nat_eq b 34)) (not (is_word b)) m.0 in
    let q = and_parts (is_printed b) (not (nat_eq b 34)) p.0 in
    let w : is_word b ≡ false = not_true (is_word b) p.1 in
    to_lexeme b (v ++ rest) (printed_blank b q.0) (not_true (nat_eq b 34) q.1) none
    ∙ to_marks b (v ++ rest) (no_word b (v ++ rest) w) (word_digit b w) (no_word_behind b v rest m.1 longest)
    ∙ picked_mark s b (b ∷ (v ++ rest)) (b ∷ v) (sign_before (b ∷ v) rest longest ∙ at) (spelling_before s (b ∷ v) rest longest ∙ spelled)

-- a sign that is longest is found
pub sign_front : (s : Sign) (b : ℕ) (v rest : List ℕ) → is_among (spellings s) (b ∷ v) ≡ true → opens_comment (b ∷ (v ++ rest)) ≡ false → IsLongest (b ∷ v) rest
    → part_at b (v ++ rest) ≡ sound (lexeme (one s) (b ∷ v))
sign_front s b v rest i none longest = by (is_worded (b ∷ v)) refl (row_of s (b ∷ v) i)
  where
    by : (k : Bool) → is_worded (b ∷ v) ≡ k → Row s (b ∷ v) → part_at b (v ++ rest) ≡ sound (lexeme (one s) (b ∷ v))
    by true e r =
        let p = and_parts (nat_eq b 92 && list_all is_word v) (list_any is_letter v) e in
        let q = and_parts (nat_eq b 92) (list_all is_word v) p.0 in
        let is : 92 ≡ b = sym (eqb-true b 92 q.0) in
        let found : sign_of (b ∷ v) ≡ Some s = rw e at r in
        let P : ℕ → Type 0 = λ c. sign_of (c ∷ v) ≡ Some s → opens_comment (c ∷ (v ++ rest)) ≡ false → IsLongest (c ∷ v) rest → part_at c (v ++ rest) ≡ sound (lexeme (one s) (c ∷ v)) in
        subst P is (λ f n l. worded_front v rest (Some s) q.1 p.1 f n l) found none longest
    by false e r =
        let m : (list_all is_mark (b ∷ v) ≡ true) × (sign_at (b ∷ v) ≡ Some s) × (spelling_at (spellings s) (b ∷ v) ≡ Some (b ∷ v)) = rw e at r in
        mark_front s b v rest m.0 m.1 m.2 none longest

-- ---- what is left out
single_front : (b : ℕ) (rest : List ℕ) → is_other (b ∷ []) ≡ true → opens_comment (b ∷ rest) ≡ false → IsLongest (b ∷ []) rest
    → part_at b rest ≡ sound (lexeme (other (b ∷ [])) (b ∷ []))
single_front b rest h none longest =
    let p = and_parts (is_printed b && not (is_letter b || is_digit b || nat_eq b 34)) (not (is_sign (b ∷ []))) h in
    let q = and_parts (is_printed b) (not (is_letter b || is_digit b || nat_eq b 34)) p.0 in
    let u = or_parts (is_letter b || is_digit b) (nat_eq b 34) (not_true (is_letter b || is_digit b || nat_eq b 34) q.1) in
    let v = or_parts (is_letter b) (is_digit b) u.0 in
    let no_sign : is_sign (b ∷ []) ≡ false = not_true (is_sign (b ∷ [])) p.1 in
    let back : nat_eq b 92 ≡ false = false_from_ne_true (nat_eq b 92) (λ e. both_ways (is_sign (b ∷ [])) no_sign (ap (λ (c : ℕ). is_sign (c ∷ [])) (eqb-true b 92 e))) in
    let at : sign_at (b ∷ rest) ≡ None = sign_before (b ∷ []) rest longest ∙ no_sign_at b no_sign in
    to_lexeme b rest (printed_blank b q.0) u.1 none
    ∙ to_marks b rest (no_name v.0 (is_word b) refl) v.1 (rw back refl)
    ∙ ap (λ (o : Option Sign). sign_part o b (b ∷ rest)) at
    ∙ last q.0
  where
    no_name : is_letter b ≡ false → (k : Bool) → is_word b ≡ k → list_any is_letter (run is_word (b ∷ rest)) ≡ false
    no_name l false e = no_word b rest e
    no_name l true e =
        let r = run is_word rest in
        let all : list_all is_word (b ∷ []) ≡ true = rw e refl in
        let over : run is_word (b ∷ rest) ≡ b ∷ r = run_over is_word (b ∷ []) rest all in
        false_from_ne_true (list_any is_letter (run is_word (b ∷ rest))) (λ k.
        (let any : list_any is_letter (b ∷ r) ≡ true = ap (list_any is_letter) (sym over) ∙ k in
        let s = cut_run (b ∷ []) rest in
        let short : length (b ∷ r) ≤ 1 = longest (name (b ∷ r)) (b ∷ r) s.0 (refl, (all_append is_word (b ∷ []) r all (run_passes is_word rest), any)) s.1 in
        let none : r ≡ [] = no_more [] r (omega arith) in
        let one_left : list_any is_letter (b ∷ []) ≡ true = ap (λ (u : List ℕ). list_any is_letter (b ∷ u)) (sym none) ∙ any in
        elim (or_cases (is_letter b) false one_left) [ inl t ↦ both_ways (is_letter b) l t | inr t ↦ (let f : false ≡ true = t in cc) ]))

    last : is_printed b ≡ true → sign_part None b (b ∷ rest) ≡ sound (lexeme (other (b ∷ [])) (b ∷ []))
    last e = rw e refl

pub other_front : (b : ℕ) (v rest : List ℕ) → is_other (b ∷ v) ≡ true → opens_comment (b ∷ (v ++ rest)) ≡ false → IsLongest (b ∷ v) rest
    → part_at b (v ++ rest) ≡ sound (lexeme (other (b ∷ v)) (b ∷ v))
other_front b [] rest h none longest = single_front b rest h none longest
other_front b (c ∷ v) rest h none longest =
    let w = c ∷ v in
    let p = and_parts (nat_eq b 92 && list_all is_word w && list_any is_letter w) (not (is_sign (b ∷ w))) h in
    let q = and_parts (nat_eq b 92 && list_all is_word w) (list_any is_letter w) p.0 in
    let r = and_parts (nat_eq b 92) (list_all is_word w) q.0 in
    let found : sign_of (b ∷ w) ≡ None = none_spelled (b ∷ w) all_signs (not_true (is_sign (b ∷ w)) p.1) in
    let P : ℕ → Type 0 = λ d. sign_of (d ∷ w) ≡ None → opens_comment (d ∷ (w ++ rest)) ≡ false → IsLongest (d ∷ w) rest → part_at d (w ++ rest) ≡ sound (lexeme (other (d ∷ w)) (d ∷ w)) in
    subst P (sym (eqb-true b 92 r.0)) (λ f n l. worded_front w rest None r.1 q.1 f n l) found none longest
