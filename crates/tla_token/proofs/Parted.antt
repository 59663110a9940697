-- Parts that fit are the ones that the cutting function gives.
use Rattle.std.proofs.Common.{◌≡◌, ℕ, zero, suc, ◌+◌, ◌-◌, ◌≤◌, Bool, true, false, not, ◌&&◌, ◌||◌, nat_eq, nat_le, List, [], ◌∷◌, ◌++◌, length, take, drop, Option, Some, None, refl, sym, ap, ◌∙◌, inl, inr, arith, append_assoc, append-nil}
use Rattle.std.specs.List.{list_all, list_any}
use Rattle.std.proofs.Math.Seq.{take-append_seam, drop-append_seam}
use Rattle.std.proofs.lemmas.List.{take-append-drop}
use Rattle.std.proofs.lemmas.Bool.{and_parts, and_from, or_cases, eqb-true, leb-true, le-leb, false_from_ne_true, both_ways}
use Rattle.tla_token.specs.declared.sign.Sign.{Sign}
use Rattle.tla_token.specs.Lexemes.{Kind, name, number, string, one, other, unquoted, is_word, is_letter, is_digit, is_blank, is_printed, is_other}
use Rattle.tla_token.specs.Tokens.{Piece, blank, block, line, lexeme, bytes_of, is_pair, Closes, Fits}
use Rattle.tla_token.specs.Offences.{Part, sound, stray, bad_string, open_string, open_block, part_bytes, parts_text, PartFits, PartsFit, is_stray, string_len, begins_with}
use Rattle.tla_token.specs.Cut.{plus, comment_len, closed_part, string_part, part_at, sign_part, parts_at, parts}
use Rattle.tla_token.proofs.Front.{blank_front, block_front, line_front, quote_front}
use Rattle.tla_token.proofs.Words.{name_front, number_front}
use Rattle.tla_token.proofs.Spelled.{no_empty, no_sign_unprinted}
use Rattle.tla_token.proofs.Signed.{to_lexeme, to_marks, no_word, word_digit, not_true, tells_apart, tells_other, sign_front, other_front}

-- the first part of a text, if it isn't empty
abbrev pub first_part : List ℕ → Option Part
first_part [] = None
first_part (b ∷ bs) = Some (part_at b bs)

-- ---- sound parts

quote_first : (w raw bytes rest : List ℕ) → bytes ≡ 34 ∷ (raw ++ 34 ∷ []) → unquoted raw ≡ Some w → first_part (bytes ++ rest) ≡ Some (sound (lexeme (string w) bytes))
quote_first w raw bytes rest e u =
    ap (λ (m : List ℕ). first_part (m ++ rest)) e
    ∙ ap (λ (m : List ℕ). first_part (34 ∷ m)) (append_assoc raw (34 ∷ []) rest)
    ∙ ap Some (quote_front raw rest w u)
    ∙ ap (λ (m : List ℕ). Some (sound (lexeme (string w) m))) (sym e)

lexeme_first : (k : Kind) (bytes rest : List ℕ) → Fits (lexeme k bytes) rest → first_part (bytes ++ rest) ≡ Some (sound (lexeme k bytes))
lexeme_first (name w) [] rest (none, (same, (all, any)), longest) = (let f : list_any is_letter [] ≡ true = ap (list_any is_letter) same ∙ any in absurd cc)
lexeme_first (name w) (b ∷ l) rest (none, (same, (all, any)), longest) =
    ap Some (name_front b l rest (ap (list_all is_word) same ∙ all) (ap (list_any is_letter) same ∙ any) longest)
    ∙ ap (λ (u : List ℕ). Some (sound (lexeme (name u) (b ∷ l)))) same
lexeme_first (number n) [] rest (none, (some, all, is), longest) = absurd (omega arith)
lexeme_first (number n) (b ∷ l) rest (none, (some, all, is), longest) =
    ap Some (number_front b l rest all longest) ∙ ap (λ (m : ℕ). Some (sound (lexeme (number m) (b ∷ l)))) is
lexeme_first (string w) bytes rest (none, (raw, e, u), longest) = quote_first w raw bytes rest e u
lexeme_first (one s) [] rest (none, i, longest) = absurd (no_empty s i)
lexeme_first (one s) (b ∷ l) rest (none, i, longest) = ap Some (sign_front s b l rest i none longest)
lexeme_first (other w) [] rest (none, (same, is), longest) = (let f : false ≡ true = ap is_other same ∙ is in absurd cc)
lexeme_first (other w) (b ∷ l) rest (none, (same, is), longest) =
    ap Some (other_front b l rest (ap is_other same ∙ is) none longest) ∙ ap (λ (u : List ℕ). Some (sound (lexeme (other u) (b ∷ l)))) same

piece_first : (x : Piece) (rest : List ℕ) → Fits x rest → first_part (bytes_of x ++ rest) ≡ Some (sound x)
piece_first (blank b) rest h = ap Some (blank_front b rest h)
piece_first (block body) rest h = ap Some (block_front body rest h)
piece_first (line body) rest (h, e) = ap Some (line_front body rest h e)
piece_first (lexeme k bytes) rest h = lexeme_first k bytes rest h

-- ---- faulty parts

pub word_printed : (b : ℕ) → is_word b ≡ true → is_printed b ≡ true
word_printed b h =
    elim (or_cases (is_letter b || is_digit b) (nat_eq b 95) h) [
      | inr e ↦ ap is_printed (eqb-true b 95 e)
      | inl k ↦ elim (or_cases (is_letter b) (is_digit b) k) [
        | inl l ↦ elim (or_cases (nat_le 97 b && nat_le b 122) (nat_le 65 b && nat_le b 90) l) [ inl e ↦ between 97 122 e (omega arith) (omega arith) | inr e ↦ between 65 90 e (omega arith) (omega arith) ]
        | inr e ↦ between 48 57 e (omega arith) (omega arith)
      ]
    ]
  where
    between : (l r : ℕ) → (nat_le l b && nat_le b r) ≡ true → 33 ≤ l → r ≤ 126 → is_printed b ≡ true
    between l r e x y =
        let p = and_parts (nat_le l b) (nat_le b r) e in
        let low : l ≤ b = leb-true l b p.0 in
        let high : b ≤ r = leb-true b r p.1 in
        and_from (nat_le 33 b) (nat_le b 126) (le-leb 33 b (omega arith)) (le-leb b 126 (omega arith))

abbrev unprinted : ℕ → Bool
unprinted b = not (is_printed b)

stray_front : (b : ℕ) (rest : List ℕ) → is_stray b ≡ true → part_at b rest ≡ stray b
stray_front b rest h =
    let p = and_parts (not (is_blank b)) (not (is_printed b)) h in
    let dark : is_printed b ≡ false = not_true (is_printed b) p.1 in
    let word : is_word b ≡ false = false_from_ne_true (is_word b) (λ t. both_ways (is_printed b) dark (word_printed b t)) in
    let back : nat_eq b 92 ≡ false = tells_apart unprinted b 92 p.1 refl in
    to_lexeme b rest (not_true (is_blank b) p.0) (tells_apart unprinted b 34 p.1 refl) (rw (tells_other unprinted 40 b p.1 refl, tells_other unprinted 92 b p.1 refl) refl)
    ∙ to_marks b rest (no_word b rest word) (word_digit b word) (rw back refl)
    ∙ ap (λ (o : Option Sign). sign_part o b (b ∷ rest)) (no_sign_unprinted b rest dark)
    ∙ last dark
  where
    last : is_printed b ≡ false → sign_part None b (b ∷ rest) ≡ stray b
    last e = rw e refl

-- a string is cut where it is as long as that
string_cut : (raw rest : List ℕ) → string_len (raw ++ rest) ≡ length raw → part_at 34 (raw ++ rest) ≡ string_part raw rest
string_cut raw rest n = rw (n, take-append_seam raw rest, drop-append_seam raw rest) refl

-- a comment that closes is found
pub len_closes : (d : ℕ) (t : List ℕ) (n : ℕ) → comment_len d t ≡ Some n → (n ≤ length t) × Closes d (take n t)
len_closes zero t n e = (let k : 0 ≡ n = cc in rw (← k) (omega arith, tt))
len_closes (suc d) [] n e = absurd cc
len_closes (suc d) (a ∷ []) n e = absurd cc
len_closes (suc d) (a ∷ b ∷ bs) n e =
    by (is_pair 40 42 a b) refl (is_pair 42 41 a b) refl e (comment_len (suc (suc d)) bs) refl (comment_len d bs) refl (comment_len (suc d) (b ∷ bs)) refl
    (len_closes (suc (suc d)) bs) (len_closes d bs) (len_closes (suc d) (b ∷ bs))
  where
    by : (k : Bool) → is_pair 40 42 a b ≡ k → (j : Bool) → is_pair 42 41 a b ≡ j → comment_len (suc d) (a ∷ b ∷ bs) ≡ Some n
        → (o : Option ℕ) → comment_len (suc (suc d)) bs ≡ o → (p : Option ℕ) → comment_len d bs ≡ p → (q : Option ℕ) → comment_len (suc d) (b ∷ bs) ≡ q
        → ((n : ℕ) → comment_len (suc (suc d)) bs ≡ Some n → (n ≤ length bs) × Closes (suc (suc d)) (take n bs))
        → ((n : ℕ) → comment_len d bs ≡ Some n → (n ≤ length bs) × Closes d (take n bs))
        → ((n : ℕ) → comment_len (suc d) (b ∷ bs) ≡ Some n → (n ≤ length (b ∷ bs)) × Closes (suc d) (take n (b ∷ bs)))
        → (n ≤ length (a ∷ b ∷ bs)) × Closes (suc d) (take n (a ∷ b ∷ bs))
    by true k j f h (Some m) o p pe q qe x y z =
        let g : plus 2 (Some m) ≡ Some n = rw (k, o) at h in
        let s : 2 + m ≡ n = cc in
        let w = x m o in
        let u : n ≡ suc (suc m) = omega arith in
        rw (u, k) (omega (arith, w.0), w.1)
    by true k j f h None o p pe q qe x y z = (let g : plus 2 None ≡ Some n = rw (k, o) at h in absurd cc)
    by false k true f h o oe (Some m) p q qe x y z =
        let g : plus 2 (Some m) ≡ Some n = rw (k, f, p) at h in
        let s : 2 + m ≡ n = cc in
        let w = y m p in
        let u : n ≡ suc (suc m) = omega arith in
        rw (u, k, f) (omega (arith, w.0), w.1)
    by false k true f h o oe None p q qe x y z = (let g : plus 2 None ≡ Some n = rw (k, f, p) at h in absurd cc)
    by false k false f h o oe p pe (Some m) q x y z =
        let g : plus 1 (Some m) ≡ Some n = rw (k, f, q) at h in
        let s : 1 + m ≡ n = cc in
        let w = z m q in
        let u : n ≡ suc m = omega arith in
        rw u (omega (arith, w.0), more m w.1)
      where
        more : (m : ℕ) → Closes (suc d) (take m (b ∷ bs)) → Closes (suc d) (a ∷ take m (b ∷ bs))
        more zero h = absurd h
        more (suc m) h = rw (k, f) h
    by false k false f h o oe p pe None q x y z = (let g : plus 1 None ≡ Some n = rw (k, f, q) at h in absurd cc)

open_len : (body : List ℕ) → ((m more : List ℕ) → body ≡ m ++ more → Closes 1 m → ⊥) → comment_len 1 body ≡ None
open_len body never = by (comment_len 1 body) refl
  where
    by : (o : Option ℕ) → comment_len 1 body ≡ o → o ≡ None
    by None e = refl
    by (Some n) e = absurd (never (take n body) (drop n body) (sym (take-append-drop n body)) (len_closes 1 body n e).1)

open_front : (body rest : List ℕ) → rest ≡ [] → comment_len 1 body ≡ None → part_at 40 (42 ∷ (body ++ rest)) ≡ open_block body
open_front body rest e n = ap (λ (u : List ℕ). part_at 40 (42 ∷ u)) (ap (λ (r : List ℕ). body ++ r) e ∙ append-nil body) ∙ closed n
  where
    closed : comment_len 1 body ≡ None → part_at 40 (42 ∷ body) ≡ open_block body
    closed n = rw n refl

pub fits_first : (x : Part) (rest : List ℕ) → PartFits x rest → first_part (part_bytes x ++ rest) ≡ Some x
fits_first (sound p) rest h = piece_first p rest h
fits_first (stray b) rest h = ap Some (stray_front b rest h)
fits_first (bad_string raw) rest (n, u) =
    ap (λ (m : List ℕ). first_part (34 ∷ m)) (append_assoc raw (34 ∷ []) rest)
    ∙ ap Some (string_cut raw (34 ∷ rest) n)
    ∙ ap (λ (o : Option (List ℕ)). Some (closed_part o raw)) u
fits_first (open_string raw) rest (n, q) = ap Some (string_cut raw rest n ∙ by q)
  where
    by : begins_with 34 rest ≡ false → string_part raw rest ≡ open_string raw
    by q = rw q refl
fits_first (open_block body) rest (e, never) = ap Some (open_front body rest e (open_len body never))

-- ---- all parts

parts_over : (m rest : List ℕ) → parts_at (length m) (m ++ rest) ≡ parts_at 0 rest
parts_over [] rest = refl
parts_over (b ∷ m) rest = parts_over m rest

pub same_some : (x y : Part) → Some x ≡ Some y → x ≡ y
same_some x y e = cc

pub parts_step : (x : Part) (bs rest : List ℕ) → part_bytes x ≡ bs → first_part (bs ++ rest) ≡ Some x → (bs ≡ [] → ⊥) → parts_at 0 (bs ++ rest) ≡ x ∷ parts_at 0 rest
parts_step x [] rest e h some = absurd (some refl)
parts_step x (b ∷ m) rest e h some =
    let p : part_at b (m ++ rest) ≡ x = same_some (part_at b (m ++ rest)) x h in
    let n : length (part_bytes x) - 1 ≡ length m = (let l = ap length e in omega arith) in
    rw (p, n, parts_over m rest) refl

some_piece : (p : Piece) (rest : List ℕ) → Fits p rest → bytes_of p ≡ [] → ⊥
some_piece (blank b) rest h e = cc
some_piece (block body) rest h e = cc
some_piece (line body) rest h e = cc
some_piece (lexeme (name w) bytes) rest (none, (same, (all, any)), longest) e = (let f : list_any is_letter [] ≡ true = ap (list_any is_letter) (sym e ∙ same) ∙ any in cc)
some_piece (lexeme (number n) bytes) rest (none, (some, all, is), longest) e = (let l = ap length e in omega arith)
some_piece (lexeme (string w) bytes) rest (none, (raw, f, u), longest) e = cc
some_piece (lexeme (one s) bytes) rest (none, i, longest) e = no_empty s (rw e at i)
some_piece (lexeme (other w) bytes) rest (none, (same, is), longest) e = (let f : false ≡ true = ap is_other (sym e ∙ same) ∙ is in cc)

pub some_part : (x : Part) (rest : List ℕ) → PartFits x rest → part_bytes x ≡ [] → ⊥
some_part (sound p) rest h e = some_piece p rest h e
some_part (stray b) rest h e = cc
some_part (bad_string raw) rest h e = cc
some_part (open_string raw) rest h e = cc
some_part (open_block body) rest h e = cc

-- the parts of a text are the only ones that fit
pub cut_back : (ps : List Part) → PartsFit ps → parts (parts_text ps) ≡ ps
cut_back [] h = refl
cut_back (x ∷ ps) (f, h) =
    parts_step x (part_bytes x) (parts_text ps) refl (fits_first x (parts_text ps) f) (some_part x (parts_text ps) f)
    ∙ ap (λ (qs : List Part). x ∷ qs) (cut_back ps h)
