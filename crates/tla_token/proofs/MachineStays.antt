-- A part that stays fits before whatever comes behind the bytes that are here.
use Rattle.std.proofs.Common.{◌≡◌, ℕ, suc, ◌+◌, ◌<◌, ◌≤◌, Bool, true, false, not, ◌&&◌, ◌||◌, nat_eq, nat_le, nat_lt, List, [], ◌∷◌, ◌++◌, length, drop, Some, refl, sym, ap, subst, ◌∙◌, inl, inr, arith, find, append_assoc, le_trans, if◌then◌else◌}
use Rattle.std.specs.List.{list_all, list_any}
use Rattle.std.specs.Str.{bytes_eq}
use Rattle.std.proofs.lemmas.Bool.{and_parts, or_cases, or_left, or_right, eqb-true, leb-true, false_from_ne_true, both_ways}
use Rattle.tla_token.specs.declared.sign.Sign.{Sign}
use Rattle.tla_token.specs.Signs.{spellings, is_among, all_signs}
use Rattle.tla_token.specs.Lexemes.{Kind, name, number, string, one, other, is_word, is_letter, is_digit, is_printed, is_other, unquoted, IsLexeme, IsLongest}
use Rattle.tla_token.specs.Tokens.{blank, block, line, lexeme, Fits, EndsLine, opens_comment}
use Rattle.tla_token.specs.Offences.{Part, sound, stray, bad_string, open_string, open_block, part_bytes, PartFits, ends_string, string_len, escape_len}
use Rattle.tla_token.specs.Cut.{run, sign_at, spelling_at}
use Rattle.tla_token.specs.Feeding.{is_settled, stays}
use Rattle.tla_token.proofs.Spelled.{begins_is, begins_from, begins_same, same_bytes, is_worded, is_mark, stands_at, row_of, no_empty}
use Rattle.tla_token.proofs.Words.{one_plus}
use Rattle.tla_token.proofs.Signed.{not_true}
use Rattle.tla_token.proofs.Longest.{Sort, a_name, a_number, a_quote, a_single, a_worded, some_marks, sort_of, same_first, spelling_found}
use Rattle.tla_token.proofs.Before.{string_before}

-- ---- the table of signs: marks are three bytes at most, and behind a backslash one

abbrev most_marks : List ℕ → ℕ
most_marks [] = 0
most_marks (c ∷ m) = if nat_eq c 92 then 2 else 3

abbrev is_short : List ℕ → Bool
is_short w = is_worded w || nat_le (length w) (most_marks w)

table : list_all (λ s. list_all is_short (spellings s)) all_signs ≡ true
table = refl

found_all : {X : Type 0} (p q : X → Bool) (xs : List X) (x : X) → find p xs ≡ Some x → list_all q xs ≡ true → q x ≡ true
found_all p q [] x e h = absurd cc
found_all p q (y ∷ xs) x e h =
    let w = and_parts (q y) (list_all q xs) h in
    by w.0 (p y) refl (λ d. found_all p q xs x d w.1)
  where
    by : q y ≡ true → (k : Bool) → p y ≡ k → (find p xs ≡ Some x → q x ≡ true) → q x ≡ true
    by t true k rest = (let d : Some y ≡ Some x = rw k at e in let same : y ≡ x = cc in ap q (sym same) ∙ t)
    by t false k rest = rest (rw k at e)

among_all : (q : List ℕ → Bool) (ws : List (List ℕ)) (w : List ℕ) → is_among ws w ≡ true → list_all q ws ≡ true → q w ≡ true
among_all q [] w i h = absurd cc
among_all q (v ∷ ws) w i h =
    let p = and_parts (q v) (list_all q ws) h in
    elim (or_cases (bytes_eq v w) (is_among ws w) i) [ inl e ↦ ap q (sym (same_bytes v w e)) ∙ p.0 | inr j ↦ among_all q ws w j p.1 ]

mark_letter : (b : ℕ) → is_mark b ≡ true → is_letter b ≡ true → ⊥
mark_letter b m l =
    both_ways (is_word b) (not_true (is_word b) (and_parts (is_printed b && not (nat_eq b 34)) (not (is_word b)) m).1)
    (or_left (is_letter b || is_digit b) (nat_eq b 95) (or_left (is_letter b) (is_digit b) l))

marks_letter : (v : List ℕ) → list_all is_mark v ≡ true → list_any is_letter v ≡ true → ⊥
marks_letter [] m l = cc
marks_letter (b ∷ v) m l =
    let p = and_parts (is_mark b) (list_all is_mark v) m in
    elim (or_cases (is_letter b) (list_any is_letter v) l) [ inl e ↦ mark_letter b p.0 e | inr e ↦ marks_letter v p.1 e ]

marks_worded : (m : List ℕ) → list_all is_mark m ≡ true → is_worded m ≡ true → ⊥
marks_worded [] m w = cc
marks_worded (c ∷ v) m w = marks_letter v (and_parts (is_mark c) (list_all is_mark v) m).1 (and_parts (nat_eq c 92 && list_all is_word v) (list_any is_letter v) w).1

marks_short : (s : Sign) (m : List ℕ) → list_all is_mark m ≡ true → sign_at m ≡ Some s → spelling_at (spellings s) m ≡ Some m → length m ≤ most_marks m
marks_short s m marks at spelled =
    let i = (spelling_found (spellings s) m m spelled).0 in
    let t : is_short m ≡ true = among_all is_short (spellings s) m i (found_all (stands_at m) (λ r. list_all is_short (spellings r)) all_signs s at table) in
    elim (or_cases (is_worded m) (nat_le (length m) (most_marks m)) t) [
      | inl w ↦ absurd (marks_worded m marks w)
      | inr l ↦ leb-true (length m) (most_marks m) l
    ]

-- ---- settled bytes

run_ended : (p : ℕ → Bool) (u more : List ℕ) → list_any (λ c. not (p c)) u ≡ true → length (run p (u ++ more)) ≤ length u
run_ended p [] more h = absurd cc
run_ended p (b ∷ u) more h = by (p b) refl (run_ended p u more)
  where
    by : (k : Bool) → p b ≡ k → (list_any (λ c. not (p c)) u ≡ true → length (run p (u ++ more)) ≤ length u) → length (run p (b ∷ (u ++ more))) ≤ length (b ∷ u)
    by true k rest = (let g : list_any (λ c. not (p c)) u ≡ true = rw k at h in let l = rest g in rw (k, one_plus) (omega arith))
    by false k rest = rw k (omega arith)

some_there : (p : ℕ → Bool) (u : List ℕ) → list_any p u ≡ true → 0 < length u
some_there p [] h = absurd cc
some_there p (b ∷ u) h = omega arith

settled_word : (b : ℕ) (bs : List ℕ) → (is_word b || nat_eq b 92) ≡ true → is_settled (b ∷ bs) ≡ true → list_any (λ c. not (is_word c)) bs ≡ true
settled_word b bs k h = rw k at h

settled_mark : (b : ℕ) (bs : List ℕ) → (is_word b || nat_eq b 92) ≡ false → is_settled (b ∷ bs) ≡ true → 2 ≤ length bs
settled_mark b bs k h = leb-true 2 (length bs) (rw k at h)

-- some byte is of no word
settled_ends : (b : ℕ) (bs : List ℕ) → is_settled (b ∷ bs) ≡ true → list_any (λ c. not (is_word c)) (b ∷ bs) ≡ true
settled_ends b bs h = by (is_word b || nat_eq b 92) refl (is_word b) refl
  where
    by : (k : Bool) → (is_word b || nat_eq b 92) ≡ k → (j : Bool) → is_word b ≡ j → list_any (λ c. not (is_word c)) (b ∷ bs) ≡ true
    by true k j f = or_right (not (is_word b)) (list_any (λ c. not (is_word c)) bs) (settled_word b bs k h)
    by false k true f = (let g : true ≡ false = sym (or_left (is_word b) (nat_eq b 92) f) ∙ k in absurd cc)
    by false k false f = or_left (not (is_word b)) (list_any (λ c. not (is_word c)) bs) (ap not f)

settled_two : (b : ℕ) (bs : List ℕ) → is_settled (b ∷ bs) ≡ true → 1 ≤ length bs
settled_two b bs h = by (is_word b || nat_eq b 92) refl
  where
    by : (k : Bool) → (is_word b || nat_eq b 92) ≡ k → 1 ≤ length bs
    by true k = (let l = some_there (λ c. not (is_word c)) bs (settled_word b bs k h) in omega arith)
    by false k = (let l = settled_mark b bs k h in omega arith)

-- no lexeme in front of b ∷ bs and more goes past b ∷ bs: neither a word, alone or behind a backslash, nor a sign
pub record Bound (b : ℕ) (bs more : List ℕ) : Type 0 where
  pub word : length (run is_word (b ∷ (bs ++ more))) ≤ length (b ∷ bs)
  pub back : nat_eq b 92 ≡ true → length (run is_word (bs ++ more)) ≤ length bs
  pub sign : is_mark b ≡ true → (if nat_eq b 92 then 2 else 3) ≤ length (b ∷ bs)

-- and no comment begins by what comes
abbrev pub Unpassed : List ℕ → List ℕ → Type 0
Unpassed [] more = Unit {0}
Unpassed (b ∷ bs) more = (opens_comment (b ∷ bs) ≡ false → opens_comment (b ∷ (bs ++ more)) ≡ false) × Bound b bs more

settled_marks : (b : ℕ) (bs : List ℕ) → is_settled (b ∷ bs) ≡ true → is_mark b ≡ true → (if nat_eq b 92 then 2 else 3) ≤ length (b ∷ bs)
settled_marks b bs h mark = by (nat_eq b 92) refl
  where
    no_word : is_word b ≡ false
    no_word = not_true (is_word b) (and_parts (is_printed b && not (nat_eq b 34)) (not (is_word b)) mark).1

    by : (k : Bool) → nat_eq b 92 ≡ k → (if nat_eq b 92 then 2 else 3) ≤ length (b ∷ bs)
    by true k = (let n = settled_two b bs h in rw k (omega arith))
    by false k =
        let f : (is_word b || nat_eq b 92) ≡ false = rw (no_word, k) refl in
        let n = settled_mark b bs f h in rw k (omega arith)

opens_more : (a b : ℕ) (v more : List ℕ) → opens_comment (a ∷ b ∷ v) ≡ false → opens_comment (a ∷ b ∷ (v ++ more)) ≡ false
opens_more a b v more h = h

settled_opens : (b : ℕ) (bs more : List ℕ) → is_settled (b ∷ bs) ≡ true → opens_comment (b ∷ bs) ≡ false → opens_comment (b ∷ (bs ++ more)) ≡ false
settled_opens a [] more h o = (let n = settled_two a [] h in absurd (omega arith))
settled_opens a (b ∷ v) more h o = opens_more a b v more o

pub settled_unpassed : (u more : List ℕ) → is_settled u ≡ true → Unpassed u more
settled_unpassed [] more h = tt
settled_unpassed (b ∷ bs) more h = (
  settled_opens b bs more h,
  record {
    word = run_ended is_word (b ∷ bs) more (settled_ends b bs h);
    back = λ x. run_ended is_word bs more (settled_word b bs (or_right (is_word b) (nat_eq b 92) x) h);
    sign = settled_marks b bs h;
  },
)

-- ---- lexemes that stay

-- a lexeme in front, whatever comes next, is within these bytes
within : (b : ℕ) (bs more m tail : List ℕ) → Bound b bs more → nat_eq b 34 ≡ false → Sort b (bs ++ more) m → b ∷ (bs ++ more) ≡ m ++ tail → length m ≤ length (b ∷ bs)
within b bs more m tail h q (a_name l any) e = (let n = h.word in omega arith)
within b bs more m tail h q (a_number l i d) e = (let n = h.word in omega arith)
within b bs more m tail h q (a_quote raw w f u x) e = absurd (both_ways (nat_eq b 34) q x)
within b bs more m tail h q (a_single l) e = omega arith
within b bs more m tail h q (a_worded x any l) e = (let n = h.back x in omega arith)
within b bs more [] tail h q (some_marks s marks at spelled r f) e = omega arith
within b bs more (c ∷ m) tail h q (some_marks s marks at spelled r f) e =
    let same : c ≡ b = sym (same_first b c (bs ++ more) (m ++ tail) e).0 in
    let mark : is_mark b ≡ true = ap is_mark (sym same) ∙ (and_parts (is_mark c) (list_all is_mark m) marks).0 in
    let P : ℕ → Type 0 = λ d. length (c ∷ m) ≤ (if nat_eq d 92 then 2 else 3) in
    le_trans (subst P same (marks_short s (c ∷ m) marks at spelled)) (h.sign mark)

front_within : (u more m tail : List ℕ) → u ++ more ≡ m ++ tail → length m ≤ length u → u ≡ m ++ drop (length m) u
front_within u more m tail e l = begins_is u m (sym (begins_same u more m (λ t. l)) ∙ begins_from (u ++ more) m tail e)

-- ---- lexemes

abbrev is_string : Kind → Bool
is_string (string w) = true
is_string k = false

-- only strings begin with a quote
quoted : (k : Kind) (bs : List ℕ) → IsLexeme k (34 ∷ bs) → is_string k ≡ true
quoted (name w) bs (same, (all, any)) = (let f : false ≡ true = ap (list_all is_word) same ∙ all in absurd cc)
quoted (number n) bs (some, all, is) = (let f : false ≡ true = all in absurd cc)
quoted (string w) bs h = refl
quoted (one s) bs i = (let r = row_of s (34 ∷ bs) i in let f : false ≡ true = r.0 in absurd cc)
quoted (other w) [] (same, is) = (let f : false ≡ true = ap is_other same ∙ is in absurd cc)
quoted (other w) (c ∷ bs) (same, is) = (let f : false ≡ true = ap is_other same ∙ is in absurd cc)

unquoted_first : (k : Kind) (b : ℕ) (bs : List ℕ) → IsLexeme k (b ∷ bs) → is_string k ≡ false → nat_eq b 34 ≡ false
unquoted_first k b bs h n =
    false_from_ne_true (nat_eq b 34) (λ t.
    (let P : ℕ → Type 0 = λ c. IsLexeme k (c ∷ bs) in both_ways (is_string k) n (quoted k bs (subst P (eqb-true b 34 t) h))))

some_bytes : (k : Kind) → IsLexeme k [] → ⊥
some_bytes (name w) (same, (all, any)) = (let f : false ≡ true = ap (list_any is_letter) same ∙ any in cc)
some_bytes (number n) (some, all, is) = omega arith
some_bytes (string w) (raw, e, u) = cc
some_bytes (one s) i = no_empty s i
some_bytes (other w) (same, is) = (let f : false ≡ true = ap is_other same ∙ is in cc)

longest_more : (k : Kind) (bytes rest more : List ℕ) → is_string k ≡ false → IsLexeme k bytes → IsLongest bytes rest → Unpassed (bytes ++ rest) more → IsLongest bytes (rest ++ more)
longest_more k [] rest more n i longest h = absurd (some_bytes k i)
longest_more k (b ∷ bs) rest more n i longest (o, h) = λ j m tail l e.
    (let whole : (b ∷ (bs ++ rest)) ++ more ≡ m ++ tail = ap (λ (u : List ℕ). b ∷ u) (append_assoc bs rest more) ∙ e in
    let size = within b (bs ++ rest) more m tail h (unquoted_first k b bs i n) (sort_of j m tail b ((bs ++ rest) ++ more) l whole) whole in
    longest j m (drop (length m) (b ∷ (bs ++ rest))) l (front_within (b ∷ (bs ++ rest)) more m tail whole size))

comment_more : (u more : List ℕ) → Unpassed u more → (u ≡ [] → ⊥) → opens_comment u ≡ false → opens_comment (u ++ more) ≡ false
comment_more [] more h some o = absurd (some refl)
comment_more (b ∷ bs) more h some o = h.0 o

some_lexeme : (k : Kind) (bytes rest : List ℕ) → IsLexeme k bytes → bytes ++ rest ≡ [] → ⊥
some_lexeme k [] rest i e = some_bytes k i
some_lexeme k (b ∷ bytes) rest i e = cc

lexeme_stays : (k : Kind) (bytes rest more : List ℕ) → is_string k ≡ false → Fits (lexeme k bytes) rest → Unpassed (bytes ++ rest) more → Fits (lexeme k bytes) (rest ++ more)
lexeme_stays k bytes rest more n (none, i, longest) h =
    (ap opens_comment (sym (append_assoc bytes rest more)) ∙ comment_more (bytes ++ rest) more h (some_lexeme k bytes rest i) none, i, longest_more k bytes rest more n i longest h)

pub string_stays : (w raw bytes rest : List ℕ) → bytes ≡ 34 ∷ (raw ++ 34 ∷ []) → unquoted raw ≡ Some w → Fits (lexeme (string w) bytes) rest
string_stays w raw bytes rest e u =
    let L : List ℕ → Type 0 = λ m. IsLongest m rest in
    (ap (λ (m : List ℕ). opens_comment (m ++ rest)) e, (raw, e, u), subst L (sym e) (string_before raw w rest u))

-- ---- strings that are none

ends_here : (b : ℕ) (r s : List ℕ) → string_len (b ∷ r) ≡ 0 → string_len (b ∷ s) ≡ 0
ends_here b r s e = by (nat_eq b 92) refl (ends_string b) refl
  where
    by : (k : Bool) → nat_eq b 92 ≡ k → (j : Bool) → ends_string b ≡ j → string_len (b ∷ s) ≡ 0
    by true k j f = (let g : 1 + escape_len r ≡ 0 = rw k at e in absurd (omega arith))
    by false k true f = rw (k, f) refl
    by false k false f = (let g : 1 + string_len r ≡ 0 = rw (k, f) at e in absurd (omega arith))

escape_ends : (b : ℕ) (r s : List ℕ) → escape_len (b ∷ r) ≡ 0 → escape_len (b ∷ s) ≡ 0
escape_ends b r s e = by (nat_eq b 10) refl
  where
    by : (k : Bool) → nat_eq b 10 ≡ k → escape_len (b ∷ s) ≡ 0
    by true k = rw k refl
    by false k = (let g : 1 + string_len r ≡ 0 = rw k at e in absurd (omega arith))

goes_on : (c : ℕ) (r s : List ℕ) (n : ℕ) → string_len (c ∷ r) ≡ suc n → (escape_len r ≡ n → escape_len s ≡ n) → (string_len r ≡ n → string_len s ≡ n) → string_len (c ∷ s) ≡ suc n
goes_on c r s n e x y = by (nat_eq c 92) refl (ends_string c) refl
  where
    by : (k : Bool) → nat_eq c 92 ≡ k → (j : Bool) → ends_string c ≡ j → string_len (c ∷ s) ≡ suc n
    by true k j f = (let g : 1 + escape_len r ≡ suc n = rw k at e in let h : escape_len r ≡ n = omega arith in rw (k, x h) (omega arith))
    by false k true f = (let g : 0 ≡ suc n = rw (k, f) at e in absurd (omega arith))
    by false k false f = (let g : 1 + string_len r ≡ suc n = rw (k, f) at e in let h : string_len r ≡ n = omega arith in rw (k, f, y h) (omega arith))

escape_goes : (c : ℕ) (r s : List ℕ) (n : ℕ) → escape_len (c ∷ r) ≡ suc n → (string_len r ≡ n → string_len s ≡ n) → escape_len (c ∷ s) ≡ suc n
escape_goes c r s n e y = by (nat_eq c 10) refl
  where
    by : (k : Bool) → nat_eq c 10 ≡ k → escape_len (c ∷ s) ≡ suc n
    by true k = (let g : 0 ≡ suc n = rw k at e in absurd (omega arith))
    by false k = (let g : 1 + string_len r ≡ suc n = rw k at e in let h : string_len r ≡ n = omega arith in rw (k, y h) (omega arith))

mutual
  string_kept : (raw : List ℕ) (b : ℕ) (r s : List ℕ) → string_len (raw ++ b ∷ r) ≡ length raw → string_len (raw ++ b ∷ s) ≡ length raw
  string_kept [] b r s e = ends_here b r s e
  string_kept (c ∷ raw) b r s e = goes_on c (raw ++ b ∷ r) (raw ++ b ∷ s) (length raw) e (escape_kept raw b r s) (string_kept raw b r s)

  escape_kept : (raw : List ℕ) (b : ℕ) (r s : List ℕ) → escape_len (raw ++ b ∷ r) ≡ length raw → escape_len (raw ++ b ∷ s) ≡ length raw
  escape_kept [] b r s e = escape_ends b r s e
  escape_kept (c ∷ raw) b r s e = escape_goes c (raw ++ b ∷ r) (raw ++ b ∷ s) (length raw) e (string_kept raw b r s)

-- ---- parts

ends_more : (rest more : List ℕ) → EndsLine rest → nat_lt 0 (length rest) ≡ true → EndsLine (rest ++ more)
ends_more [] more e h = absurd cc
ends_more (b ∷ rest) more e h = e

open_more : (raw rest more : List ℕ) → PartFits (open_string raw) rest → nat_lt 0 (length rest) ≡ true → PartFits (open_string raw) (rest ++ more)
open_more raw [] more h s = absurd cc
open_more raw (b ∷ rest) more (n, q) s = (string_kept raw b rest (rest ++ more) n, q)

-- a part that stays fits before anything that comes
pub stays_fits : (x : Part) (rest more : List ℕ) → PartFits x rest → stays x rest ≡ true → PartFits x (rest ++ more)
stays_fits (sound (blank b)) rest more h s = h
stays_fits (sound (block body)) rest more h s = h
stays_fits (sound (line body)) rest more (all, e) s = (all, ends_more rest more e s)
stays_fits (sound (lexeme (name w) bytes)) rest more h s = lexeme_stays (name w) bytes rest more refl h (settled_unpassed (bytes ++ rest) more s)
stays_fits (sound (lexeme (number n) bytes)) rest more h s = lexeme_stays (number n) bytes rest more refl h (settled_unpassed (bytes ++ rest) more s)
stays_fits (sound (lexeme (string w) bytes)) rest more (none, (raw, e, u), longest) s = string_stays w raw bytes (rest ++ more) e u
stays_fits (sound (lexeme (one t) bytes)) rest more h s = lexeme_stays (one t) bytes rest more refl h (settled_unpassed (bytes ++ rest) more s)
stays_fits (sound (lexeme (other w) bytes)) rest more h s = lexeme_stays (other w) bytes rest more refl h (settled_unpassed (bytes ++ rest) more s)
stays_fits (stray b) rest more h s = h
stays_fits (bad_string raw) rest more (n, u) s = (string_kept raw 34 rest (rest ++ more) n, u)
stays_fits (open_string raw) rest more h s = open_more raw rest more h s
stays_fits (open_block body) rest more h s = absurd cc

-- ---- parts of bytes in which no comment and no string begins

abbrev pub begins_quoted : List ℕ → Bool
begins_quoted [] = false
begins_quoted (b ∷ bs) = nat_eq b 34

-- they fit before what doesn't make their lexemes longer
pub unpassed_fits : (x : Part) (rest more : List ℕ) → PartFits x rest → opens_comment (part_bytes x ++ rest) ≡ false → begins_quoted (part_bytes x ++ rest) ≡ false → Unpassed (part_bytes x ++ rest) more
    → PartFits x (rest ++ more)
unpassed_fits (sound (blank b)) rest more h o q u = h
unpassed_fits (sound (block body)) rest more h o q u = h
unpassed_fits (sound (line body)) rest more h o q u = absurd cc
unpassed_fits (sound (lexeme (name w) bytes)) rest more h o q u = lexeme_stays (name w) bytes rest more refl h u
unpassed_fits (sound (lexeme (number n) bytes)) rest more h o q u = lexeme_stays (number n) bytes rest more refl h u
unpassed_fits (sound (lexeme (string w) bytes)) rest more (none, (raw, e, v), longest) o q u = string_stays w raw bytes (rest ++ more) e v
unpassed_fits (sound (lexeme (one t) bytes)) rest more h o q u = lexeme_stays (one t) bytes rest more refl h u
unpassed_fits (sound (lexeme (other w) bytes)) rest more h o q u = lexeme_stays (other w) bytes rest more refl h u
unpassed_fits (stray b) rest more h o q u = h
unpassed_fits (bad_string raw) rest more h o q u = absurd cc
unpassed_fits (open_string raw) rest more h o q u = absurd cc
unpassed_fits (open_block body) rest more h o q u = absurd cc
