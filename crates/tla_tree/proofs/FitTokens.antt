-- Each token that is written is the longest one where it is written.
use Rattle.std.proofs.Common.{◌≡◌, ℕ, ◌<◌, ◌^◌, Bool, true, false, not, ◌&&◌, ◌||◌, nat_eq, List, [], ◌∷◌, ◌++◌, length, refl, sym, ap, subst, ◌∙◌, arith, codes}
use Rattle.std.specs.List.{list_all, starts_with}
use Rattle.std.specs.Fmt.{decimal}
use Rattle.std.proofs.lemmas.Bool.{and_parts}
use Rattle.tla_token.specs.Lexemes.{is_word, IsName, IsLongest}
use Rattle.tla_token.specs.Tokens.{opens_comment}
use Rattle.tla_token.specs.Cut.{run}
use Rattle.tla_token.proofs.Words.{word_at, at_word, digits_words}
use Rattle.tla_token.proofs.Signed.{not_true}
use Rattle.tla_token.proofs.Before.{word_before, worded_before, marks_before, marks_alone, string_before}
use Rattle.tla_tree.specs.declared.op.Op.{Op}
use Rattle.tla_tree.specs.declared.op.Op.TheVariants as op
use Rattle.tla_tree.specs.Tree.{Word}
use Rattle.tla_tree.specs.Lexical.{TokenView, Key, Constant, field_kind, escapes, token_text}
use Rattle.tla_tree.specs.Lexical as tk
use Rattle.tla_tree.specs.laws.Writable.{IsString}
use Rattle.tla_tree.specs.laws.InText.{ends_word}
use Rattle.tla_tree.proofs.SpelledTokens.{escapes_read, decimal_spelled}

-- bytes, before others
abbrev pub Longest : List ℕ → List ℕ → Type 0
Longest bytes rest = (opens_comment (bytes ++ rest) ≡ false) × IsLongest bytes rest

-- two dashes or three equals signs are first
abbrev pub ruled : List ℕ → Bool
ruled bytes = starts_with nat_eq bytes (codes "--") || starts_with nat_eq bytes (codes "===")

-- nor are they after the first of these bytes, where there are more
abbrev pub second : List ℕ → List ℕ → Bool
second (b ∷ c ∷ bs) rest = not (ruled ((c ∷ bs) ++ rest))
second w rest = true

-- but for strings
abbrev pub behind : TokenView → List ℕ → Bool
behind (tk.string x) rest = true
behind k rest = second (token_text k) rest

abbrev pub Small : TokenView → Type 0
Small (tk.number n) = n < 2 ^ 127
Small k = Unit {0}

-- the longest, begun by no bar, with no large number
abbrev pub Before : TokenView → List ℕ → Type 0
Before k rest = (opens_comment (token_text k ++ rest) ≡ false) × IsLongest (token_text k) rest × (ruled (token_text k ++ rest) ≡ false) × (behind k rest ≡ true) × Small k

-- a dash is first
abbrev pub dashed : List ℕ → Bool
dashed [] = false
dashed (b ∷ bs) = nat_eq 45 b

-- none of * > ] is first
abbrev pub starts : List ℕ → Bool
starts [] = false
starts (b ∷ bs) = not (nat_eq 42 b) && (not (nat_eq b 62) && not (nat_eq b 93))

record Start (b : ℕ) : Type 0 where
  star : nat_eq 42 b ≡ false
  greater : nat_eq b 62 ≡ false
  square : nat_eq b 93 ≡ false

start_of : (b : ℕ) (bs : List ℕ) → starts (b ∷ bs) ≡ true → Start b
start_of b bs h =
    let p = and_parts (not (nat_eq 42 b)) (not (nat_eq b 62) && not (nat_eq b 93)) h in
    let q = and_parts (not (nat_eq b 62)) (not (nat_eq b 93)) p.1 in
    record { star = not_true (nat_eq 42 b) p.0; greater = not_true (nat_eq b 62) q.0; square = not_true (nat_eq b 93) q.1 }

-- ---- words and numbers
ends_run : (rest : List ℕ) → ends_word rest ≡ true → run is_word rest ≡ []
ends_run [] h = refl
ends_run (b ∷ bs) h = rw (not_true (is_word b) h) refl

abbrev pub is_first : List ℕ → Bool
is_first [] = false
is_first (b ∷ bs) = is_word b

-- bytes of a word, at least one
abbrev pub Wordy : List ℕ → Type 0
Wordy w = (is_first w ≡ true) × (list_all is_word w ≡ true)

wordy_longest : (w rest : List ℕ) → Wordy w → ends_word rest ≡ true → Longest w rest
wordy_longest [] rest h e = absurd cc
wordy_longest (b ∷ w) rest h e = (rw (at_word 40 b h.0 refl, at_word 92 b h.0 refl) refl, word_before b w rest h.1 (ends_run rest e))

wordy_starts : (w rest : List ℕ) → Wordy w → starts (w ++ rest) ≡ true
wordy_starts [] rest h = absurd cc
wordy_starts (b ∷ w) rest h = rw (at_word 42 b h.0 refl, word_at b 62 h.0 refl, word_at b 93 h.0 refl) refl

wordy_unruled : (w rest : List ℕ) → Wordy w → (ruled (w ++ rest) ≡ false) × (second w rest ≡ true)
wordy_unruled [] rest h = absurd cc
wordy_unruled (b ∷ []) rest h = (rw (at_word 45 b h.0 refl, at_word 61 b h.0 refl) refl, refl)
wordy_unruled (b ∷ c ∷ w) rest h =
    let x = and_parts (is_word c) (list_all is_word w) (and_parts (is_word b) (list_all is_word (c ∷ w)) h.1).1 in
    (rw (at_word 45 b h.0 refl, at_word 61 b h.0 refl) refl, rw (at_word 45 c x.0 refl, at_word 61 c x.0 refl) refl)

behind_of : (k : TokenView) (rest : List ℕ) → second (token_text k) rest ≡ true → behind k rest ≡ true
behind_of (tk.string x) rest h = refl
behind_of k rest h = h

pub word_fits : (k : TokenView) (w rest : List ℕ) → token_text k ≡ w → Wordy w → Small k → ends_word rest ≡ true → Before k rest
word_fits k w rest e h s r =
    let x = subst (λ (x : List ℕ). Longest x rest) (sym e) (wordy_longest w rest h r) in
    let u = wordy_unruled w rest h in
    (x.0, x.1, ap (λ (y : List ℕ). ruled (y ++ rest)) e ∙ u.0, behind_of k rest (ap (λ (y : List ℕ). second y rest) e ∙ u.1), s)

pub word_starts : (k : TokenView) (w rest : List ℕ) → token_text k ≡ w → Wordy w → starts (token_text k ++ rest) ≡ true
word_starts k w rest e h = ap (λ (x : List ℕ). starts (x ++ rest)) e ∙ wordy_starts w rest h

pub word_undashed : (w rest : List ℕ) → Wordy w → dashed (w ++ rest) ≡ false
word_undashed [] rest h = absurd cc
word_undashed (b ∷ w) rest h = at_word 45 b h.0 refl

pub word_first : (k : TokenView) (w rest : List ℕ) → token_text k ≡ w → Wordy w → is_first (token_text k ++ rest) ≡ true
word_first k [] rest e h = absurd cc
word_first k (b ∷ w) rest e h = ap (λ (x : List ℕ). is_first (x ++ rest)) e ∙ h.0

pub name_wordy : (w : List ℕ) → IsName w → Wordy w
name_wordy [] h = (let f : false ≡ true = h.1 in absurd cc)
name_wordy (b ∷ w) h = ((and_parts (is_word b) (list_all is_word w) h.0).0, h.0)

pub number_wordy : (n : ℕ) → n < 2 ^ 127 → Wordy (decimal n)
number_wordy n l = (let s = decimal_spelled n l in some (decimal n) s.some (digits_words (decimal n) s.digits))
  where
    some : (w : List ℕ) → 0 < length w → list_all is_word w ≡ true → Wordy w
    some [] p h = absurd (omega arith)
    some (b ∷ w) p h = ((and_parts (is_word b) (list_all is_word w) h).0, h)

pub field_text : (b : Bool) (x : Word) → token_text (field_kind b x) ≡ x
field_text true x = refl
field_text false x = refl

-- ---- signs with a blank behind them
pub sign_fits : (o : Op) (r : List ℕ) → Before (tk.sign o) (32 ∷ r)
sign_fits op.Implies r = (refl, marks_before 61 32 (62 ∷ []) r refl refl refl, refl, refl, tt)
sign_fits op.Equivalent r = (refl, marks_before 60 32 (61 ∷ 62 ∷ []) r refl refl refl, refl, refl, tt)
sign_fits op.And r = (refl, marks_before 47 32 (92 ∷ []) r refl refl refl, refl, refl, tt)
sign_fits op.Or r = (refl, marks_before 92 32 (47 ∷ []) r refl refl refl, refl, refl, tt)
sign_fits op.Not r = (refl, marks_before 126 32 [] r refl refl refl, refl, refl, tt)
sign_fits op.Equal r = (refl, marks_before 61 32 [] r refl refl refl, refl, refl, tt)
sign_fits op.NotEqual r = (refl, marks_before 35 32 [] r refl refl refl, refl, refl, tt)
sign_fits op.Less r = (refl, marks_before 60 32 [] r refl refl refl, refl, refl, tt)
sign_fits op.Greater r = (refl, marks_before 62 32 [] r refl refl refl, refl, refl, tt)
sign_fits op.AtMost r = (refl, marks_before 60 32 (61 ∷ []) r refl refl refl, refl, refl, tt)
sign_fits op.AtLeast r = (refl, marks_before 62 32 (61 ∷ []) r refl refl refl, refl, refl, tt)
sign_fits op.In r = (refl, worded_before 105 (110 ∷ []) (32 ∷ r) refl refl, refl, refl, tt)
sign_fits op.NotIn r = (refl, worded_before 110 (codes "otin") (32 ∷ r) refl refl, refl, refl, tt)
sign_fits op.SubsetEq r = (refl, worded_before 115 (codes "ubseteq") (32 ∷ r) refl refl, refl, refl, tt)
sign_fits op.Override r = (refl, marks_before 64 32 (64 ∷ []) r refl refl refl, refl, refl, tt)
sign_fits op.MapsTo r = (refl, marks_before 58 32 (62 ∷ []) r refl refl refl, refl, refl, tt)
sign_fits op.Cup r = (refl, worded_before 99 (codes "up") (32 ∷ r) refl refl, refl, refl, tt)
sign_fits op.Cap r = (refl, worded_before 99 (codes "ap") (32 ∷ r) refl refl, refl, refl, tt)
sign_fits op.Without r = (refl, marks_before 92 32 [] r refl refl refl, refl, refl, tt)
sign_fits op.Subset r = word_fits (tk.sign op.Subset) (codes "SUBSET") (32 ∷ r) refl (refl, refl) tt refl
sign_fits op.Union r = word_fits (tk.sign op.Union) (codes "UNION") (32 ∷ r) refl (refl, refl) tt refl
sign_fits op.Range r = (refl, marks_before 46 32 (46 ∷ []) r refl refl refl, refl, refl, tt)
sign_fits op.Domain r = word_fits (tk.sign op.Domain) (codes "DOMAIN") (32 ∷ r) refl (refl, refl) tt refl
sign_fits op.Plus r = (refl, marks_before 43 32 [] r refl refl refl, refl, refl, tt)
sign_fits op.Modulo r = (refl, marks_before 37 32 [] r refl refl refl, refl, refl, tt)
sign_fits op.Minus r = (refl, marks_before 45 32 [] r refl refl refl, refl, refl, tt)
sign_fits op.Negate r = (refl, marks_before 45 32 [] r refl refl refl, refl, refl, tt)
sign_fits op.Times r = (refl, marks_before 42 32 [] r refl refl refl, refl, refl, tt)
sign_fits op.Concat r = (refl, worded_before 111 [] (32 ∷ r) refl refl, refl, refl, tt)
sign_fits op.Divide r = (refl, worded_before 100 (codes "iv") (32 ∷ r) refl refl, refl, refl, tt)

pub key_fits : (k : Key) (r : List ℕ) → Before (tk.key k) (32 ∷ r)
key_fits tk.if_key r = word_fits (tk.key tk.if_key) (codes "IF") (32 ∷ r) refl (refl, refl) tt refl
key_fits tk.then_key r = word_fits (tk.key tk.then_key) (codes "THEN") (32 ∷ r) refl (refl, refl) tt refl
key_fits tk.else_key r = word_fits (tk.key tk.else_key) (codes "ELSE") (32 ∷ r) refl (refl, refl) tt refl
key_fits tk.case_key r = word_fits (tk.key tk.case_key) (codes "CASE") (32 ∷ r) refl (refl, refl) tt refl
key_fits tk.other_key r = word_fits (tk.key tk.other_key) (codes "OTHER") (32 ∷ r) refl (refl, refl) tt refl
key_fits tk.let_key r = word_fits (tk.key tk.let_key) (codes "LET") (32 ∷ r) refl (refl, refl) tt refl
key_fits tk.in_key r = word_fits (tk.key tk.in_key) (codes "IN") (32 ∷ r) refl (refl, refl) tt refl
key_fits tk.except_key r = word_fits (tk.key tk.except_key) (codes "EXCEPT") (32 ∷ r) refl (refl, refl) tt refl
key_fits tk.for_all_key r = (refl, worded_before 65 [] (32 ∷ r) refl refl, refl, refl, tt)
key_fits tk.exists_key r = (refl, worded_before 69 [] (32 ∷ r) refl refl, refl, refl, tt)

pub constant_wordy : (c : Constant) → Wordy (token_text (tk.constant c))
constant_wordy (tk.truth true) = (refl, refl)
constant_wordy (tk.truth false) = (refl, refl)
constant_wordy tk.booleans = (refl, refl)
constant_wordy tk.strings = (refl, refl)

pub comma_fits : (r : List ℕ) → Before (tk.mark tk.comma) (32 ∷ r)
comma_fits r = (refl, marks_before 44 32 [] r refl refl refl, refl, refl, tt)

pub colon_fits : (r : List ℕ) → Before (tk.mark tk.colon) (32 ∷ r)
colon_fits r = (refl, marks_before 58 32 [] r refl refl refl, refl, refl, tt)

pub arrow_fits : (r : List ℕ) → Before (tk.mark tk.arrow) (32 ∷ r)
arrow_fits r = (refl, marks_before 45 32 (62 ∷ []) r refl refl refl, refl, refl, tt)

pub maps_fits : (r : List ℕ) → Before (tk.mark tk.maps) (32 ∷ r)
maps_fits r = (refl, marks_before 124 32 (45 ∷ 62 ∷ []) r refl refl refl, refl, refl, tt)

pub defines_fits : (r : List ℕ) → Before (tk.mark tk.defines) (32 ∷ r)
defines_fits r = (refl, marks_before 61 32 (61 ∷ []) r refl refl refl, refl, refl, tt)

pub box_fits : (r : List ℕ) → Before (tk.mark tk.box) (32 ∷ r)
box_fits r = (refl, marks_before 91 32 (93 ∷ []) r refl refl refl, refl, refl, tt)

-- ---- signs before anything
pub close_bracket_fits : (r : List ℕ) → Before (tk.mark tk.close_bracket) r
close_bracket_fits r = (refl, marks_alone 41 [] refl refl (λ c. refl) r, refl, refl, tt)

pub close_square_fits : (r : List ℕ) → Before (tk.mark tk.close_square) r
close_square_fits r = (refl, marks_alone 93 [] refl refl (λ c. refl) r, refl, refl, tt)

pub open_brace_fits : (r : List ℕ) → Before (tk.mark tk.open_brace) r
open_brace_fits r = (refl, marks_alone 123 [] refl refl (λ c. refl) r, refl, refl, tt)

pub close_brace_fits : (r : List ℕ) → Before (tk.mark tk.close_brace) r
close_brace_fits r = (refl, marks_alone 125 [] refl refl (λ c. refl) r, refl, refl, tt)

pub open_tuple_fits : (r : List ℕ) → Before (tk.mark tk.open_tuple) r
open_tuple_fits r = (refl, marks_alone 60 (60 ∷ []) refl refl (λ c. refl) r, refl, refl, tt)

pub close_tuple_fits : (r : List ℕ) → Before (tk.mark tk.close_tuple) r
close_tuple_fits r = (refl, marks_alone 62 (62 ∷ []) refl refl (λ c. refl) r, refl, refl, tt)

pub bang_fits : (r : List ℕ) → Before (tk.mark tk.bang) r
bang_fits r = (refl, marks_alone 33 [] refl refl (λ c. refl) r, refl, refl, tt)

pub prime_fits : (r : List ℕ) → Before (tk.mark tk.prime) r
prime_fits r = (refl, marks_alone 39 [] refl refl (λ c. refl) r, refl, refl, tt)

pub range_fits : (r : List ℕ) → Before (tk.sign op.Range) r
range_fits r = (refl, marks_alone 46 (46 ∷ []) refl refl (λ c. refl) r, refl, refl, tt)

pub not_fits : (r : List ℕ) → Before (tk.sign op.Not) r
not_fits r = (refl, marks_alone 126 [] refl refl (λ c. refl) r, refl, refl, tt)

pub string_fits : (x : Word) (r : List ℕ) → IsString x → Before (tk.string x) r
string_fits x r h = (refl, string_before (escapes x) x r (escapes_read x h), refl, refl, tt)

-- ---- signs before what they don't go on with
pub open_bracket_fits : (r : List ℕ) → starts r ≡ true → Before (tk.mark tk.open_bracket) r
open_bracket_fits [] h = absurd cc
open_bracket_fits (c ∷ r) h = (rw (start_of c r h).star refl, marks_alone 40 [] refl refl (λ c. refl) (c ∷ r), refl, refl, tt)

pub open_square_fits : (r : List ℕ) → starts r ≡ true → Before (tk.mark tk.open_square) r
open_square_fits [] h = absurd cc
open_square_fits (c ∷ r) h = (refl, marks_before 91 c [] r refl (rw (start_of c r h).square refl) refl, refl, refl, tt)

pub minus_fits : (r : List ℕ) → starts r ≡ true → dashed r ≡ false → Before (tk.sign op.Minus) r
minus_fits [] h d = absurd cc
minus_fits (c ∷ r) h d = (let n : nat_eq 45 c ≡ false = d in (refl, marks_before 45 c [] r refl (rw (start_of c r h).greater refl) refl, rw n refl, refl, tt))

pub dot_fits : (r : List ℕ) → is_first r ≡ true → Before (tk.mark tk.dot) r
dot_fits [] h = absurd cc
dot_fits (c ∷ r) h = (refl, marks_before 46 c [] r refl (rw (word_at c 46 h refl) refl) refl, refl, refl, tt)
