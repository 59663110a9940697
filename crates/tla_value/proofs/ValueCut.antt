-- The text that is written for a value is cut into the tokens of its spelling, wherever it is before what begins with no byte of a word.
use Rattle.std.proofs.Common.{◌≡◌, ◌⊎◌, inl, inr, ℕ, zero, suc, ◌<◌, ◌≤◌, ◌^◌, ◌+◌, ◌-◌, true, false, IsTrue, List, [], ◌∷◌, ◌++◌, length, drop, take, refl, sym, ◌∙◌, ap, subst, arith, codes}
use Rattle.std.specs.Prelude.{pos, neg_ℤ}
use Rattle.std.specs.List.{list_all}
use Rattle.std.specs.Fmt.{decimal, digits as wide}
use Rattle.std.proofs.lemmas.Bool.{and_parts, ltb-true, cases_lt}
use Rattle.std.proofs.lemmas.List.{append_assoc, append-nil, length-append, drop_at}
use Rattle.std.proofs.Math.Seq.{take-append_seam}
use Rattle.tla_token.specs.declared.sign.Sign.TheVariants as sgn
use Rattle.tla_token.specs.Lexemes.{Kind, one, IsName, IsLexeme, IsLongest, is_word}
use Rattle.tla_token.specs.Lexemes as lex
use Rattle.tla_token.specs.Limits.{deepest_value}
use Rattle.tla_token.specs.Tokens.{Piece, blank, lexeme, text_of, Fits}
use Rattle.tla_token.proofs.Words.{digits_words}
use Rattle.tla_tree.specs.Tree.{Word}
use Rattle.tla_tree.specs.Lexical.{escapes}
use Rattle.tla_tree.specs.Lexical as tk
use Rattle.tla_tree.specs.declared.op.Op.TheVariants as op
use Rattle.tla_tree.specs.laws.InText.{ends_word}
use Rattle.tla_tree.proofs.SpelledTokens.{Spelled, decimal_spelled, escapes_read}
use Rattle.tla_tree.proofs.FitTokens.{Wordy, starts, dashed, word_fits, word_starts, word_undashed, name_wordy, sign_fits, comma_fits, maps_fits, close_bracket_fits, close_square_fits, open_brace_fits, close_brace_fits, open_tuple_fits, close_tuple_fits, string_fits, open_bracket_fits, open_square_fits, minus_fits}
use Rattle.tla_value.specs.Value.{Value}
use Rattle.tla_value.specs.Order.{IsCanonical}
use Rattle.tla_value.specs.Limits.{fits, fits_int}
use Rattle.tla_value.specs.ValueText.{Mark, word, number, quote, sign, is_identifier, is_model_name, IsGood, AreGood, AreGoodFields, AreGoodPairs, Spelling, Spellings, Fields, Pairs, truth_word, digits, minus, quoted, named, braces, angles, fields, pairs, no_spellings, spelling, no_fields, field, no_pairs, pair, marks, marks_in, more_marks, field_marks, pair_marks, IsWithin, AreWithin, AreWithinFields, AreWithinPairs, Spells, spelling_text, items_text, more_text, fields_text, pairs_text, value_text, shown, HasModelNames}
use Rattle.tla_value.specs.ValueSeen.{mark_of, marks_of, is_no_block, FitBefore, ends_in_token, SpellsFrom}
use Rattle.tla_value.specs.laws.WrittenStrings.{HasStrings}
use Rattle.tla_value.proofs.ValueOnce.{value_once}
use Rattle.tla_value.proofs.ValueSpelled.{good_shown}
use Rattle.tla_value.proofs.ValueStrings.{Quotes, AllQuote, FieldsQuote, PairsQuote, shown_quotes}
use Rattle.tla_value.proofs.ValueWithin.{spells_shown, within_shown}

-- ---- words and numbers

name_of : (w : Word) → is_identifier w ≡ true → IsName w
name_of w h = and_parts _ _ h

largest : Spelled (2 ^ 127) (decimal (2 ^ 127))
unfolding wide
largest = record { some = omega arith; digits = refl; value = refl }

number_spelled : (n : ℕ) → n ≤ 2 ^ 127 → Spelled n (decimal n)
number_spelled n l = by (cases_lt n (2 ^ 127))
  where
    by : (n < 2 ^ 127) ⊎ (2 ^ 127 ≤ n) → Spelled n (decimal n)
    by (inl k) = decimal_spelled n k
    by (inr k) = (let e : 2 ^ 127 ≡ n = omega (arith, l, k) in subst (λ m. Spelled m (decimal m)) e largest)

number_wordy : (n : ℕ) → n ≤ 2 ^ 127 → Wordy (decimal n)
number_wordy n l = (let s = number_spelled n l in by (decimal n) s.some (digits_words (decimal n) s.digits))
  where
    by : (w : List ℕ) → 0 < length w → list_all is_word w ≡ true → Wordy w
    by [] p h = absurd (omega arith)
    by (b ∷ w) p h = ((and_parts (is_word b) (list_all is_word w) h).0, h)

positive : (n : ℕ) → fits_int (pos n) ≡ true → n ≤ 2 ^ 127
positive n h = (let l = ltb-true n (2 ^ 127) h in omega (arith, l))

negative : (n : ℕ) → fits_int (neg_ℤ (pos n)) ≡ true → n ≤ 2 ^ 127
negative zero h = omega arith
negative (suc n) h = (let l = ltb-true n (2 ^ 127) h in omega (arith, l))

-- ---- pieces that are followed by the rest

record Behind (rest w : List ℕ) (ms : List Mark) : Type 0 where
  pieces : List Piece
  bytes : text_of pieces ≡ w
  marked : marks_of pieces ≡ ms
  fit : FitBefore pieces rest
  no_blocks : IsTrue (list_all is_no_block pieces)
  ends : (pieces ≡ []) ⊎ IsTrue (ends_in_token pieces)

record Written (rest w : List ℕ) (ms : List Mark) : Type 0 where
  behind : Behind rest w ms
  last : IsTrue (ends_in_token behind.pieces)

ends_behind : (k : Kind) (bytes : List ℕ) (ps : List Piece) → (ps ≡ []) ⊎ IsTrue (ends_in_token ps) → IsTrue (ends_in_token (lexeme k bytes ∷ ps))
ends_behind k bytes [] h = refl
ends_behind k bytes (p ∷ ps) (inl e) = absurd cc
ends_behind k bytes (p ∷ ps) (inr h) = h

ends_later : (b : ℕ) (ps : List Piece) → IsTrue (ends_in_token ps) → IsTrue (ends_in_token (blank b ∷ ps))
ends_later b [] h = absurd cc
ends_later b (p ∷ ps) h = h

module _ (rest : List ℕ) where
  abbrev Ends : List ℕ → Type 0
  Ends w = ends_word (w ++ rest) ≡ true

  put_as : {u v : List ℕ} {ms : List Mark} → u ≡ v → Written rest u ms → Written rest v ms
  put_as {ms = ms} e w = subst (λ t. Written rest t ms) e w

  put : (k : Kind) (bytes w : List ℕ) (ms : List Mark) → Fits (lexeme k bytes) (w ++ rest) → Behind rest w ms → Written rest (bytes ++ w) (mark_of k ∷ ms)
  put k bytes w ms f b = record {
    behind = record {
      pieces = lexeme k bytes ∷ b.pieces;
      bytes = ap (λ (u : List ℕ). bytes ++ u) b.bytes;
      marked = ap (λ (ns : List Mark). mark_of k ∷ ns) b.marked;
      fit = (subst (λ (u : List ℕ). Fits (lexeme k bytes) (u ++ rest)) (sym b.bytes) f, b.fit);
      no_blocks = b.no_blocks;
      ends = inr (ends_behind k bytes b.pieces b.ends);
    };
    last = ends_behind k bytes b.pieces b.ends;
  }

  spaced : {w : List ℕ} {ms : List Mark} → Written rest w ms → Written rest (32 ∷ w) ms
  spaced w = record {
    behind = record {
      pieces = blank 32 ∷ w.behind.pieces;
      bytes = ap (λ (u : List ℕ). 32 ∷ u) w.behind.bytes;
      marked = w.behind.marked;
      fit = (refl, w.behind.fit);
      no_blocks = w.behind.no_blocks;
      ends = inr (ends_later 32 w.behind.pieces w.last);
    };
    last = ends_later 32 w.behind.pieces w.last;
  }

  put_word : (w u : List ℕ) (ms : List Mark) → IsName w → Ends u → Behind rest u ms → Written rest (w ++ u) (word w ∷ ms)
  put_word w u ms h e b = (let f = word_fits (tk.word w) w (u ++ rest) refl (name_wordy w h) tt e in put (lex.name w) w u ms (f.0, (refl, h), f.1) b)

  put_number : (n : ℕ) (u : List ℕ) (ms : List Mark) → n ≤ 2 ^ 127 → Ends u → Behind rest u ms → Written rest (decimal n ++ u) (number n ∷ ms)
  put_number n u ms l e b =
      let f = word_fits (tk.word (decimal n)) (decimal n) (u ++ rest) refl (number_wordy n l) tt e in
      let s = number_spelled n l in
      put (lex.number n) (decimal n) u ms (f.0, (s.some, s.digits, s.value), f.1) b

  put_open : (u : List ℕ) (ms : List Mark) → starts (u ++ rest) ≡ true → Behind rest u ms → Written rest (40 ∷ u) (sign (codes "(") ∷ ms)
  put_open u ms s b = (let f = open_bracket_fits (u ++ rest) s in put (one sgn.OpenRound) (codes "(") u ms (f.0, refl, f.1) b)

  put_close : (u : List ℕ) (ms : List Mark) → Behind rest u ms → Written rest (41 ∷ u) (sign (codes ")") ∷ ms)
  put_close u ms b = (let f = close_bracket_fits (u ++ rest) in put (one sgn.CloseRound) (codes ")") u ms (f.0, refl, f.1) b)

  put_minus : (n : ℕ) (u : List ℕ) (ms : List Mark) → n ≤ 2 ^ 127 → Behind rest (decimal n ++ u) ms → Written rest (45 ∷ (decimal n ++ u)) (sign (codes "-") ∷ ms)
  put_minus n u ms l b =
      let h = number_wordy n l in
      let a : decimal n ++ (u ++ rest) ≡ (decimal n ++ u) ++ rest = sym (append_assoc (decimal n) u rest) in
      let s = subst (λ (v : List ℕ). starts v ≡ true) a (word_starts (tk.word (decimal n)) (decimal n) (u ++ rest) refl h) in
      let d = subst (λ (v : List ℕ). dashed v ≡ false) a (word_undashed (decimal n) (u ++ rest) h) in
      let f = minus_fits ((decimal n ++ u) ++ rest) s d in
      put (one sgn.Minus) (codes "-") (decimal n ++ u) ms (f.0, refl, f.1) b

  put_string : (w : Word) (u : List ℕ) (ms : List Mark) → Quotes (quoted w) → Behind rest u ms → Written rest (spelling_text (quoted w) ++ u) (quote w ∷ ms)
  put_string w u ms q b =
      let f = string_fits w (u ++ rest) q in
      put (lex.string w) (codes "\"" ++ (escapes w ++ codes "\"")) u ms (f.0, (escapes w, refl, escapes_read w q), f.1) b

  put_comma : (u : List ℕ) (ms : List Mark) → Written rest u ms → Written rest (44 ∷ 32 ∷ u) (sign (codes ",") ∷ ms)
  put_comma u ms w = (let f = comma_fits (u ++ rest) in put (one sgn.Comma) (codes ",") (32 ∷ u) ms (f.0, refl, f.1) (spaced w).behind)

  -- with a blank on both sides
  put_maps : (u : List ℕ) (ms : List Mark) → Written rest u ms → Written rest (32 ∷ 124 ∷ 45 ∷ 62 ∷ 32 ∷ u) (sign (codes "|->") ∷ ms)
  put_maps u ms w = (let f = maps_fits (u ++ rest) in spaced (put (one sgn.MapsTo) (codes "|->") (32 ∷ u) ms (f.0, refl, f.1) (spaced w).behind))

  put_pair : (u : List ℕ) (ms : List Mark) → Written rest u ms → Written rest (32 ∷ 58 ∷ 62 ∷ 32 ∷ u) (sign (codes ":>") ∷ ms)
  put_pair u ms w = (let f = sign_fits op.MapsTo (u ++ rest) in spaced (put (one sgn.Pair) (codes ":>") (32 ∷ u) ms (f.0, refl, f.1) (spaced w).behind))

  put_override : (u : List ℕ) (ms : List Mark) → Written rest u ms → Written rest (32 ∷ 64 ∷ 64 ∷ 32 ∷ u) (sign (codes "@@") ∷ ms)
  put_override u ms w = (let f = sign_fits op.Override (u ++ rest) in spaced (put (one sgn.Override) (codes "@@") (32 ∷ u) ms (f.0, refl, f.1) (spaced w).behind))

  put_field : (x : Word) (u : List ℕ) (ms : List Mark) → is_identifier x ≡ true → Written rest u ms → Written rest (x ++ (32 ∷ 124 ∷ 45 ∷ 62 ∷ 32 ∷ u)) (word x ∷ sign (codes "|->") ∷ ms)
  put_field x u ms h w = put_word x (32 ∷ 124 ∷ 45 ∷ 62 ∷ 32 ∷ u) (sign (codes "|->") ∷ ms) (name_of x h) refl (put_maps u ms w).behind

  -- ---- what a value begins with
  model_name : (w : Word) → is_model_name w ≡ true → is_identifier w ≡ true
  model_name w h = (and_parts (is_identifier w) _ h).0

  spelling_starts : (s : Spelling) (d : ℕ) → IsGood s → IsWithin s d → (u : List ℕ) → starts (spelling_text s ++ u) ≡ true
  spelling_starts (truth_word true) d g w u = refl
  spelling_starts (truth_word false) d g w u = refl
  spelling_starts (digits n) d g w u = word_starts (tk.word (decimal n)) (decimal n) u refl (number_wordy n (positive n w))
  spelling_starts (minus n) d g w u = refl
  spelling_starts (quoted x) d g w u = refl
  spelling_starts (named x) d g w u = word_starts (tk.word x) x u refl (name_wordy x (name_of x (model_name x g)))
  spelling_starts (braces ss) d g w u = refl
  spelling_starts (angles ss) d g w u = refl
  spelling_starts (fields x s fs) d g w u = refl
  spelling_starts (pairs k s ps) d g w u = refl

  more_ends : (ss : Spellings) (u : List ℕ) → Ends u → Ends (more_text ss ++ u)
  more_ends no_spellings u e = e
  more_ends (spelling s ss) u e = refl

  fields_end : (fs : Fields) (u : List ℕ) → Ends u → Ends (fields_text fs ++ u)
  fields_end no_fields u e = e
  fields_end (field x s fs) u e = refl

  pairs_end : (ps : Pairs) (u : List ℕ) → Ends u → Ends (pairs_text ps ++ u)
  pairs_end no_pairs u e = e
  pairs_end (pair k s ps) u e = refl

  -- ---- in this order of brackets
  two : (a b u : List ℕ) → a ++ (b ++ u) ≡ (a ++ b) ++ u
  two a b u = sym (append_assoc a b u)

  four : (a m b c u : List ℕ) → a ++ (m ++ (b ++ (c ++ u))) ≡ (((a ++ m) ++ b) ++ c) ++ u
  four a m b c u = two a m (b ++ (c ++ u)) ∙ two (a ++ m) b (c ++ u) ∙ two ((a ++ m) ++ b) c u

  five : (a m b c d u : List ℕ) → a ++ (m ++ (b ++ (c ++ (d ++ u)))) ≡ ((((a ++ m) ++ b) ++ c) ++ d) ++ u
  five a m b c d u = four a m b c (d ++ u) ∙ two (((a ++ m) ++ b) ++ c) d u

  mutual
    write : (s : Spelling) (d : ℕ) → IsGood s → IsWithin s d → Quotes s → (u : List ℕ) (ms : List Mark) → Ends u → Behind rest u ms → Written rest (spelling_text s ++ u) (marks s ms)
    write (truth_word true) d g w q u ms e b = put_word (codes "TRUE") u ms (refl, refl) e b
    write (truth_word false) d g w q u ms e b = put_word (codes "FALSE") u ms (refl, refl) e b
    write (digits n) d g w q u ms e b = put_number n u ms (positive n w) e b
    write (minus n) d g w q u ms e b = put_minus n u (number n ∷ ms) (negative n w) (put_number n u ms (negative n w) e b).behind
    write (quoted x) d g w q u ms e b = put_string x u ms q b
    write (named x) d g w q u ms e b = put_word x u ms (name_of x (model_name x g)) e b
    write (braces ss) zero g w q u ms e b = absurd w
    write (braces ss) (suc d) g w q u ms e b =
        let close = (let f = close_brace_fits (u ++ rest) in put (one sgn.CloseCurly) (codes "}") u ms (f.0, refl, f.1) b) in
        let items = write_items ss d g w.1 q (125 ∷ u) (sign (codes "}") ∷ ms) refl close in
        let f = open_brace_fits ((items_text ss ++ 125 ∷ u) ++ rest) in
        put_as (ap (λ (v : List ℕ). 123 ∷ v) (two (items_text ss) (125 ∷ []) u))
        (put (one sgn.OpenCurly) (codes "{") (items_text ss ++ 125 ∷ u) (marks_in ss (sign (codes "}") ∷ ms)) (f.0, refl, f.1) items.behind)
    write (angles ss) zero g w q u ms e b = absurd w
    write (angles ss) (suc d) g w q u ms e b =
        let close = (let f = close_tuple_fits (u ++ rest) in put (one sgn.CloseTuple) (codes ">>") u ms (f.0, refl, f.1) b) in
        let items = write_items ss d g w.1 q (62 ∷ 62 ∷ u) (sign (codes ">>") ∷ ms) refl close in
        let f = open_tuple_fits ((items_text ss ++ 62 ∷ 62 ∷ u) ++ rest) in
        put_as (ap (λ (v : List ℕ). 60 ∷ 60 ∷ v) (two (items_text ss) (62 ∷ 62 ∷ []) u))
        (put (one sgn.OpenTuple) (codes "<<") (items_text ss ++ 62 ∷ 62 ∷ u) (marks_in ss (sign (codes ">>") ∷ ms)) (f.0, refl, f.1) items.behind)
    write (fields x s fs) zero g w q u ms e b = absurd w
    write (fields x s fs) (suc d) g w q u ms e b =
        let close = (let f = close_square_fits (u ++ rest) in put (one sgn.CloseSquare) (codes "]") u ms (f.0, refl, f.1) b) in
        let more = write_fields fs d g.2 w.2 q.1 (93 ∷ u) (sign (codes "]") ∷ ms) refl close in
        let first = write s d g.1 w.1 q.0 (fields_text fs ++ 93 ∷ u) (field_marks fs (sign (codes "]") ∷ ms)) (fields_end fs (93 ∷ u) refl) more.behind in
        let t = spelling_text s ++ (fields_text fs ++ 93 ∷ u) in
        let inner = put_field x t (marks s (field_marks fs (sign (codes "]") ∷ ms))) g.0 first in
        let v = x ++ (32 ∷ 124 ∷ 45 ∷ 62 ∷ 32 ∷ t) in
        let begin = subst (λ (y : List ℕ). starts y ≡ true) (sym (append_assoc x (32 ∷ 124 ∷ 45 ∷ 62 ∷ 32 ∷ t) rest)) (word_starts (tk.word x) x ((32 ∷ 124 ∷ 45 ∷ 62 ∷ 32 ∷ t) ++ rest) refl (name_wordy x (name_of x g.0))) in
        let f = open_square_fits (v ++ rest) begin in
        put_as (ap (λ (y : List ℕ). 91 ∷ y) (five x (codes " |-> ") (spelling_text s) (fields_text fs) (93 ∷ []) u))
        (put (one sgn.OpenSquare) (codes "[") v (word x ∷ sign (codes "|->") ∷ marks s (field_marks fs (sign (codes "]") ∷ ms))) (f.0, refl, f.1) inner.behind)
    write (pairs k s ps) zero g w q u ms e b = absurd w
    write (pairs k s ps) (suc d) g w q u ms e b =
        let more = write_pairs ps d g.2 w.3 q.2 (41 ∷ u) (sign (codes ")") ∷ ms) refl (put_close u ms b) in
        let first = write s d g.1 w.2 q.1 (pairs_text ps ++ 41 ∷ u) (pair_marks ps (sign (codes ")") ∷ ms)) (pairs_end ps (41 ∷ u) refl) more.behind in
        let t = spelling_text s ++ (pairs_text ps ++ 41 ∷ u) in
        let ns = sign (codes ":>") ∷ marks s (pair_marks ps (sign (codes ")") ∷ ms)) in
        let key = write k d g.0 w.1 q.0 (32 ∷ 58 ∷ 62 ∷ 32 ∷ t) ns refl (put_pair t (marks s (pair_marks ps (sign (codes ")") ∷ ms))) first).behind in
        let v = spelling_text k ++ (32 ∷ 58 ∷ 62 ∷ 32 ∷ t) in
        let begin = subst (λ (y : List ℕ). starts y ≡ true) (sym (append_assoc (spelling_text k) (32 ∷ 58 ∷ 62 ∷ 32 ∷ t) rest)) (spelling_starts k d g.0 w.1 ((32 ∷ 58 ∷ 62 ∷ 32 ∷ t) ++ rest)) in
        put_as (ap (λ (y : List ℕ). 40 ∷ y) (five (spelling_text k) (codes " :> ") (spelling_text s) (pairs_text ps) (41 ∷ []) u))
        (put_open v (marks k ns) begin key.behind)

    write_items : (ss : Spellings) (d : ℕ) → AreGood ss → AreWithin ss d → AllQuote ss → (u : List ℕ) (ms : List Mark) → Ends u → Written rest u ms → Written rest (items_text ss ++ u) (marks_in ss ms)
    write_items no_spellings d g w q u ms e b = b
    write_items (spelling s ss) d g w q u ms e b =
        put_as (two (spelling_text s) (more_text ss) u)
        (write s d g.0 w.0 q.0 (more_text ss ++ u) (more_marks ss ms) (more_ends ss u e) (write_more ss d g.1 w.1 q.1 u ms e b).behind)

    write_more : (ss : Spellings) (d : ℕ) → AreGood ss → AreWithin ss d → AllQuote ss → (u : List ℕ) (ms : List Mark) → Ends u → Written rest u ms → Written rest (more_text ss ++ u) (more_marks ss ms)
    write_more no_spellings d g w q u ms e b = b
    write_more (spelling s ss) d g w q u ms e b =
        put_as (ap (λ (v : List ℕ). 44 ∷ 32 ∷ v) (two (spelling_text s) (more_text ss) u))
        (put_comma (spelling_text s ++ (more_text ss ++ u)) (marks s (more_marks ss ms))
        (write s d g.0 w.0 q.0 (more_text ss ++ u) (more_marks ss ms) (more_ends ss u e) (write_more ss d g.1 w.1 q.1 u ms e b).behind))

    write_fields : (fs : Fields) (d : ℕ) → AreGoodFields fs → AreWithinFields fs d → FieldsQuote fs → (u : List ℕ) (ms : List Mark) → Ends u → Written rest u ms → Written rest (fields_text fs ++ u) (field_marks fs ms)
    write_fields no_fields d g w q u ms e b = b
    write_fields (field x s fs) d g w q u ms e b =
        let t = spelling_text s ++ (fields_text fs ++ u) in
        let ns = marks s (field_marks fs ms) in
        put_as (ap (λ (v : List ℕ). 44 ∷ 32 ∷ v) (four x (codes " |-> ") (spelling_text s) (fields_text fs) u))
        (put_comma (x ++ (32 ∷ 124 ∷ 45 ∷ 62 ∷ 32 ∷ t)) (word x ∷ sign (codes "|->") ∷ ns)
        (put_field x t ns g.0 (write s d g.1 w.0 q.0 (fields_text fs ++ u) (field_marks fs ms) (fields_end fs u e) (write_fields fs d g.2 w.1 q.1 u ms e b).behind)))

    write_pairs : (ps : Pairs) (d : ℕ) → AreGoodPairs ps → AreWithinPairs ps d → PairsQuote ps → (u : List ℕ) (ms : List Mark) → Ends u → Written rest u ms → Written rest (pairs_text ps ++ u) (pair_marks ps ms)
    write_pairs no_pairs d g w q u ms e b = b
    write_pairs (pair k s ps) d g w q u ms e b =
        let t = spelling_text s ++ (pairs_text ps ++ u) in
        let ns = marks s (pair_marks ps ms) in
        let value = write s d g.1 w.1 q.1 (pairs_text ps ++ u) (pair_marks ps ms) (pairs_end ps u e) (write_pairs ps d g.2 w.2 q.2 u ms e b).behind in
        put_as (ap (λ (v : List ℕ). 32 ∷ 64 ∷ 64 ∷ 32 ∷ v) (four (spelling_text k) (codes " :> ") (spelling_text s) (pairs_text ps) u))
        (put_override (spelling_text k ++ (32 ∷ 58 ∷ 62 ∷ 32 ∷ t)) (marks k (sign (codes ":>") ∷ ns))
        (write k d g.0 w.0 q.0 (32 ∷ 58 ∷ 62 ∷ 32 ∷ t) (sign (codes ":>") ∷ ns) refl (put_pair t ns value).behind))

-- ---- in a text

pub value_in_text : (v : Value) (before after : List ℕ) → IsCanonical v → HasModelNames v → HasStrings v → fits v ≡ true → ends_word after ≡ true
    → SpellsFrom (before ++ (value_text v ++ after)) (length before) (length before + length (value_text v)) v
value_in_text v before after canonical names strings within ends =
    by (value_text v) (write after (shown v) deepest_value (good_shown v names) (within_shown v canonical within) (shown_quotes v strings) [] [] ends none)
  where
    none : Behind after [] []
    none = record { pieces = []; bytes = refl; marked = refl; fit = tt; no_blocks = refl; ends = inl refl }

    by : (w : List ℕ) → Written after (w ++ []) (marks (shown v) []) → SpellsFrom (before ++ (w ++ after)) (length before) (length before + length w) v
    by w x =
        let n : (length before + length w) - length before ≡ length w = omega arith in
        let behind : drop (length before + length w) (before ++ (w ++ after)) ≡ after =
        ap (drop (length before + length w)) (sym (append_assoc before w after)) ∙ drop_at (before ++ w) after (length before + length w) (length-append before w) in
        record {
          inside = omega (arith, length-append before (w ++ after), length-append w after);
          pieces = x.behind.pieces;
          cut = (λ i. take (n i) (drop_at before (w ++ after) (length before) refl i)) ∙ take-append_seam w after ∙ sym (append-nil w) ∙ sym x.behind.bytes;
          fit = subst (λ (u : List ℕ). FitBefore x.behind.pieces u) (sym behind) x.behind.fit;
          no_blocks = x.behind.no_blocks;
          ends = x.last;
          spells = subst (λ ms. Spells ms v) (sym x.behind.marked) (spells_shown v canonical names within);
        }

pub value_alone_in_text : (v w : Value) (before after : List ℕ) (end : ℕ) → IsCanonical v → HasModelNames v → HasStrings v → fits v ≡ true → ends_word after ≡ true
    → SpellsFrom (before ++ (value_text v ++ after)) (length before) end w → (end ≡ length before + length (value_text v)) × (w ≡ v)
value_alone_in_text v w before after end canonical names strings within ends s =
    let bytes = before ++ (value_text v ++ after) in
    value_once bytes (length before) end (length before + length (value_text v)) w v s (value_in_text v before after canonical names strings within ends)

pub texts_apart : (v w : Value) → IsCanonical v → HasModelNames v → HasStrings v → fits v ≡ true → IsCanonical w → HasModelNames w → HasStrings w → fits w ≡ true
    → value_text v ≡ value_text w → v ≡ w
texts_apart v w c n s f d m t g e =
    let other = subst (λ (u : List ℕ). SpellsFrom (u ++ []) 0 (0 + length u) w) (sym e) (value_in_text w [] [] d m t g refl) in
    sym (value_alone_in_text v w [] [] (0 + length (value_text v)) c n s f refl other).1
