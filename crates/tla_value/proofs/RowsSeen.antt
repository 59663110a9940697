-- Rows: texts of values, cut into tokens, and what they spell.
use Rattle.std.proofs.Common.{◌≡◌, refl, sym, ◌∙◌, ap, arith, true≢false, ℕ, pos, negsuc, true, false, List, [], ◌∷◌, ◌++◌, ◌≤◌, length, length-append}
use Rattle.std.specs.Prelude.{codes}
use Rattle.tla_token.specs.Lexemes.{Kind, IsLexeme}
use Rattle.tla_token.specs.Lexemes as lexeme
use Rattle.tla_token.specs.Tokens as text_piece
use Rattle.tla_token.specs.Cut.{parts, pieces}
use Rattle.tla_token.specs.Limits.{deepest_value}
use Rattle.tla_value.specs.Value.{Value, truth, int, text, model, set}
use Rattle.tla_value.specs.Order.{set_from, seq_from, fun_from, record_from}
use Rattle.tla_value.specs.Limits.{fits_int}
use Rattle.tla_value.specs.ValueText.{Mark, word, number, sign, Spells, IsWithin, AreWithinFields, marks, field_marks, Spelling, Fields, truth_word, digits, minus, quoted, named, braces, angles, fields, pairs, no_spellings, spelling, no_fields, field, no_pairs, pair}
use Rattle.tla_value.specs.ValueSeen.{marks_of, SpellsFrom}

abbrev seen : List ℕ → List Mark
seen bytes = marks_of (pieces (parts bytes))

-- members in any order and repeated
a_set : Spells (seen (codes "{2, TRUE,p1 , 2}")) (set (set_from (int (pos 2) ∷ truth true ∷ model (codes "p1") ∷ [])))
a_set = (braces (spelling (digits 2) (spelling (truth_word true) (spelling (named (codes "p1")) (spelling (digits 2) no_spellings)))), search, search, refl, refl)

-- a blank may come after the minus, and a comment to the line's end in a value
a_tuple : Spells (seen (codes "<<- 3, \\* three\n <<>> >>")) (seq_from (int (negsuc 2) ∷ seq_from [] ∷ []))
a_tuple = (angles (spelling (minus 3) (spelling (angles no_spellings) no_spellings)), search, search, refl, refl)

-- of a repeated field the first counts, and a field may have any identifier as its name
a_record : Spells (seen (codes "[procedure |-> 1, TRUE |-> 2, procedure |-> 3]")) (record_from (codes "procedure" ∷ codes "TRUE" ∷ []) (int (pos 1) ∷ int (pos 2) ∷ []))
a_record = (fields (codes "procedure") (digits 1) (field (codes "TRUE") (digits 2) (field (codes "procedure") (digits 3) no_fields)), search, search, refl, refl)

a_function : Spells (seen (codes "(7 :> 2 @@ \"a b\" :> 1)")) (fun_from ((int (pos 7), int (pos 2)) ∷ (text (codes "a b"), int (pos 1)) ∷ []))
a_function = (pairs (digits 7) (digits 2) (pair (quoted (codes "a b")) (digits 1) no_pairs), search, search, refl, refl)

-- ---- limits

largest : Spells (seen (codes "-170141183460469231731687303715884105728")) (int (negsuc 170141183460469231731687303715884105727))
largest = (minus 170141183460469231731687303715884105728, search, refl, refl, refl)

-- a number past the limits spells no value
abbrev past : ℕ
past = 170141183460469231731687303715884105728

no_number : (n d : ℕ) (r q : List Mark) (s : Spelling) → fits_int (pos n) ≡ false → IsWithin s d → number n ∷ r ≡ marks s q → ⊥
no_number n d r q (digits m) f w e =
    let same : n ≡ m = cc in true≢false (sym w ∙ ap (λ k. fits_int (pos k)) (sym same) ∙ f)
no_number n d r q (truth_word b) f w e = cc
no_number n d r q (minus m) f w e = cc
no_number n d r q (quoted x) f w e = cc
no_number n d r q (named x) f w e = cc
no_number n d r q (braces ss) f w e = cc
no_number n d r q (angles ss) f w e = cc
no_number n d r q (fields x s fs) f w e = cc
no_number n d r q (pairs k s ps) f w e = cc

past_largest : (v : Value) → Spells (seen (codes "170141183460469231731687303715884105728")) v → ⊥
past_largest v s = no_number past deepest_value [] [] s.0 refl s.2 s.3

abbrev f : Mark
f = word (codes "f")

abbrev to : Mark
to = sign (codes "|->")

abbrev close : List Mark
close = sign (codes "]") ∷ []

-- the code of a list's first sign
abbrev first_code : List Mark → ℕ
first_code (sign (c ∷ cs) ∷ ts) = c
first_code ts = 0

after : (n : ℕ) (r q : List Mark) (s : Spelling) → number n ∷ r ≡ marks s q → r ≡ q
after n r q (digits m) e = cc
after n r q (truth_word b) e = cc
after n r q (minus m) e = cc
after n r q (quoted x) e = cc
after n r q (named x) e = cc
after n r q (braces ss) e = cc
after n r q (angles ss) e = cc
after n r q (fields x s fs) e = cc
after n r q (pairs k s ps) e = cc

second : (d : ℕ) (fs : Fields) → AreWithinFields fs d → sign (codes ",") ∷ f ∷ to ∷ number past ∷ close ≡ field_marks fs close → ⊥
second d no_fields w e = cc
second d (field x s fs) w e = no_number past d close (field_marks fs close) s refl w.0 cc

whole : (s : Spelling) → IsWithin s deepest_value → sign (codes "[") ∷ f ∷ to ∷ number 1 ∷ sign (codes ",") ∷ f ∷ to ∷ number past ∷ close ≡ marks s [] → ⊥
whole (fields x s fs) w e = second 199 fs w.2 (after 1 (sign (codes ",") ∷ f ∷ to ∷ number past ∷ close) (field_marks fs close) s cc)
whole (truth_word b) w e = cc
whole (digits n) w e = cc
whole (minus n) w e = cc
whole (quoted x) w e = cc
whole (named x) w e = cc
whole (braces ss) w e = absurd (omega (arith, ap first_code e))
whole (angles ss) w e = absurd (omega (arith, ap first_code e))
whole (pairs k s ps) w e = absurd (omega (arith, ap first_code e))

-- nor does a text with one in it that counts for nothing, in a field that comes twice
past_in_repeated : (v : Value) → Spells (seen (codes "[f |-> 1, f |-> 170141183460469231731687303715884105728]")) v → ⊥
past_in_repeated v s = whole s.0 s.2 s.3

-- the end of a value lies in its text
a_place : SpellsFrom (codes "x = 10") 4 6 (int (pos 10))
a_place =
    record { inside = omega arith; pieces = text_piece.lexeme (lexeme.number 10) (codes "10") ∷ []; cut = refl; fit = ((refl, (omega arith, search, refl), longest), tt); no_blocks = search; ends = search; spells = (digits 10, tt, refl, refl, refl) }
  where
    longest : (k : Kind) (m more : List ℕ) → IsLexeme k m → codes "10" ++ [] ≡ m ++ more → length m ≤ 2
    longest k m more h e = omega (arith, ap length e, length-append m more)

past_the_end : (v : Value) → SpellsFrom (codes "10") 0 3 v → ⊥
past_the_end v s = omega (arith, s.inside)
