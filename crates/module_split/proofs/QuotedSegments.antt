-- A string has its two quotes.
use Rattle.std.proofs.Common.{◌≡◌, ℕ, ◌≤◌, Bool, true, false, ◌&&◌, nat_eq, [], ◌∷◌, ◌++◌, length, take, drop, Option, Some, None, arith, length-append}
use Rattle.std.specs.Prelude.{if◌then◌else◌, codes, not}
use Rattle.std.specs.List.{list_any, starts_with}
use Rattle.tla_token.specs.declared.sign.Sign.{Sign}
use Rattle.tla_token.specs.Lexemes.{name, number, other, is_word, is_letter, is_digit, is_blank, is_printed, number_of, unquoted}
use Rattle.tla_token.specs.Tokens.{blank, line, lexeme}
use Rattle.tla_token.specs.Offences.{Part, sound, stray, open_string, part_bytes, string_len, begins_with}
use Rattle.tla_token.specs.Cut.{run, comment_len, block_part, closed_part, string_part, or_other, sign_of, sign_at, sign_part, lexeme_part}
use Rattle.tla_token.specs.Scan.{is_quoted, part_class}
use Rattle.module_tree.specs.TextFront.{Text, line_here, whole_line}
use Rattle.module_tree.specs.HeaderAndRegion.{is_header, is_begin, is_end}
use Rattle.module_tree.specs.Beginnings.{is_rule, begins_bar, ends_module}
use Rattle.module_tree.specs.ModuleParts.{dashes, barred, module_part}
use Rattle.module_split.specs.StandsSeen.{is_string}
use Rattle.module_tree.specs.Walk.{Segment, free, header, part, mark, inner, tail, bytes, State, at_end_line, opened, in_module, segment_at}
use Rattle.module_split.specs.Walking.{shape_of}

abbrev Quoted : Part → Type 0
Quoted p = is_quoted (part_class p) ≡ true → 2 ≤ length (part_bytes p)

choose : (k : Bool) (p q : Part) → Quoted p → Quoted q → Quoted (if k then p else q)
choose true p q h g = h
choose false p q h g = g

quotes : (raw : Text) → 2 ≤ length (34 ∷ (raw ++ 34 ∷ []))
quotes raw = omega (arith, length-append raw (34 ∷ []))

closed_quoted : (o : Option Text) (raw : Text) → Quoted (closed_part o raw)
closed_quoted None raw e = quotes raw
closed_quoted (Some w) raw e = quotes raw

block_quoted : (o : Option ℕ) (bs : Text) → Quoted (block_part o bs)
block_quoted None bs e = absurd cc
block_quoted (Some n) bs e = absurd cc

other_quoted : (o : Option Sign) (w : Text) → Quoted (or_other o w)
other_quoted None w e = absurd cc
other_quoted (Some s) w e = absurd cc

sign_quoted : (o : Option Sign) (b : ℕ) (bs : Text) → Quoted (sign_part o b bs)
sign_quoted (Some s) b bs e = absurd cc
sign_quoted None b bs e = choose (is_printed b) (sound (lexeme (other (b ∷ [])) (b ∷ []))) (stray b) (λ e. absurd cc) (λ e. absurd cc) e

lexeme_quoted : (b : ℕ) (bs : Text) → Quoted (lexeme_part b bs)
lexeme_quoted b bs =
    choose (list_any is_letter (run is_word (b ∷ bs))) (sound (lexeme (name (run is_word (b ∷ bs))) (run is_word (b ∷ bs)))) _ (λ e. absurd cc)
    (choose (is_digit b) (sound (lexeme (number (number_of (run is_digit (b ∷ bs)))) (run is_digit (b ∷ bs)))) _ (λ e. absurd cc)
    (choose (nat_eq b 92 && list_any is_letter (run is_word bs)) (or_other (sign_of (b ∷ run is_word bs)) (b ∷ run is_word bs)) (sign_part (sign_at (b ∷ bs)) b (b ∷ bs)) (other_quoted (sign_of (b ∷ run is_word bs)) (b ∷ run is_word bs)) (sign_quoted (sign_at (b ∷ bs)) b (b ∷ bs))))

barred_quoted : (b : ℕ) (s : Text) → Quoted (barred b s)
barred_quoted b s = choose (is_rule (b ∷ s)) (dashes (run (λ c. nat_eq c 45) (b ∷ s))) (lexeme_part b (if begins_bar s then [] else s)) (λ e. absurd cc) (lexeme_quoted b (if begins_bar s then [] else s))

part_quoted : (b : ℕ) (s : Text) → Quoted (module_part b s)
part_quoted b s =
    choose (is_blank b) (sound (blank b)) _ (λ e. absurd cc)
    (choose (nat_eq b 34) (string_part (take (string_len s) s) (drop (string_len s) s)) _
    (choose (begins_with 34 (drop (string_len s) s)) (closed_part (unquoted (take (string_len s) s)) (take (string_len s) s)) (open_string (take (string_len s) s)) (closed_quoted (unquoted (take (string_len s) s)) (take (string_len s) s)) (λ e. absurd cc))
    (choose (starts_with nat_eq (b ∷ s) (codes "(*")) (block_part (comment_len 1 (drop 1 s)) (drop 1 s)) _ (block_quoted (comment_len 1 (drop 1 s)) (drop 1 s))
    (choose (starts_with nat_eq (b ∷ s) (codes "\\*")) (sound (line (run (λ c. not (nat_eq c 10)) (drop 1 s)))) (barred b s) (λ e. absurd cc) (barred_quoted b s))))

-- ---- segments

abbrev AreQuoted : Segment → Type 0
AreQuoted g = is_string (shape_of g) ≡ true → 2 ≤ length (bytes g)

pick : (k : Bool) (g h : Segment) → AreQuoted g → AreQuoted h → AreQuoted (if k then g else h)
pick true g h p q = p
pick false g h p q = q

opened_quoted : (o : Option (Text × Text)) (s : Text) → AreQuoted (opened o s)
opened_quoted (Some (v, w)) s e = absurd cc
opened_quoted None s e = absurd cc

module_quoted : (marked first : Bool) (b : ℕ) (s : Text) → AreQuoted (in_module marked first b s)
module_quoted marked first b s =
    pick (first && is_begin (b ∷ s)) (opened (if marked then None else at_end_line false (b ∷ s)) (b ∷ s)) _ (opened_quoted (if marked then None else at_end_line false (b ∷ s)) (b ∷ s))
    (pick (first && is_end (b ∷ s)) (mark (line_here (b ∷ s))) _ (λ e. absurd cc)
    (pick (first && is_header (b ∷ s)) (inner (line_here (b ∷ s))) _ (λ e. absurd cc)
    (pick (ends_module (b ∷ s)) (tail (b ∷ s)) (part (module_part b s)) (λ e. absurd cc) (part_quoted b s))))

pub segment_quoted : (st : State) (b : ℕ) (s : Text) → is_string (shape_of (segment_at st b s)) ≡ true → 2 ≤ length (bytes (segment_at st b s))
segment_quoted st b s =
    pick st.headed (in_module st.marked (nat_eq st.place.col 1) b s) _ (module_quoted st.marked (nat_eq st.place.col 1) b s)
    (pick (is_header (b ∷ s)) (header (whole_line (b ∷ s))) (free (whole_line (b ∷ s))) (λ e. absurd cc) (λ e. absurd cc))
