-- Worked examples of whole files, by computation.
use Rattle.std.specs.Prelude.{◌≡◌, ℕ, ◌+◌, List, [], ◌∷◌, ◌++◌, length, Bool, true, false, Option, Some, None, codes}
use Rattle.std.proofs.Common.{refl}
use Rattle.tla_token.specs.declared.rule.Rule.{Rule}
use Rattle.tla_token.specs.declared.rule.Rule.TheVariants.{NotAscii, BadToken, OpenComment, OpenString, NoModule, NoAlgorithm, TwoAlgorithms, BadRegion, Placement, Options, NumberTooBig}
use Rattle.tla_token.specs.Places.{place_at}
use Rattle.tla_token.specs.Tokens.{blank, block, stretch}
use Rattle.tla_token.specs.Offences.{sound, least}
use Rattle.tla_tree.specs.Lexical.{Token}
use Rattle.module_tree.specs.TextFront.{Text, on_some}
use Rattle.module_tree.specs.Walk.{header, part, walk}
use Rattle.module_tree.specs.FileParts.{holds_algorithm, before_first, after_first, title, region_of, spot, before_spot, after_spot, inside_region}
use Rattle.module_tree.specs.WithTranslation.{WithTranslation, Swapped}
use Rattle.module_tree.specs.AlgorithmText.{AlgorithmText, Stage, open_p, past_p, past_c, is_c, algorithm_in, algorithm_tokens}
use Rattle.module_tree.specs.FileUnits.{units_in}
use Rattle.module_tree.specs.FileOffences.{file_offences}
use Rattle.module_tree.specs.laws.Kept.{IsFine, TokensMoved, AlgorithmMoved}
use Rattle.module_tree.specs.laws.Swaps.{is_paired, segments, SwapsComment, BeginsThere}

abbrev head : Text
head = codes "---- MODULE M ----\n"

abbrev algorithm_text : Text
algorithm_text = codes "(*\n--algorithm A\nbegin\n  L: skip;\nend algorithm\n*)\n"

abbrev region_text : Text
region_text = codes "\\* BEGIN TRANSLATION\nold\n\\* END TRANSLATION\n"

abbrev foot : Text
foot = codes "====\n"

-- the rule that is broken, and the line and column
abbrev refusal : Text → Option (Rule × (ℕ × ℕ))
refusal x = on_some (least (file_offences x)) (λ o. let p = place_at x o.1 in Some (o.0, (p.line, p.col)))

-- the algorithm's bytes, and how they end
abbrev found_in : Text → Option (Text × Stage)
found_in x = on_some (algorithm_in x) (λ a. Some (stretch x a.from a.rest.to, a.rest.stage))

abbrev spot_in : Text → Option (ℕ × ℕ)
spot_in x = on_some (spot (walk x)) (λ r. Some (r.from, r.to))

-- the line in which each unit begins, and how many tokens it has
abbrev sizes : List (List Token) → List (ℕ × ℕ)
sizes [] = []
sizes ([] ∷ us) = sizes us
sizes ((t ∷ ts) ∷ us) = (t.place.line, 1 + length ts) ∷ sizes us

abbrev sizes_in : Text → List (ℕ × ℕ)
sizes_in x = sizes (units_in (walk x)).units

-- ---- a file, and each rule at its place

sound_file : refusal (head ++ algorithm_text ++ foot) ≡ None
sound_file = refl

sound_with_region : refusal (head ++ algorithm_text ++ region_text ++ codes "Inv == TRUE\n" ++ foot) ≡ None
sound_with_region = refl

not_ascii : refusal (head ++ codes "x " ++ (233 ∷ []) ++ codes "\n" ++ algorithm_text ++ foot) ≡ Some (NotAscii, (2, 3))
not_ascii = refl

control_byte : refusal (head ++ codes "x " ++ (1 ∷ []) ++ codes "\n" ++ algorithm_text ++ foot) ≡ Some (BadToken, (2, 3))
control_byte = refl

in_the_algorithm : refusal (head ++ codes "(* --algorithm A { " ++ (233 ∷ []) ++ codes " } " ++ (1 ∷ []) ++ codes " *)\n" ++ foot) ≡ Some (NotAscii, (2, 20))
in_the_algorithm = refl

after_the_algorithm : refusal (head ++ codes "(* --algorithm A { } " ++ (233 ∷ []) ++ codes " *)\n" ++ foot) ≡ None
after_the_algorithm = refl

bad_escape : refusal (head ++ algorithm_text ++ codes "A == \"a\\q\"\n" ++ foot) ≡ Some (BadToken, (8, 6))
bad_escape = refl

open_comment : refusal (head ++ algorithm_text ++ codes "A == 1 (* (* x *)\n" ++ foot) ≡ Some (OpenComment, (8, 8))
open_comment = refl

open_string : refusal (head ++ algorithm_text ++ codes "A == \"x\n" ++ foot) ≡ Some (OpenString, (8, 6))
open_string = refl

no_header : refusal (codes "x\n") ≡ Some (NoModule, (2, 1))
no_header = refl

no_end : refusal (head ++ algorithm_text) ≡ Some (NoModule, (8, 1))
no_end = refl

no_algorithm : refusal (head ++ codes "(* --algorithm 12 *)\n" ++ foot) ≡ Some (NoAlgorithm, (3, 1))
no_algorithm = refl

second_algorithm : refusal (head ++ algorithm_text ++ codes "(* --algorithm B *)\n" ++ foot) ≡ Some (TwoAlgorithms, (8, 4))
second_algorithm = refl

begin_without_end : refusal (head ++ algorithm_text ++ codes "\\* BEGIN TRANSLATION\n" ++ foot) ≡ Some (BadRegion, (8, 1))
begin_without_end = refl

end_without_begin : refusal (head ++ algorithm_text ++ codes "  \\*END TRANSLATION x\n" ++ foot) ≡ Some (BadRegion, (8, 1))
end_without_begin = refl

second_region : refusal (head ++ algorithm_text ++ region_text ++ region_text ++ foot) ≡ Some (BadRegion, (11, 1))
second_region = refl

no_unit : refusal (head ++ algorithm_text ++ codes " x\n" ++ foot) ≡ Some (Placement, (8, 2))
no_unit = refl

after_the_comment : refusal (head ++ codes "(* --algorithm A { } *) \\* x\n" ++ foot) ≡ Some (Placement, (2, 25))
after_the_comment = refl

second_header : refusal (head ++ algorithm_text ++ codes " ---- MODULE N ----\n" ++ foot) ≡ Some (Placement, (8, 1))
second_header = refl

options : refusal (head ++ codes "(* PlusCal\n options (wf) *)\n" ++ algorithm_text ++ foot) ≡ Some (Options, (2, 4))
options = refl

number_too_big : refusal (head ++ codes "(* --algorithm A { 170141183460469231731687303715884105728 } *)\n" ++ foot) ≡ Some (NumberTooBig, (2, 20))
number_too_big = refl

number_outside : refusal (head ++ codes "A == 170141183460469231731687303715884105728\n" ++ algorithm_text ++ foot) ≡ None
number_outside = refl

free_text : refusal (codes "(* \"\n" ++ head ++ algorithm_text ++ foot ++ codes "(* " ++ (233 ∷ []) ++ codes " \" --algorithm B\n") ≡ None
free_text = refl

least_rule_first : refusal (head ++ codes "(* --algorithm A { \"\n") ≡ Some (OpenComment, (2, 1))
least_rule_first = refl

-- ---- comments, strings and signs are where the cutting has them

and_before_a_star : sizes_in (head ++ algorithm_text ++ codes "A == TRUE /\\* c\n" ++ foot) ≡ (8, 6) ∷ []
and_before_a_star = refl

tab_in_a_string : refusal (head ++ algorithm_text ++ codes "A == \"a\tb (*\"\n" ++ foot) ≡ Some (OpenString, (8, 6))
tab_in_a_string = refl

backslash_ends_the_line : refusal (head ++ algorithm_text ++ codes "A == \"a\\\n" ++ foot) ≡ Some (OpenString, (8, 6))
backslash_ends_the_line = refl

dashes_and_an_arrow : refusal (head ++ algorithm_text ++ region_text ++ codes "  ----> x\n" ++ foot) ≡ None
dashes_and_an_arrow = refl

end_after_a_sign : sizes_in (head ++ algorithm_text ++ codes "A == 1 <====\n") ≡ (8, 4) ∷ []
end_after_a_sign = refl

-- ---- nothing inside the region is looked at

old_algorithm : found_in (head ++ codes "\\* BEGIN TRANSLATION\n(* --algorithm Old { } *)\n\\* END TRANSLATION\n" ++ codes "(* --algorithm A { } *)\n" ++ foot) ≡ Some (codes "--algorithm A { }", past_c)
old_algorithm = refl

end_in_the_region : found_in (head ++ codes "\\* BEGIN TRANSLATION\n==== \"\n\\* END TRANSLATION\n" ++ codes "(* --algorithm A { } *)\n" ++ foot) ≡ Some (codes "--algorithm A { }", past_c)
end_in_the_region = refl

-- ---- strings are tokens

string_after_the_region : refusal (head ++ algorithm_text ++ region_text ++ codes "\"s\"\n" ++ foot) ≡ Some (Placement, (11, 1))
string_after_the_region = refl

string_in_the_end : found_in (head ++ codes "(* --algorithm A end \"x\" algorithm end (* c *) algorithm x *)\n" ++ foot) ≡ Some (codes "--algorithm A end \"x\" algorithm end (* c *) algorithm", past_p)
string_in_the_end = refl

string_before_the_brace : found_in (head ++ codes "(* --algorithm A \"x\" { } *)\n" ++ foot) ≡ Some (codes "--algorithm A \"x\" { } ", open_p false)
string_before_the_brace = refl

-- ---- the algorithm is within its comment

after_equal_signs : refusal (head ++ codes "(* --algorithm A { ==== (* --algorithm B *) } *)\n" ++ foot) ≡ Some (TwoAlgorithms, (2, 28))
after_equal_signs = refl

in_its_tokens : refusal (head ++ codes "(* --algorithm A { \"--algorithm B\" --algorithm C } *)\n" ++ foot) ≡ None
in_its_tokens = refl

in_a_line_comment : refusal (head ++ codes "(* --algorithm A { \\* the --algorithm\n B } *)\n" ++ foot) ≡ Some (TwoAlgorithms, (2, 27))
in_a_line_comment = refl

without_its_end : found_in (head ++ codes "(* --algorithm A begin *)\nend == algorithm\n" ++ foot) ≡ Some (codes "--algorithm A begin ", open_p false)
without_its_end = refl

in_an_inner_comment : found_in (head ++ codes "(* (* --fair algorithm A { *) { } } *)\n" ++ foot) ≡ Some (codes "--fair algorithm A { *) { } }", past_c)
in_an_inner_comment = refl

string_past_the_comment : refusal (head ++ codes "(* --algorithm A print \"a *) b\"\n" ++ foot) ≡ Some (BadToken, (2, 24))
string_past_the_comment = refl

open_past_the_comment : refusal (head ++ codes "(* --algorithm A print \"a\\q (* *)\n*)\n" ++ foot) ≡ Some (OpenString, (2, 24))
open_past_the_comment = refl

-- ---- units and the place of the translation

word_in_column_one : sizes_in (head ++ codes "Max(a, b) ==\nIF a > b THEN a\nELSE b\nCONSTANT C\n" ++ algorithm_text ++ foot) ≡ (2, 15) ∷ (5, 2) ∷ []
word_in_column_one = refl

two_blanks_in_the_mark : refusal (head ++ algorithm_text ++ codes "\\* BEGIN TRANSLATION\n\\* END  TRANSLATION\n" ++ foot) ≡ Some (BadRegion, (8, 1))
two_blanks_in_the_mark = refl

put_after_the_comment : spot_in (head ++ codes "(*\n--algorithm A { }\n*) \nA == 1\n" ++ foot) ≡ Some (44, 44)
put_after_the_comment = refl

old_region : spot_in (head ++ region_text ++ algorithm_text ++ foot) ≡ Some (19, 62)
old_region = refl

-- ---- what is read off

file_title : title (walk (codes "free\n" ++ head ++ algorithm_text ++ foot)) ≡ Some (codes "M")
file_title = refl

abbrev with_region : Text
with_region = head ++ codes "A == 1\n" ++ algorithm_text ++ codes "\\* BEGIN TRANSLATION\nB == 2\nC == 3\n\\* END TRANSLATION\nD == 4\n" ++ foot

-- the units before the region, in it and after it
units_before : sizes (units_in (before_spot (walk with_region))).units ≡ (2, 3) ∷ []
units_before = refl

units_inside : on_some (region_of (walk with_region)) (λ d. Some (sizes (units_in (inside_region d)).units)) ≡ Some ((10, 3) ∷ (11, 3) ∷ [])
units_inside = refl

units_after : sizes (units_in (after_spot (walk with_region))).units ≡ (13, 3) ∷ []
units_after = refl

-- the first word is one token, and dashes in an algorithm are signs
abbrev with_dashes : Text
with_dashes = head ++ codes "(* --fair algorithm A { ----x } *)\n" ++ foot

algorithm_size : on_some (algorithm_in with_dashes) (λ a. Some (length (algorithm_tokens with_dashes a))) ≡ Some 10
algorithm_size = refl

translated : WithTranslation (head ++ algorithm_text ++ foot) (codes "A == 1\n") (head ++ algorithm_text ++ codes "\\* BEGIN TRANSLATION\nA == 1\n\\* END TRANSLATION\n" ++ foot)
translated = record { at = record { from = 70; to = 70 }; is_spot = refl; is = refl }

translated_again : WithTranslation (head ++ algorithm_text ++ region_text ++ foot) (codes "A == 1\n") (head ++ algorithm_text ++ codes "\\* BEGIN TRANSLATION\nA == 1\n\\* END TRANSLATION\n" ++ foot)
translated_again = record { at = record { from = 70; to = 113 }; is_spot = refl; is = refl }

swapped : Swapped (head ++ codes "(* --algorithm A { } *)\n" ++ foot) (codes "B") (head ++ codes "(* B *)\n" ++ foot)
swapped = record { old = _; is_old = refl; is = refl }

-- whether a brace follows the algorithm's name
abbrev in_c : Text → Option Bool
in_c x = on_some (algorithm_in x) (λ a. Some (is_c a.rest.stage))

in_p_syntax : in_c (head ++ algorithm_text ++ foot) ≡ Some false
in_p_syntax = refl

-- also where its end is missing
in_c_syntax : in_c (head ++ codes "(*\n--algorithm A { { L: skip; }\n*)\n" ++ foot) ≡ Some true
in_c_syntax = refl

-- ---- an algorithm after a region that has grown by a line of four bytes

abbrev algorithm_there : Text → AlgorithmText
algorithm_there x = by (algorithm_in x)
  where
    by : Option AlgorithmText → AlgorithmText
    by (Some a) = a
    by None = record { from = 0; opening = []; rest = record { parts = []; stage = past_c; to = 0 } }

abbrev one_line : Text
one_line = head ++ region_text ++ codes "(* --algorithm A { } *)\n" ++ foot

abbrev two_lines : Text
two_lines = head ++ codes "\\* BEGIN TRANSLATION\nold\nold\n\\* END TRANSLATION\n(* --algorithm A { } *)\n" ++ foot

grown : TokensMoved 0 4 0 1 (algorithm_tokens one_line (algorithm_there one_line)) (algorithm_tokens two_lines (algorithm_there two_lines))
grown = (refl, (refl, refl, refl), (refl, (refl, refl, refl), (refl, (refl, refl, refl), (refl, (refl, refl, refl), tt))))

moved : AlgorithmMoved one_line two_lines (algorithm_there one_line) (algorithm_there two_lines)
moved = record { bytes_here = 0; bytes_there = 4; lines_here = 0; lines_there = 1; tokens = grown }

-- neither is refused
fine_before : IsFine one_line
fine_before = refl

fine_after : IsFine two_lines
fine_after = refl

-- ---- texts that open and close comments only within themselves

paired : is_paired 0 (codes "--algorithm A (* (* *) *) { }") ≡ true
paired = refl

-- a line comment with a lone mark, and a mark that something else would make whole
unpaired : is_paired 0 (codes "--algorithm A \\* (*\n{ }") ≡ false
unpaired = refl

unended : is_paired 0 (codes "--algorithm A *") ≡ false
unended = refl

without_places : segments (walk (codes "---- MODULE M ----\n\n")) ≡ header (codes "---- MODULE M ----\n") ∷ part (sound (blank 10)) ∷ []
without_places = refl

-- ---- another algorithm in a comment

abbrev before_swap : Text
before_swap = head ++ codes "(* --algorithm A { } *) \n" ++ foot

abbrev after_swap : Text
after_swap = head ++ codes "(* --algorithm B {\n} *) \n" ++ foot

swapped_comment : SwapsComment before_swap (codes "--algorithm B {\n}") after_swap (algorithm_there before_swap)
swapped_comment = record {
  before = before_first holds_algorithm (walk before_swap);
  comment = record { at = 19; place = record { line = 2; col = 1 }; is = part (sound (block (codes " --algorithm A { } *)"))) };
  after = after_first holds_algorithm (walk before_swap);
  walked = refl;
  there = part (sound (block (codes " --algorithm B {\n} *)")));
  after_there = after_first holds_algorithm (walk after_swap);
  walked_there = refl;
  same_after = refl;
  front = codes " ";
  back = codes " ";
  at = refl;
  held = refl;
  holds = refl;
  sound = refl;
}

begins_there : BeginsThere (codes "--algorithm B {\n}") after_swap (algorithm_there before_swap)
begins_there = record { algorithm = algorithm_there after_swap; is_algorithm = refl; from = refl; opening = refl; behind = codes " "; begun = refl; none_behind = refl; placed = refl }
