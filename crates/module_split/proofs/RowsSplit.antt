-- Worked examples of what is read off a file before its algorithm is read, by computation.
use Rattle.std.specs.Prelude.{◌≡◌, [], ◌∷◌, true, false, codes}
use Rattle.std.proofs.Common.{refl}
use Rattle.tla_token.specs.declared.rule.Rule.TheVariants.{NumberTooBig, Options}
use Rattle.tla_token.specs.declared.part.Class.TheVariants as class
use Rattle.tla_token.specs.Lexemes.{name}
use Rattle.tla_token.specs.Offences.{sound}
use Rattle.tla_token.specs.Tokens.{lexeme}
use Rattle.module_split.specs.declared.stand.Shape.TheVariants as shape
use Rattle.module_split.specs.declared.algorithm.Stage.TheVariants as code
use Rattle.module_tree.specs.TextFront.{Text}
use Rattle.module_tree.specs.AlgorithmText.{open_c, is_token_byte, in_tokens}
use Rattle.module_split.specs.StandsSeen.{is_string}
use Rattle.module_tree.specs.FileOffences.{file_offences, is_splitting, splitting_offences}
use Rattle.module_split.specs.AlgorithmSeen.{stage_seen, depth, part_rest}

abbrev big : Text
big = codes "---- MODULE M ----\n(* --algorithm A { 170141183460469231731687303715884105728 } *)\n====\n"

big_number : file_offences big ≡ (NumberTooBig, 38) ∷ []
big_number = refl

left_to_the_reader : splitting_offences big ≡ []
left_to_the_reader = refl

rule_ten : is_splitting (Options, 3) ≡ true
rule_ten = refl

rule_twelve : is_splitting (NumberTooBig, 3) ≡ false
rule_twelve = refl

in_braces : stage_seen (code.OpenC 2) ≡ open_c 2
in_braces = refl

no_braces : depth (code.Head 1) ≡ 0
no_braces = refl

-- a string reaches past its comment's end
whole_line : part_rest 2 4 (codes "x \"a*)\"") ≡ codes "\"a*)\""
whole_line = refl

comment_alone : part_rest 0 2 (codes "x \"a*)\"") ≡ codes "x "
comment_alone = refl

byte_of_token : is_token_byte 3 (2, sound (lexeme (name (codes "ab")) (codes "ab"))) ≡ true
byte_of_token = refl

byte_after_token : in_tokens ((2, sound (lexeme (name (codes "ab")) (codes "ab"))) ∷ []) 4 ≡ false
byte_after_token = refl

quoted_shape : is_string (shape.Part class.Text) ≡ true
quoted_shape = refl
