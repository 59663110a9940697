-- The first part of a module's text: as in any stretch, but that runs of four or more dashes are one sign, and no lexeme reaches into a bar
-- ("Specifying Systems", section 15.1).
use Rattle.std.specs.Prelude.{ℕ, nat_eq, [], ◌∷◌, Option, Some, None, if◌then◌else◌}
use Rattle.tla_token.specs.Lexemes.{Kind, string, other}
use Rattle.tla_token.specs.Tokens.{lexeme}
use Rattle.tla_token.specs.Offences.{Part, sound, bad_string, open_string}
use Rattle.tla_token.specs.Cut.{run, lexeme_part, part_by}
use Rattle.module_tree.specs.TextFront.{Text}
use Rattle.module_tree.specs.Beginnings.{is_rule, begins_bar}

-- a bar of dashes
abbrev pub dashes : Text → Part
dashes w = sound (lexeme (other w) w)

-- where a bar begins after a byte, that byte is cut alone
abbrev pub barred : ℕ → Text → Part
barred b s = if is_rule (b ∷ s) then dashes (run (λ c. nat_eq c 45) (b ∷ s)) else lexeme_part b (if begins_bar s then [] else s)

abbrev pub module_part : ℕ → Text → Part
module_part b s = part_by barred b s

-- what a part is to a reader: a token of this kind, also where its string is faulty
abbrev pub kind_in : Part → Option Kind
kind_in (sound (lexeme k w)) = Some k
kind_in (bad_string raw) = Some (string raw)
kind_in (open_string raw) = Some (string raw)
kind_in p = None
