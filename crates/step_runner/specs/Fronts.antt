-- What is at a place of a text: blanks and comments to a line's end, which are passed over, and single tokens ("Specifying Systems", section 15.1).
use Rattle.std.specs.Prelude.{ℕ, suc, ◌+◌, nat_le, List, [], ◌∷◌, length, drop, bytes_eq, option_and_then, option_map, if◌then◌else◌, Option, Some, None}
use Rattle.tla_token.specs.declared.rule.Rule.TheVariants.{BadLine}
use Rattle.tla_token.specs.declared.rule.Refusal.{Refusal}
use Rattle.tla_token.specs.Lexemes.{Kind, name, number}
use Rattle.tla_token.specs.Tokens.{blank, line, lexeme}
use Rattle.tla_token.specs.Offences.{Part, sound, part_bytes}
use Rattle.tla_token.specs.Cut.{parts}
use Rattle.tla_token.specs.Places.{place_at}
use Rattle.tla_tree.specs.Tree.{Word}

abbrev pub Text : Type 0
Text = List ℕ

-- the refusal at a byte of a text, or at its end
abbrev pub bad_line : Text → ℕ → Refusal
bad_line x at = record { rule = BadLine; place = place_at x at }

-- ---- what is passed over

-- how many bytes at the front are blanks and comments to a line's end
abbrev pub gap : List Part → ℕ
gap (sound (blank b) ∷ ps) = suc (gap ps)
gap (sound (line body) ∷ ps) = length (part_bytes (sound (line body))) + gap ps
gap _ = 0

-- the first byte from a place on that is neither
abbrev pub next_at : Text → ℕ → ℕ
next_at x at = at + gap (parts (drop at x))

-- ---- tokens

-- the token at the front, and its bytes
abbrev pub first_token : List Part → Option (Kind × Text)
first_token (sound (lexeme k bytes) ∷ ps) = Some (k, bytes)
first_token _ = None

abbrev pub token_at : Text → ℕ → Option (Kind × Text)
token_at x at = first_token (parts (drop at x))

abbrev pub name_in : ℕ → Kind × Text → Option (Word × ℕ)
name_in at (name w, bytes) = Some (w, at + length bytes)
name_in at _ = None

-- the identifier at a place, and where it ends
abbrev pub name_at : Text → ℕ → Option (Word × ℕ)
name_at x at = option_and_then (name_in at) (token_at x at)

abbrev pub end_if : Text → ℕ → Kind × Text → Option ℕ
end_if w at t = if bytes_eq w t.1 then Some (at + length w) else None

-- where the token at a place ends, if it is written so
abbrev pub past : Text → Text → ℕ → Option ℕ
past w x at = option_and_then (end_if w at) (token_at x at)

-- ---- choices

-- the largest number that is a choice
abbrev pub largest_choice : ℕ
largest_choice = 4294967295

-- the numbers that a text is, where it has nothing else
abbrev pub choices_of : List Part → Option (List ℕ)
choices_of [] = Some []
choices_of (sound (blank b) ∷ ps) = choices_of ps
choices_of (sound (line body) ∷ ps) = choices_of ps
choices_of (sound (lexeme (number n) bytes) ∷ ps) = if nat_le n largest_choice then option_map (λ ns. n ∷ ns) (choices_of ps) else None
choices_of _ = None

-- from a place to the text's end
abbrev pub choices_from : Text → ℕ → Option (List ℕ)
choices_from x at = choices_of (parts (drop at x))
