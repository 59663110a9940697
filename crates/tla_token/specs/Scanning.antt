-- What a scanner that stands in a stretch of a text has found, and what is still to come.
use Rattle.std.specs.Prelude.{◌≡◌, ℕ, ◌+◌, ◌*◌, ◌<◌, ◌≤◌, List, [], ◌∷◌, ◌++◌, length, drop, Option, Some, None}
use Rattle.tla_token.specs.declared.place.Place.{Place}
use Rattle.tla_token.specs.declared.fault.Reading.{Reading}
use Rattle.tla_token.specs.declared.scan.Scan.{Scan}
use Rattle.tla_token.specs.Places.{after}
use Rattle.tla_token.specs.Lexemes.{Kind}
use Rattle.tla_token.specs.Tokens.{Token}
use Rattle.tla_token.specs.Offences.{Part, part_bytes, Offence, least}
use Rattle.tla_token.specs.Cut.{parts}
use Rattle.tla_token.specs.Scan.{IsWordless}
use Rattle.tla_token.specs.Readings.{offences_in, joined, last_quote}
use Rattle.tla_token.specs.TokensSeen.{part_kind}

abbrev pub token_at : Place → ℕ → Option Kind → List Token
token_at p at None = []
token_at p at (Some k) = record { kind = k; at = at; place = p } ∷ []

-- the lexemes among parts, also where others are faulty
abbrev pub lexemes_of : Place → ℕ → List Part → List Token
lexemes_of p at [] = []
lexemes_of p at (x ∷ xs) = token_at p at (part_kind x) ++ lexemes_of (after p (part_bytes x)) (at + length (part_bytes x)) xs

-- what is found in all: tokens, the offence that counts, the place of the end, and the quote of a string that is open there
pub record Outcome : Type 0 where
  pub tokens : List Token
  pub offence : Option Offence
  pub end : Place
  pub quote : Option ℕ

-- found so far are these tokens and what the scanner knows, and this is still to come of a stretch that begins at `from`
unfoldable pub outcome : Reading → ℕ → List Token → Scan → List ℕ → Outcome
outcome r from ts s rest =
    record {
      tokens = ts ++ lexemes_of s.place (from + s.at) (parts rest);
      offence = joined s.fault (least (offences_in r (from + s.at) (parts rest)));
      end = after s.place rest;
      quote = last_quote (from + s.at) s.quote (parts rest);
    }

-- it stands in these bytes, which begin at `from` in the text
pub record Stands (from : ℕ) (bytes : List ℕ) (s : Scan) : Type 0 where
  pub within : s.at ≤ length bytes
  pub line : s.place.line ≤ 1 + (from + s.at)
  pub col : s.place.col ≤ 1 + 8 * (from + s.at)
  pub wordless : IsWordless s.wordless (drop s.at bytes)

-- one part further, or at the end
abbrev pub GoesOn : Reading → ℕ → List ℕ → List Token → List Token → Scan → Option Scan → Type 0
GoesOn r from bytes ts us s None = (length bytes ≤ s.at) × (us ≡ ts)
GoesOn r from bytes ts us s (Some t) = (s.at < t.at) × Stands from bytes t × (outcome r from ts s (drop s.at bytes) ≡ outcome r from us t (drop t.at bytes))
