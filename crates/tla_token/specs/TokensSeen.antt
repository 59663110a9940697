-- Tokens in memory, seen as the tokens of a text.
use Rattle.std.specs.Prelude.{◌≡◌, ℕ, ◌^◌, ◌<◌, ◌≤◌, true, List, [], map, All, Option, Some, None, is_some, unwrap_or}
use Rattle.tla_token.specs.declared.token.Kind.{Kind}
use Rattle.tla_token.specs.declared.token.Kind.TheVariants as code
use Rattle.tla_token.specs.declared.token.Span.{Span}
use Rattle.tla_token.specs.declared.token.Token as code_token
use Rattle.tla_token.specs.declared.token.Tokens.{Tokens}
use Rattle.tla_token.specs.Lexemes as lexemes
use Rattle.tla_token.specs.Lexemes.{name, number, string, one, other, number_of, unquoted}
use Rattle.tla_token.specs.Tokens.{Token, lexeme, stretch}
use Rattle.tla_token.specs.Offences.{Part, sound}
use Rattle.tla_token.specs.KeptWords.{is_kept}

abbrev pub span_bytes : List ℕ → Span → List ℕ
span_bytes bytes s = stretch bytes s.from s.to

-- a kind whose words are among these bytes
abbrev pub kind_seen : List ℕ → Kind → lexemes.Kind
kind_seen bytes (code.Name s) = name (span_bytes bytes s)
kind_seen bytes (code.PluscalWord s w) = name (span_bytes bytes s)
kind_seen bytes (code.TlaWord s w) = name (span_bytes bytes s)
kind_seen bytes (code.Fairness s) = name (span_bytes bytes s)
kind_seen bytes (code.Number n) = number n
kind_seen bytes (code.BigNumber s) = number (number_of (span_bytes bytes s))
kind_seen bytes (code.Text s) = string (unwrap_or (unquoted (span_bytes bytes s)) [])
kind_seen bytes (code.Sign s) = one s
kind_seen bytes (code.Other s) = other (span_bytes bytes s)

abbrev pub token_seen : List ℕ → code_token.Token → Token
token_seen bytes t = record { kind = kind_seen bytes t.kind; at = t.at; place = t.place }

abbrev pub tokens_seen : Tokens → List Token
tokens_seen v = map (token_seen v.bytes.items) v.items.items

-- ---- one form for each token

-- which word is reserved is as its bytes say, a number is kept by its digits only where it doesn't fit in 128 bits, and what is
-- between a string's quotes stands for a string
abbrev pub IsCanonical : List ℕ → Kind → Type 0
IsCanonical bytes (code.Name s) = is_kept bytes (code.Name s) ≡ true
IsCanonical bytes (code.PluscalWord s w) = is_kept bytes (code.PluscalWord s w) ≡ true
IsCanonical bytes (code.TlaWord s w) = is_kept bytes (code.TlaWord s w) ≡ true
IsCanonical bytes (code.Fairness s) = is_kept bytes (code.Fairness s) ≡ true
IsCanonical bytes (code.Number n) = n < 2 ^ 128
IsCanonical bytes (code.BigNumber s) = 2 ^ 128 ≤ number_of (span_bytes bytes s)
IsCanonical bytes (code.Text s) = is_some (unquoted (span_bytes bytes s)) ≡ true
IsCanonical bytes k = Unit {0}

abbrev pub AllCanonical : List ℕ → List code_token.Token → Type 0
AllCanonical bytes items = All (λ t. IsCanonical bytes t.kind) items

-- ---- parts

-- the kind of token that a part is
abbrev pub part_kind : Part → Option lexemes.Kind
part_kind (sound (lexeme k bytes)) = Some k
part_kind p = None
