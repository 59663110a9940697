-- Which words of tokens in memory are reserved is as their bytes say.
use Rattle.std.specs.Prelude.{ℕ, List, Bool, true, not, ◌&&◌, ◌||◌}
use Rattle.std.specs.List.{list_all}
use Rattle.std.specs.Str.{bytes_eq}
use Rattle.tla_token.specs.declared.token.Kind.{Kind}
use Rattle.tla_token.specs.declared.token.Kind.TheVariants as code
use Rattle.tla_token.specs.declared.token.Span.{Span}
use Rattle.tla_token.specs.declared.token.Token.{Token}
use Rattle.tla_token.specs.Tokens.{stretch}
use Rattle.tla_token.specs.Signs.{is_among}
use Rattle.tla_token.specs.Words.{is_pluscal_word, tla_words, begins_fairness, is_reserved}
use Rattle.tla_token.specs.ReservedWords.{pluscal_spelling, tla_spelling}

-- begins a fairness formula, and is no other reserved word
abbrev pub is_fairness : List ℕ → Bool
is_fairness w = begins_fairness w && not (is_pluscal_word w || is_among tla_words w)

-- what a token keeps of these bytes
unfoldable pub is_kept : List ℕ → Kind → Bool
is_kept bytes (code.Name s) = not (is_reserved (stretch bytes s.from s.to))
is_kept bytes (code.PluscalWord s w) = bytes_eq (pluscal_spelling w) (stretch bytes s.from s.to)
is_kept bytes (code.TlaWord s w) = bytes_eq (tla_spelling w) (stretch bytes s.from s.to)
is_kept bytes (code.Fairness s) = is_fairness (stretch bytes s.from s.to)
is_kept bytes k = true

abbrev pub are_kept : List ℕ → List Token → Bool
are_kept bytes items = list_all (λ t. is_kept bytes t.kind) items
