-- What a refusal within a bound says of reading without one.
use Rattle.std.specs.Prelude.{◌≡◌, ◌⊎◌, ◌<◌, ℕ, false, List, Ok, Err}
use Rattle.tla_token.specs.declared.rule.Rule.{Rule}
use Rattle.tla_token.specs.declared.rule.Rule.TheVariants.{TooDeep, Syntax}
use Rattle.tla_tree.specs.Lexical.{Token}
use Rattle.tla_tree.specs.Spelling.{Phrase}
use Rattle.tla_tree.specs.Nesting.{nesting_in}
use Rattle.tla_tree.specs.Reader.{Out}

-- no expression is there, and reading stops at the same token; or what is there opens too many forms
abbrev pub BoundedRefuses : ℕ → Out Phrase → Rule → List Token → Type 0
BoundedRefuses l o r us = ((r ≡ Syntax) × ((q : Rule) × (o ≡ Err (q, us)))) ⊎ ((r ≡ TooDeep) × ((a : Phrase) (rest : List Token) → o ≡ Ok (a, rest) → l < nesting_in false a))
