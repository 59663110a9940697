-- The one refusal by which the tokens of an algorithm are answered: by what they offend one by one, by where reading them stops, and by what is past a limit in
-- the algorithm that they spell.
use Rattle.std.specs.Prelude.{◌≡◌, Bool, nat_le, List, [], ◌∷◌, ◌++◌, Option, Some, None}
use Rattle.tla_token.specs.declared.place.Place.{Place}
use Rattle.tla_token.specs.declared.rule.Refusal.{Refusal}
use Rattle.tla_token.specs.Rules.{rule_number}
use Rattle.tla_token.specs.Tokens as text
use Rattle.pcal_tree.specs.Algorithm.{Algorithm}
use Rattle.pcal_tree.specs.Grammar.{Syntax, Spells}
use Rattle.pcal_tree.specs.Offences.{first}
use Rattle.pcal_tree.specs.OffencesSyntax.{PassesTokens, RefusesTokens}
use Rattle.pcal_tree.specs.OffencesCounts.{count_offences}
use Rattle.algorithm_answer.specs.TokensRefused.{token_refusals}

-- all tokens pass, and then their end; or the first one that doesn't is refused so
abbrev pub AreRead : Syntax → List text.Token → Place → Option Refusal → Type 0
AreRead s ts end None = PassesTokens s ts
AreRead s ts end (Some r) = RefusesTokens s ts end r

-- where they pass, what is past a limit in the algorithm that they spell
abbrev pub AreCounted : Syntax → List text.Token → Option Refusal → List Refusal → Type 0
AreCounted s ts (Some r) counts = counts ≡ []
AreCounted s ts None counts = (g : Algorithm) × Spells s ts g × (counts ≡ count_offences g)

-- where reading stops, nothing is counted
abbrev pub or_counts : Option Refusal → List Refusal → List Refusal
or_counts (Some r) counts = r ∷ []
or_counts None counts = counts

-- the tokens of an algorithm, with the place of the end after them, are answered so: by none, where they are an algorithm's within the limits
pub record AreAnswered (s : Syntax) (ts : List text.Token) (end : Place) (answer : Option Refusal) : Type 0 where
  pub syntax : Option Refusal
  pub counts : List Refusal
  pub read : AreRead s ts end syntax
  pub counted : AreCounted s ts syntax counts
  pub is : answer ≡ first (token_refusals ts ++ or_counts syntax counts)

-- by a rule on how an algorithm is spelled
abbrev pub of_spelling : Refusal → Bool
of_spelling r = nat_le (rule_number r.rule) 15
