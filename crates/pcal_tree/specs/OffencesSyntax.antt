-- How the tokens of an algorithm are refused: at the first one that no algorithm has there, or at which too many forms are open in each.
use Rattle.std.specs.Prelude.{◌≡◌, ℕ, List, [], map, get_or}
use Rattle.tla_token.specs.declared.place.Place.{Place}
use Rattle.tla_token.specs.declared.rule.Refusal.{Refusal}
use Rattle.tla_token.specs.Tokens as text
use Rattle.tla_tree.specs.FirstStop.{Grammar, Passes, StopsAt, to_end}
use Rattle.pcal_tree.specs.AlgorithmTokens.{views}
use Rattle.pcal_tree.specs.Grammar.{Syntax, Text, Good, spell}
use Rattle.pcal_tree.specs.OpenForms.{opens}

-- algorithms of a syntax, with the end of the algorithm's comment after the tokens
abbrev pub algorithms : Syntax → Grammar
algorithms s ks ns = (x : Text) × Good s x × (to_end (spell x []) ≡ ks) × (opens x ≡ ns)

-- the tokens are those of an algorithm, and nowhere in it are too many forms open
abbrev pub PassesTokens : Syntax → List text.Token → Type 0
PassesTokens s ts = Passes (algorithms s) (to_end (views ts))

-- the tokens of an algorithm, with the place of the end after them, are refused so
pub record RefusesTokens (s : Syntax) (ts : List text.Token) (end : Place) (refusal : Refusal) : Type 0 where
  pub passed : ℕ
  pub stops : StopsAt (algorithms s) (to_end (views ts)) passed refusal.rule
  pub place : refusal.place ≡ get_or (map (λ (t : text.Token). t.place) ts) passed end
