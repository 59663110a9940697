-- Where reading stops: at the first token that no spelled text has there, or at which too many forms are open in each.
use Rattle.std.specs.Prelude.{◌≡◌, ◌⊎◌, ℕ, suc, ◌+◌, ◌*◌, ◌<◌, ◌≤◌, ◌&&◌, Bool, nat_le, List, [], ◌∷◌, ◌++◌, length, take, map, get_or, Option, Some, None}
use Rattle.std.specs.Bool.{IsTrue}
use Rattle.std.specs.List.{list_all}
use Rattle.tla_token.specs.declared.place.Place.{Place}
use Rattle.tla_token.specs.declared.rule.Rule.{Rule}
use Rattle.tla_token.specs.declared.rule.Rule.TheVariants.{TooDeep, Syntax}
use Rattle.tla_token.specs.declared.rule.Refusal.{Refusal}
use Rattle.tla_token.specs.Limits.{deepest_expression, deepest_statement}
use Rattle.tla_tree.specs.Tree.{Tree}
use Rattle.tla_tree.specs.Lexical.{TokenView, Token}
use Rattle.tla_tree.specs.Spelling.{Phrase, Good, spell, Spells}
use Rattle.tla_tree.specs.Nesting.{counts}
use Rattle.tla_tree.specs.NeedsLists.{completion}

-- ---- what a grammar looks at of a token: its kind and its column. Lines are only where a fault is said to be.

abbrev pub Look : Type 0
Look = TokenView × ℕ

abbrev pub look : Token → Look
look t = (t.kind, t.place.col)

abbrev pub looks : List Token → List Look
looks ts = map look ts

-- with the end after the tokens, which counts as one more
abbrev pub to_end : List Token → List (Option Look)
to_end ts = map Some (looks ts) ++ None ∷ []

-- ---- forms that are open at a token

pub record Open : Type 0 where
  pub expressions : ℕ
  pub statements : ℕ

abbrev pub is_within : Open → Bool
is_within o = nat_le o.expressions deepest_expression && nat_le o.statements deepest_statement

-- ---- grammars

-- what a grammar spells: the tokens as they are looked at, maybe with the end after them, and the forms that are open at each
abbrev pub Grammar : Type 1
Grammar = List (Option Look) → List Open → Type 0

-- some spelled text begins with these tokens
abbrev pub Begins : Grammar → List (Option Look) → Type 0
Begins G ks = (more : List (Option Look)) × (ns : List Open) × G (ks ++ more) ns

-- and at none of them too many forms are open
abbrev pub Passes : Grammar → List (Option Look) → Type 0
Passes G ks = (more : List (Option Look)) × (ns : List Open) × G (ks ++ more) ns × IsTrue (list_all is_within (take (length ks) ns))

-- the rule by which these tokens don't pass: too many forms are open in each text that begins with them, or there is none
abbrev pub StopRule : Grammar → List (Option Look) → Rule → Type 0
StopRule G ks r = ((r ≡ TooDeep) × Begins G ks) ⊎ ((r ≡ Syntax) × (Begins G ks → ⊥))

-- the first n tokens pass, and with the next one they don't
pub record StopsAt (G : Grammar) (ks : List (Option Look)) (n : ℕ) (r : Rule) : Type 0 where
  pub there : n < length ks
  pub passed : Passes G (take n ks)
  pub stopped : Passes G (take (suc n) ks) → ⊥
  pub rule : StopRule G (take (suc n) ks) r

-- ---- one expression

abbrev pub in_expression : ℕ → Open
in_expression n = record { expressions = n; statements = 0 }

-- phrases, each token to the right of the edge
abbrev pub phrases : ℕ → Grammar
phrases e ks ns = (a : Phrase) × Good e a × (map Some (looks (spell a [])) ≡ ks) × (map in_expression (counts 0 a []) ≡ ns)

-- one expression is read from these tokens on: it goes up to the first one that can't be in it
pub record ReadsExpression (ts : List Token) (n : ℕ) (t : Tree) : Type 0 where
  pub stops : StopsAt (phrases 0) (to_end ts) n Syntax
  pub spelled : Spells (take n ts) t

-- the tokens that are wanted behind some tokens complete them to an expression: at most 16 for each form that is open at the first of them, and one
pub record Completes (e : ℕ) (passed : List Token) : Type 0 where
  pub whole : Phrase
  pub good : Good e whole
  pub spelled : spell whole [] ≡ passed ++ completion e passed
  pub few : length (completion e passed) ≤ 16 * get_or (counts 0 whole []) (length passed) 0 + 1

-- it is refused: at a token at which too many forms are open, or at one that can't be in it where those before it are no expression; what is wanted there completes these
pub record RefusesExpression (ts : List Token) (end : Place) (refusal : Refusal) : Type 0 where
  pub passed : ℕ
  pub stops : StopsAt (phrases 0) (to_end ts) passed refusal.rule
  pub place : refusal.place ≡ get_or (map (λ (t : Token). t.place) ts) passed end
  pub unread : (t : Tree) → ReadsExpression ts passed t → ⊥
  pub completed : Completes 0 (take passed ts)
