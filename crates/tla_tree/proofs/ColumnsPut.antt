-- A phrase again, from tokens of the same kinds in the same columns.
use Rattle.std.proofs.Common.{◌≡◌, List, ◌∷◌}
use Rattle.tla_token.specs.declared.place.Place.{Place}
use Rattle.tla_tree.specs.Lexical.{TokenView, Token, token}
use Rattle.tla_tree.specs.Spelling.{Phrase, Phrases, spell, spell_all}
use Rattle.tla_tree.specs.FirstStop.{looks}
use Rattle.tla_tree.specs.laws.Columns.{column_of, lineless_place, lineless, lineless_all}
use Rattle.tla_tree.proofs.Placed as placed

-- something that is spelled, again from us, and what is left of these
pub record Put (A : Type 0) (bare : A → A) (spells : A → List Token → List Token) (x : A) (ts us : List Token) : Type 0 where
  pub again : A
  pub rest : List Token
  pub tokens : spells again rest ≡ us
  pub same : bare again ≡ bare x
  pub looks_same : looks rest ≡ looks ts

pub one_token : (p : Place) (k : TokenView) (ts us : List Token) → looks us ≡ looks (token p k ∷ ts) → Put Place lineless_place (λ q vs. token q k ∷ vs) p ts us
one_token p k ts us h = (let v = placed.one_token column_of p k ts us h in record { again = v.again; rest = v.rest; tokens = v.tokens; same = v.same; looks_same = v.looks_same })

pub put : (x : Phrase) (ts us : List Token) → looks us ≡ looks (spell x ts) → Put Phrase lineless spell x ts us
put x ts us h = (let v = placed.place column_of x ts us h in record { again = v.again; rest = v.rest; tokens = v.tokens; same = v.same; looks_same = v.looks_same })

pub put_all : (x : Phrases) (ts us : List Token) → looks us ≡ looks (spell_all x ts) → Put Phrases lineless_all spell_all x ts us
put_all x ts us h = (let v = placed.place_all column_of x ts us h in record { again = v.again; rest = v.rest; tokens = v.tokens; same = v.same; looks_same = v.looks_same })
