-- What is missing where the reading of some tokens is refused: how that goes from readers to those that are made of them.
use Rattle.std.specs.Prelude.{ℕ, List, [], ◌∷◌, ◌++◌}
use Rattle.tla_token.specs.declared.place.Place.{Place}
use Rattle.tla_token.specs.Places.{nowhere}
use Rattle.tla_tree.specs.Tree.{Word, Name}
use Rattle.tla_tree.specs.Lexical.{Mark, TokenView, Token}
use Rattle.tla_tree.specs.Spelling.{Phrase}
use Rattle.tla_tree.specs.declared.op.Op.TheVariants as op
use Rattle.tla_tree.specs.Reader.{Reader, free, tail, next}
use Rattle.tla_tree.specs.Wanted.{an_x, completing, or_then, number_at}
use Rattle.tla_tree.specs.NeedsLists.{needs}
use Rattle.pcal_tree.specs.GrammarParts.{key, mark, sign, word}
use Rattle.syntax_reading.specs.TokenReaders.{first, a_key, a_mark, a_name, Parts}

-- the tokens that complete what was read of these before they were refused
abbrev pub Missing : Type 0
Missing = List Token → List Token

-- ---- readers that are made of others
-- a part, and what comes after it: after a part that had to be completed, the shortest
abbrev pub then_misses : {A : Type 0} → Reader A → Missing → List Token → (A → Missing) → Missing
then_misses r n shortest f ts = or_then (r ts) (n ts ++ shortest) f

-- the same of a part of which it is told what is missing of all that comes after it too
abbrev pub goes_on_missing : {A : Type 0} → Reader A → Missing → (A → Missing) → Missing
goes_on_missing r n f ts = or_then (r ts) (n ts) f

-- by the place and kind of the next token
abbrev pub by_next_misses : (Place → TokenView → Missing) → Missing
by_next_misses f ts = f (first ts).place (first ts).kind ts

-- of the next token of an expression
abbrev pub peek_misses : (Place → TokenView → Missing) → Missing
peek_misses f ts = f (next 0 ts).place (next 0 ts).kind ts

-- past the next token
abbrev pub past_misses : Missing → Missing
past_misses n ts = n (tail ts)

-- where nothing of it was read
abbrev pub all_of : List Token → Missing
all_of ws ts = ws

-- where all that was passed is read, nothing; and else what is missing of it
abbrev pub completed_by : {A : Type 0} → Reader A → Missing → List Token → List Token
completed_by r n passed = or_then (r passed) (n passed) (λ x. all_of [])

-- ---- single tokens
abbrev pub an_identifier : List Token → List Token
an_identifier ts = word nowhere an_x ts

abbrev pub an_equal : List Token → List Token
an_equal ts = sign nowhere op.Equal ts

abbrev pub a_number : List Token → List Token
a_number ts = number_at 0 ∷ ts

abbrev pub key_then : Word → List Token → (Place → Missing) → Missing
key_then w = then_misses (a_key w) (all_of (key nowhere w []))

abbrev pub mark_then : Mark → List Token → (Place → Missing) → Missing
mark_then m = then_misses (a_mark m) (all_of (mark nowhere m []))

abbrev pub name_then : List Token → (Name → Missing) → Missing
name_then = then_misses a_name (all_of (an_identifier []))

-- ---- expressions: by themselves, as arguments of a call, and between the brackets of a left side
pub record PartsMiss : Type 0 where
  pub expr : Missing
  pub arguments : Missing
  pub subscripts : Missing

-- with so many steps for them
abbrev pub parts_miss : ℕ → PartsMiss
parts_miss n = record {
  expr = λ ts. completing ((needs n).expr 0 free ts);
  arguments = λ ts. completing ((needs n).phrases 0 ts);
  subscripts = λ ts. completing ((needs n).phrases 0 ts);
}

abbrev pub expr_then : Parts → PartsMiss → List Token → (Phrase → Missing) → Missing
expr_then m w = then_misses m.expr w.expr
