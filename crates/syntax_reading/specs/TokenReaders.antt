-- Reading the tokens of an algorithm one by one: words and marks, wherever in their lines they are.
use Rattle.std.specs.Prelude.{ℕ, ◌-◌, nat_le, Bool, true, false, List, [], ◌∷◌, Option, Some, None, if◌then◌else◌}
use Rattle.std.specs.Str.{bytes_eq}
use Rattle.tla_token.specs.declared.place.Place.{Place}
use Rattle.tla_token.specs.Limits.{deepest_expression, deepest_statement}
use Rattle.tla_tree.specs.Tree.{Word, Name}
use Rattle.tla_tree.specs.Lexical.{Mark, TokenView, Token}
use Rattle.tla_tree.specs.Lexical as tk
use Rattle.tla_tree.specs.Spelling.{Phrase, Phrases}
use Rattle.tla_tree.specs.Reader.{Reader, took, refuses, too_deep, end, is_mark, place_if, free, Readers, readers}

-- the next token; at the end, one that is no token of an algorithm
abbrev pub first : List Token → Token
first [] = end
first (t ∷ ts) = t

-- by the place and kind of the next token, which stays
abbrev pub by_next : {A : Type 0} → (Place → TokenView → Reader A) → Reader A
by_next f ts = f (first ts).place (first ts).kind ts

-- past a token of which f tells something
abbrev pub past : {A : Type 0} → (Place → TokenView → Option A) → Reader A
past f = by_next (λ p k. took (f p k))

abbrev pub is_reserved : Word → TokenView → Bool
is_reserved w (tk.reserved x) = bytes_eq w x
is_reserved w k = false

abbrev pub name_of : Place → TokenView → Option Name
name_of p (tk.word x) = Some (record { place = p; word = x })
name_of p k = None

-- past this reserved word or mark: its place
abbrev pub a_key : Word → Reader Place
a_key w = past (place_if (is_reserved w))

abbrev pub a_mark : Mark → Reader Place
a_mark m = past (place_if (is_mark m))

abbrev pub a_name : Reader Name
a_name = past name_of

-- and a name at which a form opens, if one more may be open
abbrev pub name_if : Bool → Place → TokenView → Reader Name
name_if true p k = a_name
name_if false p (tk.word x) = too_deep
name_if false p k = refuses

abbrev pub name_within : Bool → Reader Name
name_within b = by_next (name_if b)

-- what a word stands for in a list, and else another thing
abbrev pub pick : {A : Type 0} → Word → List (Word × A) → A → A
pick w [] d = d
pick w ((x, a) ∷ xs) d = if bytes_eq x w then a else pick w xs d

-- the readers of expressions: by themselves, as arguments of a call, and between the brackets of a left side; and whether so many forms of statements may be open
pub record Parts : Type 0 where
  pub expr : Reader Phrase
  pub arguments : Reader Phrases
  pub subscripts : Reader Phrases
  pub room : ℕ → Bool

-- where any number of forms may be open
abbrev pub parts_of : Readers → Parts
parts_of r = record { expr = r.expr 0 free; arguments = r.phrases 0; subscripts = r.phrases 0; room = λ d. true }

-- within the limits, with so many steps for expressions; the brackets of a left side are a form round its subscripts
abbrev pub limited_parts : ℕ → Parts
limited_parts n = record {
  expr = (readers n (Some deepest_expression)).expr 0 free;
  arguments = (readers n (Some deepest_expression)).phrases 0;
  subscripts = (readers n (Some (deepest_expression - 1))).phrases 0;
  room = λ d. nat_le d deepest_statement;
}
