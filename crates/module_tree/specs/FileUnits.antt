-- The tokens of a module, and how they are cut into units: each begins in column 1 with an identifier or one of these words, or at a bar of dashes
-- ("Specifying Systems", section 15.2).
use Rattle.std.specs.Prelude.{◌&&◌, ◌||◌, Bool, true, false, nat_eq, List, [], ◌∷◌, Option, Some, None, option_map, codes}
use Rattle.tla_token.specs.Lexemes.{Kind, other}
use Rattle.tla_token.specs.Tokens as text
use Rattle.tla_token.specs.Signs.{is_among}
use Rattle.tla_tree.specs.Tree.{Word}
use Rattle.tla_tree.specs.Lexical.{TokenView, Token}
use Rattle.tla_tree.specs.Lexical as tk
use Rattle.tla_tree.specs.TokenViews.{views}
use Rattle.module_tree.specs.Beginnings.{is_rule}
use Rattle.module_tree.specs.ModuleParts.{kind_in}
use Rattle.module_tree.specs.Walk.{Segment, part, inner, Located}

-- ---- tokens

abbrev pub kind_of_segment : Segment → Option Kind
kind_of_segment (part p) = kind_in p
kind_of_segment (inner w) = Some (other (codes "----"))
kind_of_segment g = None

-- a token, if one is here; a second header is one too
abbrev pub token_in : Located → Option text.Token
token_in d = option_map (λ k. record { kind = k; at = d.at; place = d.place }) (kind_of_segment d.is)

abbrev pub with_token : Option text.Token → List text.Token → List text.Token
with_token (Some t) ts = t ∷ ts
with_token None ts = ts

abbrev pub tokens_in : List Located → List text.Token
tokens_in [] = []
tokens_in (d ∷ ds) = with_token (token_in d) (tokens_in ds)

-- ---- units

abbrev pub unit_words : List Word
unit_words =
    codes "ASSUME" ∷ codes "ASSUMPTION" ∷ codes "AXIOM" ∷ codes "CONSTANT" ∷ codes "CONSTANTS" ∷ codes "EXTENDS" ∷ codes "INSTANCE" ∷ codes "LOCAL"
    ∷ codes "RECURSIVE" ∷ codes "THEOREM" ∷ codes "VARIABLE" ∷ codes "VARIABLES" ∷ []

abbrev pub is_starter : TokenView → Bool
is_starter (tk.word x) = true
is_starter (tk.reserved x) = true
is_starter (tk.other w) = is_among unit_words w
is_starter k = false

abbrev pub is_bar : TokenView → Bool
is_bar (tk.other w) = is_rule w
is_bar k = false

abbrev pub begins_unit : Token → Bool
begins_unit t = (nat_eq t.place.col 1 && is_starter t.kind) || is_bar t.kind

-- the tokens before the first unit, and those of each unit
pub record Cut : Type 0 where
  pub front : List Token
  pub units : List (List Token)

abbrev pub cut_at : Bool → Token → Cut → Cut
cut_at true t c = record { front = []; units = (t ∷ c.front) ∷ c.units }
cut_at false t c = record { front = t ∷ c.front; units = c.units }

abbrev pub cut : List Token → Cut
cut [] = record { front = []; units = [] }
cut (t ∷ ts) = cut_at (begins_unit t) t (cut ts)

-- the units of these segments
abbrev pub units_in : List Located → Cut
units_in ds = cut (views (tokens_in ds))
