-- What comes after a colon in the tokens of an expression, and after the words `await` and `if` behind a label.
use Rattle.std.proofs.Common.{◌≡◌, Bool, true, false, ◌||◌, List, [], ◌∷◌, codes}
use Rattle.std.specs.Str.{bytes_eq}
use Rattle.tla_token.specs.declared.place.Place.{Place}
use Rattle.tla_tree.specs.Tree.{Word}
use Rattle.tla_tree.specs.Lexical.{TokenView, Token, token}
use Rattle.tla_tree.specs.Lexical as tk
use Rattle.tla_tree.specs.Spelling.{Phrase, IsGood, spell}
use Rattle.pcal_tree.proofs.ExpressionTokens.{begins_phrase, Kept, keep}
use Rattle.pcal_tree.proofs.ExpressionTokens as expression

-- a token that ends the expression of a statement in P-syntax
abbrev pub is_stop : TokenView → Bool
is_stop (tk.mark tk.semicolon) = true
is_stop (tk.reserved w) = true
is_stop k = false

abbrev pub stops : List Token → Bool
stops [] = true
stops (t ∷ ts) = is_stop t.kind

-- an expression, and then the end or such a token
abbrev pub Expression : List Token → Type 0
Expression ts = (a : Phrase) × (rest : List Token) × IsGood a × (stops rest ≡ true) × (spell a rest ≡ ts)

abbrev pub has_expression : Word → Bool
has_expression w = bytes_eq w (codes "await") || bytes_eq w (codes "if")

abbrev pub When : Bool → Type 0 → Type 0
When true A = A
When false A = Unit {0}

abbrev pub ByWord : TokenView → List Token → Type 0
ByWord (tk.reserved w) ts = When (has_expression w) (Expression ts)
ByWord k ts = Unit {0}

-- behind a colon the two words have their expression
abbrev pub AfterColon : List Token → Type 0
AfterColon [] = Unit {0}
AfterColon (t ∷ ts) = ByWord t.kind ts

abbrev pub At : TokenView → List Token → Type 0 → Type 0
At (tk.mark tk.colon) ts A = AfterColon ts × A
At k ts A = A

-- behind each colon
abbrev pub Sound : List Token → Type 0
Sound [] = Unit {0}
Sound (t ∷ ts) = At t.kind ts (Sound ts)

by_other : (k : TokenView) (ts : List Token) → expression.is_first k ≡ true → ByWord k ts
by_other (tk.reserved w) ts h = absurd cc
by_other k ts h = tt

pub other_first : (ts : List Token) → begins_phrase ts ≡ true → AfterColon ts
other_first [] h = tt
other_first (t ∷ ts) h = by_other t.kind ts h

at_any : (k : TokenView) (ts : List Token) (A : Type 0) → AfterColon ts → A → At k ts A
at_any (tk.mark tk.colon) ts A f h = (f, h)
at_any k ts A f h = h

pub after : (k : TokenView) (p : Place) (ts : List Token) → begins_phrase ts ≡ true → Sound ts → Sound (token p k ∷ ts)
after k p ts f so = at_any k ts (Sound ts) (other_first ts f) so

-- ---- expressions: no phrase begins with a reserved word, so each colon is as it should be

plain : (k : TokenView) (ts : List Token) (A : Type 0) → expression.needs k ≡ false → A → At k ts A
plain (tk.mark tk.colon) ts A e h = absurd cc
plain k ts A e h = h

pub kept : Kept Sound
kept = record {
  plain = λ t ts e so. plain t.kind ts (Sound ts) e so;
  before_phrase = λ t ts f so. after t.kind t.place ts f so;
}

pub keeps_one : (x : Phrase) (ts : List Token) → Sound ts → Sound (spell x ts)
keeps_one x ts h = (keep kept x).keeps ts h
