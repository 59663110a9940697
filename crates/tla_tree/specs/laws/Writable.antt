-- What the writer may be given: trees of the right shape whose words are each written as one token of a text.
use Rattle.std.specs.Prelude.{◌≡◌, ℕ, ◌+◌, ◌<◌, Bool, ◌||◌, ◌&&◌, not, nat_le, nat_eq, List, [], ◌∷◌}
use Rattle.std.specs.Bool.{IsTrue}
use Rattle.std.specs.List.{list_all, flat_map}
use Rattle.tla_token.specs.Words.{is_reserved, is_tla_word}
use Rattle.tla_token.specs.Lexemes.{Kind, number, IsName, IsLexeme}
use Rattle.tla_tree.specs.Tree.{Word, PathStep, index, field, Slot, fields, records, select, except, Form, string, name, next, strict, operator_call, binders, Each, Tree, Trees, node, no_trees, tree}
use Rattle.tla_tree.specs.Shapes.{Shaped}
use Rattle.tla_token.specs.Limits.{past_numbers}
use Rattle.tla_token.specs.Tokens as text
use Rattle.tla_tree.specs.Lexical.{TokenView, Token, token_text}
use Rattle.tla_tree.specs.Lexical as tk
use Rattle.tla_tree.specs.TokenViews.{kind_of}
use Rattle.tla_tree.specs.Written.{Piece, blank, token}

-- a name that is not reserved
abbrev pub IsIdentifier : Word → Type 0
IsIdentifier x = IsName x × IsTrue (not (is_reserved x))

-- an identifier, or a reserved word of PlusCal
abbrev pub IsField : Word → Type 0
IsField x = IsName x × IsTrue (not (is_tla_word x))

-- a character that is in a string by itself or by an escape
abbrev pub is_spellable : ℕ → Bool
is_spellable b = (nat_le 32 b && nat_le b 126) || (nat_eq b 9 || (nat_eq b 10 || (nat_eq b 12 || nat_eq b 13)))

abbrev pub IsString : Word → Type 0
IsString x = IsTrue (list_all is_spellable x)

-- ---- the words of a form
abbrev pub names_in : Form → List Word
names_in (name x) = x ∷ []
names_in (next x) = x ∷ []
names_in (operator_call x) = x ∷ []
names_in m = binders m

abbrev pub fields_in_path : List PathStep → List Word
fields_in_path [] = []
fields_in_path (index ∷ ss) = fields_in_path ss
fields_in_path (field x ∷ ss) = x ∷ fields_in_path ss

abbrev pub fields_in : Form → List Word
fields_in (strict (fields xs)) = xs
fields_in (strict (records xs)) = xs
fields_in (strict (select x)) = x ∷ []
fields_in (strict (except ss)) = flat_map (λ (s : Slot). fields_in_path s.path) ss
fields_in m = []

abbrev pub strings_in : Form → List Word
strings_in (string x) = x ∷ []
strings_in m = []

abbrev pub count : Trees → ℕ
count no_trees = 0
count (tree t ts) = count ts + 1

abbrev mutual
  pub IsWritable : Tree → Type 0
  IsWritable (node m at ts) = Shaped m (count ts) × Each IsIdentifier (names_in m) × Each IsField (fields_in m) × Each IsString (strings_in m) × AreWritable ts

  pub AreWritable : Trees → Type 0
  AreWritable no_trees = Unit {0}
  AreWritable (tree t ts) = IsWritable t × AreWritable ts

-- ---- what is written
-- its text is that of a token of a text, which expressions see as this one
abbrev pub IsSpelled : TokenView → Type 0
IsSpelled k = (l : Kind) × IsLexeme l (token_text k) × (kind_of l ≡ k)

abbrev pub AreSpelled : List Piece → Type 0
AreSpelled [] = Unit {0}
AreSpelled (blank ∷ ps) = AreSpelled ps
AreSpelled (token k ∷ ps) = IsSpelled k × AreSpelled ps

-- ---- what is read
-- the tokens of a text have no other words, strings and numbers, but for numbers that are too large
abbrev pub IsOfText : TokenView → Type 0
IsOfText (tk.word x) = IsIdentifier x
IsOfText (tk.reserved x) = IsField x
IsOfText (tk.string x) = IsString x
IsOfText (tk.number n) = n < past_numbers
IsOfText k = Unit {0}

abbrev pub AreOfText : List Token → Type 0
AreOfText [] = Unit {0}
AreOfText (t ∷ ts) = IsOfText t.kind × AreOfText ts

abbrev pub IsSmall : Kind → Type 0
IsSmall (number n) = n < past_numbers
IsSmall k = Unit {0}

-- no number is past 2^127 - 1
abbrev pub AreSmall : List text.Token → Type 0
AreSmall [] = Unit {0}
AreSmall (t ∷ ts) = IsSmall t.kind × AreSmall ts
