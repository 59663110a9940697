-- What the grammars of expressions, of algorithms and of modules see of the tokens of a text.
use Rattle.std.specs.Prelude.{List, [], ◌∷◌, true, false, map, codes, if◌then◌else◌}
use Rattle.std.specs.Str.{bytes_eq}
use Rattle.tla_token.specs.declared.sign.Sign.{Sign}
use Rattle.tla_token.specs.declared.sign.Sign.TheVariants as sign
use Rattle.tla_token.specs.Words.{is_pluscal_word, is_tla_word}
use Rattle.tla_token.specs.Lexemes.{Kind, name, number, string, one}
use Rattle.tla_token.specs.Lexemes as lexeme
use Rattle.tla_token.specs.Tokens as text
use Rattle.tla_tree.specs.declared.op.Op.TheVariants as op
use Rattle.tla_tree.specs.Tree.{Word}
use Rattle.tla_tree.specs.Lexical.{TokenView, Token}
use Rattle.tla_tree.specs.Lexical as tk

abbrev pub sign_kind : Sign → TokenView
sign_kind sign.MapsTo = tk.mark tk.maps
sign_kind sign.Equivalent = tk.sign op.Equivalent
sign_kind sign.Pair = tk.sign op.MapsTo
sign_kind sign.Override = tk.sign op.Override
sign_kind sign.Range = tk.sign op.Range
sign_kind sign.And = tk.sign op.And
sign_kind sign.Or = tk.sign op.Or
sign_kind sign.Implies = tk.sign op.Implies
sign_kind sign.Arrow = tk.mark tk.arrow
sign_kind sign.Defined = tk.mark tk.defines
sign_kind sign.OpenTuple = tk.mark tk.open_tuple
sign_kind sign.CloseTuple = tk.mark tk.close_tuple
sign_kind sign.AtMost = tk.sign op.AtMost
sign_kind sign.AtLeast = tk.sign op.AtLeast
sign_kind sign.NotEqual = tk.sign op.NotEqual
sign_kind sign.Box = tk.mark tk.box
sign_kind sign.Colon = tk.mark tk.colon
sign_kind sign.Comma = tk.mark tk.comma
sign_kind sign.Dot = tk.mark tk.dot
sign_kind sign.OpenRound = tk.mark tk.open_bracket
sign_kind sign.CloseRound = tk.mark tk.close_bracket
sign_kind sign.OpenSquare = tk.mark tk.open_square
sign_kind sign.CloseSquare = tk.mark tk.close_square
sign_kind sign.OpenCurly = tk.mark tk.open_brace
sign_kind sign.CloseCurly = tk.mark tk.close_brace
sign_kind sign.Equal = tk.sign op.Equal
sign_kind sign.Less = tk.sign op.Less
sign_kind sign.Greater = tk.sign op.Greater
sign_kind sign.Plus = tk.sign op.Plus
sign_kind sign.Minus = tk.sign op.Minus
sign_kind sign.Times = tk.sign op.Times
sign_kind sign.Percent = tk.sign op.Modulo
sign_kind sign.Not = tk.sign op.Not
sign_kind sign.Bang = tk.mark tk.bang
sign_kind sign.Without = tk.sign op.Without
sign_kind sign.In = tk.sign op.In
sign_kind sign.NotIn = tk.sign op.NotIn
sign_kind sign.SubsetEq = tk.sign op.SubsetEq
sign_kind sign.Cup = tk.sign op.Cup
sign_kind sign.Cap = tk.sign op.Cap
sign_kind sign.Divide = tk.sign op.Divide
sign_kind sign.Concat = tk.sign op.Concat
sign_kind sign.ForAll = tk.key tk.for_all_key
sign_kind sign.Exists = tk.key tk.exists_key
sign_kind sign.Assign = tk.mark tk.assigns
sign_kind sign.Parallel = tk.mark tk.beside
sign_kind sign.Semicolon = tk.mark tk.semicolon

-- the kind of the first word that is w
abbrev pub kind_among : List (Word × TokenView) → Word → TokenView → TokenView
kind_among [] w k = k
kind_among (p ∷ ps) w k = if bytes_eq p.0 w then p.1 else kind_among ps w k

-- reserved words of TLA+ that are in expressions
abbrev pub word_kinds : List (Word × TokenView)
word_kinds =
    (codes "IF", tk.key tk.if_key) ∷ (codes "THEN", tk.key tk.then_key) ∷ (codes "ELSE", tk.key tk.else_key)
    ∷ (codes "CASE", tk.key tk.case_key) ∷ (codes "OTHER", tk.key tk.other_key) ∷ (codes "LET", tk.key tk.let_key)
    ∷ (codes "IN", tk.key tk.in_key) ∷ (codes "EXCEPT", tk.key tk.except_key)
    ∷ (codes "TRUE", tk.constant (tk.truth true)) ∷ (codes "FALSE", tk.constant (tk.truth false))
    ∷ (codes "BOOLEAN", tk.constant tk.booleans) ∷ (codes "STRING", tk.constant tk.strings)
    ∷ (codes "SUBSET", tk.sign op.Subset) ∷ (codes "UNION", tk.sign op.Union) ∷ (codes "DOMAIN", tk.sign op.Domain) ∷ []

-- an identifier that is not reserved, a reserved word of PlusCal, or one of TLA+
abbrev pub word_kind : Word → TokenView
word_kind w =
    if is_pluscal_word w then tk.reserved w
    else kind_among word_kinds w (if is_tla_word w then tk.other w else tk.word w)

-- a prime is in written text alone, and is no sign elsewhere
abbrev pub kind_of : Kind → TokenView
kind_of (name w) = word_kind w
kind_of (number n) = tk.number n
kind_of (string w) = tk.string w
kind_of (one s) = sign_kind s
kind_of (lexeme.other w) = if bytes_eq w (codes "'") then tk.mark tk.prime else tk.other w

abbrev pub view : text.Token → Token
view t = record { kind = kind_of t.kind; place = t.place }

abbrev pub views : List text.Token → List Token
views ts = map view ts
