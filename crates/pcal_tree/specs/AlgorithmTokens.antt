-- What the grammars of algorithms see of the tokens of a text: what expressions see, but for primes ("A PlusCal User's Manual", appendix A).
use Rattle.std.specs.Prelude.{List, map}
use Rattle.tla_token.specs.Lexemes as lexeme
use Rattle.tla_token.specs.Tokens as text
use Rattle.tla_tree.specs.Lexical.{TokenView, Token}
use Rattle.tla_tree.specs.Lexical as tk
use Rattle.tla_tree.specs.TokenViews as expression

-- no variable of an algorithm is primed
abbrev pub kind_of : lexeme.Kind → TokenView
kind_of (lexeme.other w) = tk.other w
kind_of k = expression.kind_of k

abbrev pub view : text.Token → Token
view t = record { kind = kind_of t.kind; place = t.place }

abbrev pub views : List text.Token → List Token
views ts = map view ts
