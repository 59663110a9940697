-- Tokens that go on with nothing of the expression before them.
use Rattle.std.specs.Prelude.{◌≡◌, ℕ, Bool, true, false, not, List}
use Rattle.tla_tree.specs.Lexical.{TokenView, Token}
use Rattle.tla_tree.specs.Lexical as tk
use Rattle.tla_tree.specs.Reader.{next}

-- after a primary it goes on
abbrev pub is_tail : TokenView → Bool
is_tail (tk.mark tk.open_square) = true
is_tail (tk.mark tk.dot) = true
is_tail (tk.mark tk.open_bracket) = true
is_tail (tk.mark tk.prime) = true
is_tail k = false

abbrev pub NoTail : ℕ → List Token → Type 0
NoTail e ts = is_tail (next e ts).kind ≡ false

-- a token that goes on nothing
abbrev pub is_calm : TokenView → Bool
is_calm (tk.sign o) = false
is_calm (tk.mark tk.box) = false
is_calm k = not (is_tail k)

abbrev pub Calm : ℕ → List Token → Type 0
Calm e ts = is_calm (next e ts).kind ≡ true
