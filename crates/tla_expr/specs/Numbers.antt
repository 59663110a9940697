-- The numbers of tokens that are read.
use Rattle.std.specs.Prelude.{◌≡◌, ℕ, ◌<◌}
use Rattle.tla_token.specs.Limits.{past_numbers}
use Rattle.tla_token.specs.declared.token.Tokens.{Tokens}
use Rattle.tla_tree.specs.Lexical as tk
use Rattle.tla_tree.specs.Reader.{next}
use Rattle.expr_nodes.specs.Ahead.{ahead}

-- each number that is seen of the tokens is less than 2^127
abbrev pub NumbersFit : Tokens → Type 0
NumbersFit v = (i e n : ℕ) → (next e (ahead v i)).kind ≡ tk.number n → n < past_numbers
