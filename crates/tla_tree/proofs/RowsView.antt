-- Worked examples of what the grammar sees of tokens, by computation.
use Rattle.std.specs.Prelude.{◌≡◌, codes}
use Rattle.std.proofs.Common.{refl}
use Rattle.tla_token.specs.declared.sign.Sign.TheVariants as sign
use Rattle.tla_token.specs.Lexemes.{name, one}
use Rattle.tla_token.specs.Lexemes as lexeme
use Rattle.tla_tree.specs.declared.op.Op.TheVariants as op
use Rattle.tla_tree.specs.Lexical as tk
use Rattle.tla_tree.specs.TokenViews.{kind_of}

of_a_name : kind_of (name (codes "x")) ≡ tk.word (codes "x")
of_a_name = refl

of_a_word_of_pluscal : kind_of (name (codes "procedure")) ≡ tk.reserved (codes "procedure")
of_a_word_of_pluscal = refl

of_a_word_of_tla : kind_of (name (codes "DOMAIN")) ≡ tk.sign op.Domain
of_a_word_of_tla = refl

of_a_left_out_word : kind_of (name (codes "CHOOSE")) ≡ tk.other (codes "CHOOSE")
of_a_left_out_word = refl

of_a_prime : kind_of (lexeme.other (codes "'")) ≡ tk.mark tk.prime
of_a_prime = refl

of_an_assignment : kind_of (one sign.Assign) ≡ tk.mark tk.assigns
of_an_assignment = refl

of_a_word_of_modules : kind_of (name (codes "UNCHANGED")) ≡ tk.other (codes "UNCHANGED")
of_a_word_of_modules = refl

of_a_sign_of_no_expression : kind_of (lexeme.other (codes "@")) ≡ tk.other (codes "@")
of_a_sign_of_no_expression = refl
