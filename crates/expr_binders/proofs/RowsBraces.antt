-- Worked rows: what is read in braces behind `{a`.
use Rattle.std.proofs.Common.{◌≡◌, [], ◌∷◌, Ok, Err, refl}
use Rattle.tla_token.specs.declared.place.Place.{Place}
use Rattle.tla_token.specs.declared.rule.Rule.TheVariants.{Syntax}
use Rattle.tla_tree.specs.Lexical.{token}
use Rattle.tla_tree.specs.Lexical as tk
use Rattle.tla_tree.specs.Spelling.{Phrase, Phrases, last, more, set_of}
use Rattle.tla_tree.specs.Reader.{Readers, no_steps}
use Rattle.expr_binders.specs.InBraces.{set_alone, set_before}

abbrev here : Place
here = record { line = 1; col = 3 }

-- a reader that always reads this row, and takes nothing
abbrev rows : Phrases → Readers
rows xs = record no_steps { phrases = λ e ts. Ok (xs, ts) }

one_in_braces : (a : Phrase) (p : Place) → set_alone 0 p a (token here (tk.mark tk.close_brace) ∷ []) ≡ Ok (set_of p (last a) here, [])
one_in_braces a p = refl

not_closed : (a : Phrase) (p : Place) → set_alone 0 p a (token here (tk.mark tk.close_square) ∷ []) ≡ Err (Syntax, token here (tk.mark tk.close_square) ∷ [])
not_closed a p = refl

more_in_braces : (a : Phrase) (xs : Phrases) (p q : Place) → set_before (rows xs) 0 p a q (token here (tk.mark tk.close_brace) ∷ []) ≡ Ok (set_of p (more a q xs) here, [])
more_in_braces a xs p q = refl
