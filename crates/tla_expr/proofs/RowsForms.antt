-- Worked rows: forms in braces and in square brackets.
use Rattle.std.proofs.Common.{◌≡◌, [], ◌∷◌, Ok, refl}
use Rattle.tla_token.specs.declared.place.Place.{Place}
use Rattle.tla_token.specs.declared.rule.Rule.TheVariants.{TooDeep, Syntax}
use Rattle.tla_tree.specs.declared.op.Op.TheVariants as op
use Rattle.tla_tree.specs.Tree.{Word}
use Rattle.tla_tree.specs.Lexical.{token}
use Rattle.tla_tree.specs.Lexical as tk
use Rattle.tla_tree.specs.Spelling.{Phrase, last, set_of, filter, functions, infix_of, name}
use Rattle.tla_tree.specs.Reader.{Readers, no_steps, any}
use Rattle.tla_expr.specs.ReadForms.{deep_rule, membered, braced, braced_other, square_rule, mapped, squared, squared_other}

abbrev here : Place
here = record { line = 1; col = 3 }

-- readers that always read this, and take nothing
abbrev always : Phrase → Readers
always b = record no_steps { expr = λ e c ts. Ok (b, ts) }

filtered_members : (b : Phrase) (p q s : Place) (x : Word) → membered (any (always b)) (always b) 0 p q x s (token here (tk.mark tk.colon) ∷ token here (tk.mark tk.close_brace) ∷ []) ≡ Ok (filter p q x s b here b here, [])
filtered_members b p q s x = refl

-- an element that is too deep is refused so before a comma, and else as no set
too_deep_before_comma : deep_rule (tk.mark tk.comma) ≡ TooDeep
too_deep_before_comma = refl

no_set_before_arrow : deep_rule (tk.mark tk.arrow) ≡ Syntax
no_set_before_arrow = refl

alone_in_braces : (b : Phrase) (p : Place) → braced_other (always b) 0 p (token here (tk.mark tk.close_brace) ∷ []) ≡ Ok (set_of p (last b) here, [])
alone_in_braces b p = refl

-- a reader that goes on nowhere after a name
abbrev names : Readers
names = record no_steps { postfix = λ e a ts. Ok (a, ts); climb = λ e c a ts. Ok (a, ts) }

abbrev goes_to : Phrase → Readers
goes_to b = record names { expr = λ e c ts. Ok (b, ts) }

name_in_braces : (p q : Place) (x : Word) → braced (any names) names 0 p q x (token here (tk.mark tk.close_brace) ∷ []) ≡ Ok (set_of p (last (name q x)) here, [])
name_in_braces p q x = refl

too_deep_before_except : square_rule (tk.key tk.except_key) ≡ TooDeep
too_deep_before_except = refl

name_to_set : (b : Phrase) (p q : Place) (x : Word) → squared (any (goes_to b)) (goes_to b) 0 p q x (token here (tk.mark tk.arrow) ∷ token here (tk.mark tk.close_square) ∷ []) ≡ Ok (functions p (name q x) here b here, [])
name_to_set b p q x = refl

to_set : (b : Phrase) (p : Place) → squared_other (goes_to b) 0 p (token here (tk.mark tk.arrow) ∷ token here (tk.mark tk.close_square) ∷ []) ≡ Ok (functions p b here b here, [])
to_set b p = refl

element_to_set : (p q s : Place) (x : Word) → mapped (any (goes_to (name q x))) (goes_to (name q x)) 0 p q x s (token here (tk.mark tk.arrow) ∷ token here (tk.mark tk.close_square) ∷ []) ≡ Ok (functions p (infix_of (name q x) s op.In (name q x)) here (name q x) here, [])
element_to_set p q s x = refl
