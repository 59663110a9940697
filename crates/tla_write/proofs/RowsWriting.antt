-- Worked rows: what items show, and what may be behind a written text.
use Rattle.std.proofs.Common.{◌≡◌, true, false, [], ◌∷◌, refl, codes}
use Rattle.tla_token.specs.declared.place.Place.{Place}
use Rattle.tla_tree.specs.declared.op.Op.TheVariants as op
use Rattle.tla_write.specs.declared.write.Fixed.TheVariants as fixed
use Rattle.tla_write.specs.declared.write.Item.TheVariants as item
use Rattle.tla_tree.specs.Lexical as tk
use Rattle.tla_tree.specs.Spelling as spelled
use Rattle.tla_tree.specs.Written.{token}
use Rattle.tla_tree.specs.Tree.{Tree, node, no_trees, tree, number, strict, set_of}
use Rattle.tla_write.specs.Writing.{shown}
use Rattle.tla_write.specs.Ahead.{weight, left}
use Rattle.tla_tree.specs.laws.Columns.{moved}
use Rattle.tla_tree.specs.laws.InText.{ends_word}
use Rattle.tla_tree.specs.laws.Following.{is_tail, is_calm}

-- the last item is the next one
items_are_shown : shown [] (item.Fixed fixed.CloseBrace ∷ item.Fixed fixed.OpenBrace ∷ []) [] ≡ token (tk.mark tk.open_brace) ∷ token (tk.mark tk.close_brace) ∷ []
items_are_shown = refl

abbrev here : Place
here = record { line = 1; col = 1 }

abbrev one : Tree
one = node (number 1) here no_trees

-- the set that has it: `{1}`
abbrev set : Tree
set = node (strict set_of) here (tree one no_trees)

-- one piece, as an operand or not, and two more
one_weighs : weight one ≡ 4
one_weighs = refl

set_weighs : weight set ≡ 14
set_weighs = refl

-- the brace in front is written already
one_is_left : left set (item.Fixed fixed.CloseBrace ∷ item.Part 0 false ∷ []) ≡ 5
one_is_left = refl

bracket_ends_a_word : ends_word (codes ")") ≡ true
bracket_ends_a_word = refl

digit_ends_no_word : ends_word (codes "1") ≡ false
digit_ends_no_word = refl

comma_goes_on_nothing : is_calm (tk.mark tk.comma) ≡ true
comma_goes_on_nothing = refl

sign_goes_on : is_calm (tk.sign op.Plus) ≡ false
sign_goes_on = refl

dot_goes_on_a_primary : is_tail (tk.mark tk.dot) ≡ true
dot_goes_on_a_primary = refl

name_is_moved : moved (λ p. 7) (spelled.name (record { line = 3; col = 2 }) (codes "x")) ≡ spelled.name (record { line = 0; col = 7 }) (codes "x")
name_is_moved = refl
