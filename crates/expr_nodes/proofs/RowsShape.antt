-- Worked rows of views and shapes, by computation.
use Rattle.std.specs.Prelude.{ℕ, true, false, codes}
use Rattle.std.proofs.Common.{◌≡◌, refl}
use Rattle.tla_token.specs.declared.place.Place.{Place}
use Rattle.tla_token.specs.declared.token.Span.{Span}
use Rattle.tla_tree.specs.declared.op.Op.TheVariants as op
use Rattle.expr_nodes.specs.declared.view.Mark.TheVariants as mark
use Rattle.expr_nodes.specs.declared.view.View.TheVariants as view
use Rattle.expr_nodes.specs.declared.shape.Head.TheVariants as at
use Rattle.expr_nodes.specs.declared.shape.Boxes.TheVariants as boxes
use Rattle.tla_tree.specs.Lexical as tk
use Rattle.tla_tree.specs.Spelling.{Phrase, name, number, brackets, infix_of, list, last_bullet, bullet, cases, last_arm}
use Rattle.expr_nodes.specs.ViewSeen.{view_seen}
use Rattle.expr_nodes.specs.ShapeOf.{shape_of, stands_left, takes}

abbrev in_col : ℕ → Place
in_col c = record { line = 1; col = c }

abbrev word_there : Span
word_there = record { from = 2; to = 4 }

of_a_word : view_seen (codes "a yz") (view.Word word_there) ≡ tk.word (codes "yz")
of_a_word = refl

of_a_string : view_seen (codes "\"\\n\"") (view.Quote (record { from = 1; to = 3 })) ≡ tk.string (codes "\n")
of_a_string = refl

of_a_mark : view_seen (codes "<<") (view.Mark mark.OpenTuple) ≡ tk.mark tk.open_tuple
of_a_mark = refl

abbrev a : ℕ → Phrase
a c = name (in_col c) (codes "a")

-- a + (a - a) + a
abbrev sum : Phrase
sum = infix_of (infix_of (a 1) (in_col 3) op.Plus (brackets (in_col 5) (infix_of (a 6) (in_col 8) op.Minus (a 10)) (in_col 11))) (in_col 13) op.Plus (a 15)

chain_of_two : (shape_of true sum).chain ≡ 2
chain_of_two = refl

-- the bracket and the `-` in it, behind the first `+`
deepest_in_it : (shape_of true sum).nesting ≡ 3
deepest_in_it = refl

head_of_it : (shape_of true sum).head ≡ at.Applied op.Plus
head_of_it = refl

left_of_a_sum : stands_left (shape_of true sum) (in_col 17) op.Plus ≡ true
left_of_a_sum = refl

-- /\ CASE 1 -> 2
abbrev item : Phrase
item = list op.And (last_bullet (in_col 4) (cases (in_col 7) (last_arm (number (in_col 12) 1) (in_col 14) (number (in_col 17) 2))))

boxes_of_an_item : (shape_of true item).boxes ≡ boxes.RightOf 4
boxes_of_an_item = refl

right_of_the_bullet : takes 5 (shape_of true item).boxes ≡ true
right_of_the_bullet = refl

no_further_bullet : stands_left (shape_of true item) (in_col 4) op.And ≡ false
no_further_bullet = refl

-- each bullet is open besides those before it
two_bullets : (shape_of true (list op.And (bullet (in_col 1) (a 4) (last_bullet (in_col 1) (a 4))))).nesting ≡ 2
two_bullets = refl
