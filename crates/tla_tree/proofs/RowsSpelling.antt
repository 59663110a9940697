-- Worked rows of the grammar at its edges: what is spelled in one way only, and what is not spelled.
use Rattle.std.proofs.Common.{◌≡◌, refl, ℕ, true, false, codes}
use Rattle.tla_token.specs.declared.place.Place.{Place}
use Rattle.tla_tree.specs.declared.op.Op.{Op}
use Rattle.tla_tree.specs.declared.op.Op.TheVariants as op
use Rattle.tla_tree.specs.Spelling.{Phrase, Good, tree_of}
use Rattle.tla_tree.specs.Spelling as spelled

abbrev at : ℕ → ℕ → Place
at l c = record { line = l; col = c }

abbrev name : ℕ → ℕ → Phrase
name l c = spelled.name (at l c) (codes "a")

-- a OP b, the operator in column c of line l
abbrev joined : ℕ → ℕ → Op → Phrase → Phrase → Phrase
joined l c o a b = spelled.infix_of a (at l c) o b

abbrev under : ℕ → ℕ → Op → Phrase → Phrase
under l c o a = spelled.prefix_of (at l c) o a

-- ---- ranks

-- `a /\ b \/ c`
no_mixed_left : Good 0 (joined 1 8 op.Or (joined 1 3 op.And (name 1 1) (name 1 6)) (name 1 11)) → ⊥
no_mixed_left g = cc

no_mixed_right : Good 0 (joined 1 3 op.And (name 1 1) (joined 1 8 op.Or (name 1 6) (name 1 11))) → ⊥
no_mixed_right g = cc

-- `a \div b * c`: only a sign that is associative goes with itself alone
no_quotient_left : Good 0 (joined 1 8 op.Times (joined 1 3 op.Divide (name 1 1) (name 1 6)) (name 1 11)) → ⊥
no_quotient_left g = cc

no_quotient_right : Good 0 (joined 1 3 op.Divide (name 1 1) (joined 1 8 op.Times (name 1 6) (name 1 11))) → ⊥
no_quotient_right g = cc

-- `a % b + c`: the ranges touch
no_touching : Good 0 (joined 1 8 op.Plus (joined 1 3 op.Modulo (name 1 1) (name 1 6)) (name 1 11)) → ⊥
no_touching g = cc

-- `a - b - c` groups from the left
differences : Good 0 (joined 1 7 op.Minus (joined 1 3 op.Minus (name 1 1) (name 1 5)) (name 1 9))
differences = search

no_difference_right : Good 0 (joined 1 3 op.Minus (name 1 1) (joined 1 7 op.Minus (name 1 5) (name 1 9))) → ⊥
no_difference_right g = cc

-- `a * -b + c` is (a * (-b)) + c
short_inside : Good 0 (joined 1 8 op.Plus (joined 1 3 op.Times (name 1 1) (under 1 5 op.Negate (name 1 6))) (name 1 10))
short_inside = search

no_long_inside : Good 0 (joined 1 3 op.Times (name 1 1) (under 1 5 op.Negate (joined 1 8 op.Plus (name 1 6) (name 1 10)))) → ⊥
no_long_inside g = cc

-- `~ ~ a = b` is ~(~(a = b)), and `DOMAIN ~ a` is spelled
double : Good 0 (under 1 1 op.Not (under 1 3 op.Not (joined 1 7 op.Equal (name 1 5) (name 1 9))))
double = search

domain_of_short : Good 0 (under 1 1 op.Domain (under 1 8 op.Not (name 1 10)))
domain_of_short = search

-- `~ \A a \in a : a => a`: the open form takes the rest
abbrev all_of : Phrase → Phrase
all_of a = spelled.quantified true (at 1 3) (spelled.last_bind (at 1 6) (codes "a") (at 1 8) (name 1 12)) (at 1 14) a

open_takes_all : Good 0 (under 1 1 op.Not (all_of (joined 1 18 op.Implies (name 1 16) (name 1 21))))
open_takes_all = search

no_open_left : Good 0 (joined 1 18 op.Implies (under 1 1 op.Not (all_of (name 1 16))) (name 1 21)) → ⊥
no_open_left g = cc

-- ---- lists

abbrev two_items : Phrase
two_items = spelled.list op.And (spelled.bullet (at 1 3) (name 1 6) (spelled.last_bullet (at 2 3) (name 2 6)))

-- `/\ a` with `[a]` below it: in the list's column its head is the list, right of it the item
indexed_list : Good 0 (spelled.apply two_items (at 3 3) (spelled.last (name 3 4)) (at 3 5))
indexed_list = search

no_indexed_list : Good 0 (spelled.apply two_items (at 3 4) (spelled.last (name 3 5)) (at 3 6)) → ⊥
no_indexed_list g = cc

indexed_item : Good 0 (spelled.list op.And (spelled.bullet (at 1 3) (name 1 6) (spelled.last_bullet (at 2 3) (spelled.apply (name 2 6) (at 3 4) (spelled.last (name 3 5)) (at 3 6)))))
indexed_item = search

-- the same sign in the list's column is a bullet and no operator; the other sign there is an operator
no_operator : Good 0 (joined 3 3 op.And two_items (name 3 6)) → ⊥
no_operator g = cc

other_sign : Good 0 (joined 3 3 op.Or two_items (name 3 6))
other_sign = search

-- also after `a +`
no_operator_behind : Good 0 (joined 2 7 op.And (joined 1 3 op.Plus (name 1 1) (spelled.list op.And (spelled.last_bullet (at 1 7) (name 1 10)))) (name 2 10)) → ⊥
no_operator_behind g = cc

-- `/\ a \/ a` with `/\ a` one column right of the bullet, and in its column
abbrev first_item : Phrase
first_item = joined 1 8 op.Or (name 1 6) (name 1 11)

no_item : Good 0 (spelled.list op.And (spelled.last_bullet (at 1 3) (joined 2 4 op.And first_item (name 2 7)))) → ⊥
no_item g = cc

next_item : Good 0 (spelled.list op.And (spelled.bullet (at 1 3) first_item (spelled.last_bullet (at 2 3) (name 2 6))))
next_item = search

-- a bracket in an item does not reach left of the bullet
no_bracket_out : Good 0 (spelled.list op.And (spelled.last_bullet (at 1 3) (spelled.brackets (at 1 6) (name 1 7) (at 2 3)))) → ⊥
no_bracket_out g = cc

-- an item may end in an open form before an operator after the list
abbrev open_item : Phrase
open_item = spelled.list op.Or (spelled.last_bullet (at 1 1) (all_of (name 1 16)))

behind_open_item : Good 0 (joined 2 1 op.Implies open_item (name 2 4))
behind_open_item = search

-- one item is the item itself
one_item : tree_of (spelled.list op.Or (spelled.last_bullet (at 1 1) (name 1 4))) ≡ tree_of (name 1 4)
one_item = refl

-- ---- braces
-- `{a \in a /\ a : a}` is no image of `a \in a /\ a`, and is a filter
no_image_of_conjunction : (bs : spelled.Binds) → Good 0 (spelled.image (at 1 1) (joined 1 9 op.And (joined 1 4 op.In (name 1 2) (name 1 7)) (name 1 11)) (at 1 13) bs (at 1 30)) → ⊥
no_image_of_conjunction bs g = let e : false ≡ true = g.5 in cc

-- `{(a \in a) : a \in a}` is an image
image_in_brackets : Good 0 (spelled.image (at 1 1) (spelled.brackets (at 1 2) (joined 1 5 op.In (name 1 3) (name 1 9)) (at 1 10)) (at 1 12) (spelled.last_bind (at 1 14) (codes "a") (at 1 16) (name 1 20)) (at 1 21))
image_in_brackets = search
