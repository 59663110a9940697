-- Worked rows: bullets with their items, and what values in a pool stand for.
use Rattle.std.proofs.Common.{◌≡◌, ℕ, [], ◌∷◌, Err, refl, arith}
use Rattle.tla_token.specs.declared.place.Place.{Place}
use Rattle.tla_token.specs.declared.rule.Rule.TheVariants.{Syntax}
use Rattle.tla_tree.specs.declared.op.Op.TheVariants as op
use Rattle.tla_tree.specs.Lexical.{token}
use Rattle.tla_tree.specs.Lexical as tk
use Rattle.tla_tree.specs.Spelling.{number, tree_of}
use Rattle.module_tree.specs.Grammar.{ItemForm, test_form}
use Rattle.module_write.specs.declared.«module».Item.TheVariants.{Test}
use Rattle.module_write.proofs.ItemEquations.{test_at, past_test}
use Rattle.region_items.specs.Begins.{one_item, one_branch}
use Rattle.region_items.specs.Stand.{IsItem}

abbrev here : Place
here = record { line = 1; col = 3 }

-- a test of a number that is the first tree of the pool
test_stands : (p q r : Place) (n : ℕ) → IsItem (tree_of (number q n) ∷ []) (Test 0) (test_form p (number q n) r)
test_stands p q r n = record { below = omega (arith, past_test 0); means = test_at (tree_of (number q n) ∷ []) 0 }

-- a number past the pool is none of it
past_the_pool : (q : Place) (n : ℕ) (f : ItemForm) → IsItem (tree_of (number q n) ∷ []) (Test 1) f → ⊥
past_the_pool q n f h = (let above = past_test 1 in let below = h.below in omega (arith, above, below))

in_other_column : one_item 9 1 4 (token here (tk.sign op.And) ∷ []) ≡ Err (Syntax, token here (tk.sign op.And) ∷ [])
in_other_column = refl

of_other_sign : one_branch 9 1 3 (token here (tk.sign op.And) ∷ []) ≡ Err (Syntax, token here (tk.sign op.And) ∷ [])
of_other_sign = refl

at_the_edge : one_branch 9 3 3 (token here (tk.sign op.Or) ∷ []) ≡ Err (Syntax, token here (tk.sign op.Or) ∷ [])
at_the_edge = refl
