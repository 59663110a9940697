-- Worked examples of modules in memory: what they stand for, past which numbers theirs are, and units beside others.
use Rattle.std.specs.Prelude.{◌≡◌, List, [], ◌∷◌, Some, codes}
use Rattle.std.proofs.Common.{refl, arith}
use Rattle.tla_token.specs.Places.{nowhere}
use Rattle.tla_tree.specs.Tree.{Tree, node, no_trees, number, name}
use Rattle.tla_tree.specs.Nesting.{greatest}
use Rattle.module_tree.specs.Module as tree
use Rattle.module_write.specs.declared.«module».Item.TheVariants.{Test}
use Rattle.module_write.specs.declared.«module».Call.TheVariants as call
use Rattle.module_write.specs.declared.«module».Way.TheVariants as way
use Rattle.module_write.specs.InMemory.{item_at, ways_at, over_at, past_item, WaysIn}
use Rattle.module_lines.specs.Apart.{ahead, behind}
use Rattle.module_write.proofs.ItemEquations.{test_at, past_test}

abbrev trees : List Tree
trees = node (number 7) nowhere no_trees ∷ node (name (codes "S")) nowhere no_trees ∷ []

an_item_has_the_tree_of_its_number : item_at trees (Test 0) ≡ tree.test (node (number 7) nowhere no_trees)
an_item_has_the_tree_of_its_number = test_at trees 0

its_number_is_below_the_next : past_item (Test 0) ≡ 1
its_number_is_below_the_next = past_test 0

the_greatest_counts : greatest (1 ∷ 3 ∷ 2 ∷ []) ≡ 3
the_greatest_counts = refl

a_way_has_the_trees_of_its_numbers : ways_at trees (way.Among (codes "self") 1 (call.With (codes "P") 0) ∷ []) ≡ tree.some_way (codes "self") (node (name (codes "S")) nowhere no_trees) (tree.call_with (codes "P") (node (number 7) nowhere no_trees)) ∷ []
a_way_has_the_trees_of_its_numbers = refl

its_numbers_are_of_the_pool : WaysIn 2 (way.Among (codes "self") 1 (call.With (codes "P") 0) ∷ way.One (call.Bare (codes "A")) ∷ [])
its_numbers_are_of_the_pool = ((omega arith, omega arith), (tt, tt))

what_is_over_a_set_has_its_tree : over_at trees (Some (codes "self", 1)) ≡ Some (codes "self", node (name (codes "S")) nowhere no_trees)
what_is_over_a_set_has_its_tree = refl

a_unit_ahead_ends_with_an_empty_line : ahead 0 (tree.variables_unit (codes "x" ∷ []) ∷ []) ≡ codes "VARIABLES x\n\n"
a_unit_ahead_ends_with_an_empty_line = refl

a_unit_behind_begins_with_one : behind 0 (tree.variables_unit (codes "x" ∷ []) ∷ []) ≡ codes "\nVARIABLES x\n"
a_unit_behind_begins_with_one = refl
