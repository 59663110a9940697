-- Worked examples of the trees that the nodes of a pool stand for.
use Rattle.std.specs.Prelude.{◌≡◌, List, [], ◌∷◌, ◌++◌, Option, Some, true}
use Rattle.std.specs.Hash as fed
use Rattle.std.proofs.Common.{ap, refl, arith, inl}
use Rattle.tla_token.specs.declared.place.Place.{Place}
use Rattle.tla_tree.specs.Tree.{Word, Tree, node, no_trees, tree, number, name, conjunction}
use Rattle.tla_tree.specs.TreeOf.{root_form, root_parts}
use Rattle.tla_pool.specs.declared.graft.Visit.TheVariants as visit
use Rattle.tla_pool.specs.Done.{AreMade}
use Rattle.tla_pool.specs.Visits.{InOrder, to_parts, all_work}
use Rattle.tla_tree.specs.Pool.{Entry, same_entry, grown, AllBelow, AreOlder, AreShaped}
use Rattle.tla_tree.specs.PoolEquality.{fed_entry, same_entry-Decides}

abbrev here : Place
here = record { line = 1; col = 1 }

abbrev there : Place
there = record { line = 2; col = 5 }

abbrev one : Entry
one = record { form = number 1; place = here; parts = [] }

abbrev one_there : Entry
one_there = record { form = number 1; place = there; parts = [] }

abbrev both : Entry
both = record { form = conjunction; place = here; parts = 0 ∷ 0 ∷ [] }

abbrev leaf : Tree
leaf = node (number 1) here no_trees

-- a node that has another one twice
trees_of_numbers : grown [] (one ∷ both ∷ []) ≡ leaf ∷ node conjunction here (tree leaf (tree leaf no_trees)) ∷ []
trees_of_numbers = refl

a_part_is_older : AreOlder 0 (one ∷ both ∷ [])
a_part_is_older = (tt, ((omega arith, (omega arith, tt)), tt))

none_is_a_part_of_itself : AllBelow 0 both.parts → ⊥
none_is_a_part_of_itself h = omega (arith, h.0)

a_conjunction_has_two : AreShaped (both ∷ [])
a_conjunction_has_two = (refl, tt)

another_place_is_another_node : same_entry one one_there ≡ true → ⊥
another_place_is_another_node h =
    let lines : 1 ≡ 2 = ap (λ (n : Entry). n.place.line) ((same_entry-Decides one one_there).0 h) in
    omega (arith, lines)

-- behind the parts the length of the word, here 0
place_and_parts_are_hashed : fed_entry both ≡ fed.u64 4294967297 ++ fed.usize 0 ++ fed.usize 0 ++ fed.usize 0
place_and_parts_are_hashed = refl

abbrev x : Entry
x = record { form = name (120 ∷ []); place = here; parts = [] }

a_name_is_hashed_by_its_word : fed_entry x ≡ fed.u64 4294967297 ++ fed.usize 1 ++ fed.u8 120
a_name_is_hashed_by_its_word = refl

a_tree_has_its_form : root_form (node conjunction here (tree leaf (tree leaf no_trees))) ≡ conjunction
a_tree_has_its_form = refl

a_tree_has_its_parts : root_parts (node conjunction here (tree leaf (tree leaf no_trees))) ≡ leaf ∷ leaf ∷ []
a_tree_has_its_parts = refl

-- a 1 for each name
abbrev ones : Word → Place → Option Tree
ones x p = Some leaf

abbrev two : List Tree
two = leaf ∷ node (name (120 ∷ [])) here no_trees ∷ []

of_a_name_and_of_a_1_a_1_is_made : AreMade ones two ((1, 0) ∷ (0, 0) ∷ [])
of_a_name_and_of_a_1_a_1_is_made = ((omega arith, omega arith, refl), ((omega arith, omega arith, refl), tt))

-- a node whose two parts are one that isn't done
parts_are_visited_before : InOrder [] (visit.Leave 1 both ∷ to_parts both.parts)
parts_are_visited_before = ((inl refl, (inl refl, tt)), tt)

done_parts_need_no_visit : InOrder ((0, 0) ∷ []) (visit.Leave 1 both ∷ [])
done_parts_need_no_visit = (((0, refl), ((0, refl), tt)), tt)

work_of_two_visits : all_work two (visit.Enter 1 ∷ visit.Leave 0 one ∷ []) ≡ 3
work_of_two_visits = refl
