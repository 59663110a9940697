-- The sum of a tree has the value of the tree with others put in for its names.
use Rattle.std.proofs.Common.{◌≡◌, ℕ, ◌+◌, ◌*◌, List, [], ◌∷◌, Bool, true, false, cond, max, bytes_eq, Option, Some, None, refl, sym, ap, ◌∙◌, arith}
use Rattle.std.proofs.Math.Nat.{zero-max}
use Rattle.tla_token.specs.declared.place.Place.{Place}
use Rattle.tla_tree.specs.Tree.{Word, Name, Form, name, strict, apply, select, Tree, node, Trees, no_trees, tree, graft, grafts, grafted_node, grafted_name}
use Rattle.tla_tree.specs.Nesting.{tree_nesting, trees_nesting, form_nesting}
use Rattle.pcal_tree.specs.Algorithm.{nowhere}
use Rattle.pcal_tree.specs.Run.{arguments}
use Rattle.pcal_tree.specs.Expand.{placed_at, graft_left}
use Rattle.macro_expand.specs.Size.{weights, form_nodes, nodes, weighed, in_left, after_first, subscript_nodes, first_subscript_nodes, left_nesting, first_left_nesting}
use Rattle.macro_expand.specs.laws.Sums.{Unknown, whole, root, Arithmetic, counting, nesting, Sum, number, only, plus, times, value, as_names, form_sum, tree_sum, weighed_sum, sum_in_left, left_sum, first_left_sum, whole_sum, root_sum, argument}
use Rattle.macro_expand.proofs.SumLaws.{IsArithmetic, is_counting, is_nesting, value_plus, value_times, value_only}

-- arguments don't depend on places
any_place : (ps : List Name) (ts : Trees) (x : Word) (at : Place) → arguments ps ts x at ≡ arguments ps ts x nowhere
any_place [] ts x at = refl
any_place (p ∷ ps) no_trees x at = refl
any_place (p ∷ ps) (tree t ts) x at = ap (λ (o : Option Tree). cond (bytes_eq p.word x) (Some t) o) (any_place ps ts x at)

-- the numbers for names under which arguments are put in
abbrev pub under : Arithmetic → (Unknown → ℕ) → List Name → Trees → Unknown → ℕ
under A f ps ts v = value A f (argument A ps ts v)

-- ---- arguments put in

name_sum : (A : Arithmetic) (f : Unknown → ℕ) (x : Word) (at : Place) (us : Trees) (o : Option Tree) → tree_sum A (grafted_name o (name x) at us) ≡ whole_sum A x o
name_sum A f x at us (Some t) = refl
name_sum A f x at us None = refl

root_name_sum : (A : Arithmetic) (f : Unknown → ℕ) (x : Word) (at : Place) (us : Trees) (o : Option Tree) → left_sum A (grafted_name o (name x) at us) ≡ root_sum A x o
root_name_sum A f x at us (Some t) = refl
root_name_sum A f x at us None = refl

form_put : (A : Arithmetic) (H : IsArithmetic A) (f : Unknown → ℕ) (ps : List Name) (ts : Trees) (m : Form) (at : Place) (us : Trees)
    → value A f (weighed_sum A (A.weights m) (grafts (arguments ps ts) us)) ≡ value A (under A f ps ts) (weighed_sum A (A.weights m) us)
    → value A f (tree_sum A (grafted_node (arguments ps ts) m at (grafts (arguments ps ts) us))) ≡ value A (under A f ps ts) (form_sum A m (weighed_sum A (A.weights m) us))
form_put A H f ps ts (name x) at us h =
    ap (value A f) (name_sum A f x at (grafts (arguments ps ts) us) (arguments ps ts x at) ∙ ap (whole_sum A x) (any_place ps ts x at))
    ∙ sym (value_only A H (under A f ps ts) (whole x))
form_put A H f ps ts m at us h =
    value_plus A H f (number A.node) (weighed_sum A (A.weights m) (grafts (arguments ps ts) us))
    ∙ ap (A.plus A.node) h
    ∙ sym (value_plus A H (under A f ps ts) (number A.node) (weighed_sum A (A.weights m) us))

part_put : (A : Arithmetic) (H : IsArithmetic A) (f g : Unknown → ℕ) (k : ℕ) (a b c d : Sum) → value A f a ≡ value A g c → value A f b ≡ value A g d → value A f (plus A (times A k a) b) ≡ value A g (plus A (times A k c) d)
part_put A H f g k a b c d p q =
    value_plus A H f (times A k a) b
    ∙ (λ z. A.plus ((value_times A H f k a ∙ ap (A.times k) p ∙ sym (value_times A H g k c)) z) (q z))
    ∙ sym (value_plus A H g (times A k c) d)

mutual
  pub tree_put : (A : Arithmetic) (H : IsArithmetic A) (f : Unknown → ℕ) (ps : List Name) (ts : Trees) (t : Tree)
      → value A f (tree_sum A (graft (arguments ps ts) t)) ≡ value A (under A f ps ts) (tree_sum A t)
  tree_put A H f ps ts (node m at us) = form_put A H f ps ts m at us (weighed_put A H f ps ts us (A.weights m))

  weighed_put : (A : Arithmetic) (H : IsArithmetic A) (f : Unknown → ℕ) (ps : List Name) (ts : Trees) (us : Trees) (ks : List ℕ)
      → value A f (weighed_sum A ks (grafts (arguments ps ts) us)) ≡ value A (under A f ps ts) (weighed_sum A ks us)
  weighed_put A H f ps ts no_trees ks = refl
  weighed_put A H f ps ts (tree t us) [] =
      part_put A H f (under A f ps ts) 1 (tree_sum A (graft (arguments ps ts) t)) (weighed_sum A [] (grafts (arguments ps ts) us)) (tree_sum A t) (weighed_sum A [] us) (tree_put A H f ps ts t) (weighed_put A H f ps ts us [])
  weighed_put A H f ps ts (tree t us) (k ∷ ks) =
      part_put A H f (under A f ps ts) k (tree_sum A (graft (arguments ps ts) t)) (weighed_sum A ks (grafts (arguments ps ts) us)) (tree_sum A t) (weighed_sum A ks us) (tree_put A H f ps ts t) (weighed_put A H f ps ts us ks)

-- ---- left sides

after_put : (A : Arithmetic) (H : IsArithmetic A) (f : Unknown → ℕ) (ps : List Name) (ts us : Trees)
    → value A f (weighed_sum A [] (after_first (grafts (arguments ps ts) us))) ≡ value A (under A f ps ts) (weighed_sum A [] (after_first us))
after_put A H f ps ts no_trees = refl
after_put A H f ps ts (tree t us) = weighed_put A H f ps ts us []

left_form_put : (A : Arithmetic) (H : IsArithmetic A) (f : Unknown → ℕ) (ps : List Name) (ts : Trees) (m : Form) (at : Place) (us : Trees)
    → value A f (first_left_sum A (grafts (arguments ps ts) us)) ≡ value A (under A f ps ts) (first_left_sum A us)
    → value A f (left_sum A (grafted_node (arguments ps ts) m at (grafts (arguments ps ts) us))) ≡ value A (under A f ps ts) (sum_in_left A m (first_left_sum A us) (weighed_sum A [] (after_first us)))
left_form_put A H f ps ts (name x) at us h =
    ap (value A f) (root_name_sum A f x at (grafts (arguments ps ts) us) (arguments ps ts x at) ∙ ap (root_sum A x) (any_place ps ts x at))
    ∙ sym (value_only A H (under A f ps ts) (root x))
left_form_put A H f ps ts (strict apply) at us h =
    value_plus A H f (first_left_sum A (grafts (arguments ps ts) us)) (weighed_sum A [] (after_first (grafts (arguments ps ts) us)))
    ∙ (λ z. A.plus (h z) (after_put A H f ps ts us z))
    ∙ sym (value_plus A H (under A f ps ts) (first_left_sum A us) (weighed_sum A [] (after_first us)))
left_form_put A H f ps ts (strict (select a)) at us h = h
left_form_put A H f ps ts m at us h = refl

mutual
  left_graft_put : (A : Arithmetic) (H : IsArithmetic A) (f : Unknown → ℕ) (ps : List Name) (ts : Trees) (t : Tree)
      → value A f (left_sum A (graft (arguments ps ts) t)) ≡ value A (under A f ps ts) (left_sum A t)
  left_graft_put A H f ps ts (node m at us) = left_form_put A H f ps ts m at us (first_left_put A H f ps ts us)

  first_left_put : (A : Arithmetic) (H : IsArithmetic A) (f : Unknown → ℕ) (ps : List Name) (ts : Trees) (us : Trees)
      → value A f (first_left_sum A (grafts (arguments ps ts) us)) ≡ value A (under A f ps ts) (first_left_sum A us)
  first_left_put A H f ps ts no_trees = refl
  first_left_put A H f ps ts (tree l us) = left_graft_put A H f ps ts l

left_placed : (A : Arithmetic) (p : Place) (t : Tree) → left_sum A (placed_at p t) ≡ left_sum A t
left_placed A p (node m at ts) = refl

pub left_put : (A : Arithmetic) (H : IsArithmetic A) (f : Unknown → ℕ) (ps : List Name) (ts : Trees) (l : Tree)
    → value A f (left_sum A (graft_left (arguments ps ts) l)) ≡ value A (under A f ps ts) (left_sum A l)
left_put A H f ps ts (node m at us) = ap (value A f) (left_placed A at (graft (arguments ps ts) (node m at us))) ∙ left_graft_put A H f ps ts (node m at us)

-- ---- nothing put in: nodes

abbrev ν : Unknown → ℕ
ν = as_names counting

form_nodes_are : (m : Form) (s : Sum) (n : ℕ) → value counting ν s ≡ n → value counting ν (form_sum counting m s) ≡ form_nodes m n
form_nodes_are (name x) s n h = value_only counting is_counting ν (whole x)
form_nodes_are m s n h = value_plus counting is_counting ν (number 1) s ∙ ap (λ (k : ℕ). 1 + k) h

part_nodes : (k : ℕ) (a b : Sum) (m n : ℕ) → value counting ν a ≡ m → value counting ν b ≡ n → value counting ν (plus counting (times counting k a) b) ≡ k * m + n
part_nodes k a b m n p q =
    value_plus counting is_counting ν (times counting k a) b
    ∙ (λ z. (value_times counting is_counting ν k a ∙ ap (λ (i : ℕ). k * i) p) z + q z)

mutual
  pub nodes_are : (t : Tree) → value counting ν (tree_sum counting t) ≡ nodes t
  nodes_are (node m at ts) = form_nodes_are m (weighed_sum counting (weights m) ts) (weighed (weights m) ts) (weighed_are ts (weights m))

  weighed_are : (ts : Trees) (ks : List ℕ) → value counting ν (weighed_sum counting ks ts) ≡ weighed ks ts
  weighed_are no_trees ks = refl
  weighed_are (tree t ts) [] = part_nodes 1 (tree_sum counting t) (weighed_sum counting [] ts) (nodes t) (weighed [] ts) (nodes_are t) (weighed_are ts []) ∙ ap (λ (k : ℕ). k + weighed [] ts) (is_counting.unit (nodes t))
  weighed_are (tree t ts) (k ∷ ks) = part_nodes k (tree_sum counting t) (weighed_sum counting ks ts) (nodes t) (weighed ks ts) (nodes_are t) (weighed_are ts ks)

left_form_nodes : (m : Form) (s r : Sum) (n k : ℕ) → value counting ν s ≡ n → value counting ν r ≡ k → value counting ν (sum_in_left counting m s r) ≡ in_left (λ i j. i + j) m n k
left_form_nodes (name x) s r n k p q = value_only counting is_counting ν (root x)
left_form_nodes (strict apply) s r n k p q = value_plus counting is_counting ν s r ∙ (λ z. p z + q z)
left_form_nodes (strict (select a)) s r n k p q = p
left_form_nodes m s r n k p q = refl

mutual
  pub subscript_nodes_are : (t : Tree) → value counting ν (left_sum counting t) ≡ subscript_nodes t
  subscript_nodes_are (node m at ts) = left_form_nodes m (first_left_sum counting ts) (weighed_sum counting [] (after_first ts)) (first_subscript_nodes ts) (weighed [] (after_first ts)) (first_subscript_nodes_are ts) (weighed_are (after_first ts) [])

  first_subscript_nodes_are : (ts : Trees) → value counting ν (first_left_sum counting ts) ≡ first_subscript_nodes ts
  first_subscript_nodes_are no_trees = refl
  first_subscript_nodes_are (tree l ts) = subscript_nodes_are l

-- ---- nothing put in: nesting

abbrev δ : Unknown → ℕ
δ = as_names nesting

form_nesting_is : (m : Form) (s : Sum) (n : ℕ) → value nesting δ s ≡ n → value nesting δ (form_sum nesting m s) ≡ form_nesting m n
form_nesting_is (name x) s n h = value_only nesting is_nesting δ (whole x)
form_nesting_is m s n h = value_plus nesting is_nesting δ (number 0) s ∙ zero-max (value nesting δ s) ∙ h

part_nesting : (a b : Sum) (m n : ℕ) → value nesting δ a ≡ m → value nesting δ b ≡ n → value nesting δ (plus nesting (times nesting 1 a) b) ≡ max (1 + m) n
part_nesting a b m n p q =
    value_plus nesting is_nesting δ (times nesting 1 a) b
    ∙ (λ z. max ((value_times nesting is_nesting δ 1 a ∙ ap (λ (i : ℕ). 1 + i) p) z) (q z))

mutual
  pub nesting_is : (t : Tree) → value nesting δ (tree_sum nesting t) ≡ tree_nesting t
  nesting_is (node m at ts) = form_nesting_is m (weighed_sum nesting [] ts) (trees_nesting ts) (parts_nesting_is ts)

  parts_nesting_is : (ts : Trees) → value nesting δ (weighed_sum nesting [] ts) ≡ trees_nesting ts
  parts_nesting_is no_trees = refl
  parts_nesting_is (tree t ts) = part_nesting (tree_sum nesting t) (weighed_sum nesting [] ts) (tree_nesting t) (trees_nesting ts) (nesting_is t) (parts_nesting_is ts)

left_form_nesting : (m : Form) (s r : Sum) (n k : ℕ) → value nesting δ s ≡ n → value nesting δ r ≡ k → value nesting δ (sum_in_left nesting m s r) ≡ in_left max m n k
left_form_nesting (name x) s r n k p q = value_only nesting is_nesting δ (root x)
left_form_nesting (strict apply) s r n k p q = value_plus nesting is_nesting δ s r ∙ (λ z. max (p z) (q z))
left_form_nesting (strict (select a)) s r n k p q = p
left_form_nesting m s r n k p q = refl

mutual
  pub left_nesting_is : (t : Tree) → value nesting δ (left_sum nesting t) ≡ left_nesting t
  left_nesting_is (node m at ts) = left_form_nesting m (first_left_sum nesting ts) (weighed_sum nesting [] (after_first ts)) (first_left_nesting ts) (trees_nesting (after_first ts)) (first_left_nesting_is ts) (parts_nesting_is (after_first ts))

  first_left_nesting_is : (ts : Trees) → value nesting δ (first_left_sum nesting ts) ≡ first_left_nesting ts
  first_left_nesting_is no_trees = refl
  first_left_nesting_is (tree l ts) = left_nesting_is l
