-- What is left after left sides and lists of expressions, part by part.
use Rattle.std.proofs.Common.{◌≡◌, ℕ, ◌+◌, ◌*◌, ◌<◌, ◌≤◌, nat_lt, List, ◌∷◌, length, drop, get_or, Option, Some, None, sym, ap, ◌∙◌, arith}
use Rattle.std.proofs.lemmas.List.{drop_more, drop_all}
use Rattle.tla_token.specs.declared.place.Place.{Place}
use Rattle.tla_token.specs.Limits.{deepest_expression}
use Rattle.tla_tree.specs.Tree.{Word, name, Tree, Trees, Graft, grafted_name, grafted_node}
use Rattle.tla_tree.specs.Nesting.{tree_nesting}
use Rattle.tla_tree.specs.Pool.{at, trees_at}
use Rattle.macro_expand.specs.Measured.{of_trees}
use Rattle.macro_expand.specs.Size.{nodes}
use Rattle.expansion_size.specs.declared.left.Left.{Left}
use Rattle.expansion_size.specs.Spent.{spend}
use Rattle.expansion_size.specs.Budget.{budget}
use Rattle.expansion_size.specs.TreesSpent.{tree_spent, left_spent}
use Rattle.expansion_size.proofs.SpendLaws.{none_spent}

-- ---- expressions

pub whole_spent : (t : Tree) (l : Left) → tree_spent 1 deepest_expression t l ≡ spend (nodes t) 0 (nat_lt deepest_expression (tree_nesting t)) l
whole_spent t l = ap (λ (n : ℕ). spend n 0 (nat_lt deepest_expression (tree_nesting t)) l) (once (nodes t))
  where
    once : (n : ℕ) → 1 * n ≡ n
    once n = omega arith

module _ (g : Graft) (ts : List Tree) (es : List ℕ) where
  pub list_more : (i e d : ℕ) (l k : Left) → e ≡ get_or es i e → i < length es → k ≡ (budget g).expression (at ts e) d l
      → of_trees (budget g) (trees_at ts (drop (i + 1) es)) d k ≡ of_trees (budget g) (trees_at ts (drop i es)) d l
  list_more i e d l k here within is =
      ap (of_trees (budget g) (trees_at ts (drop (i + 1) es)) d) is
      ∙ ap (λ (is : List ℕ). of_trees (budget g) (trees_at ts is) d l) (ap (λ (n : ℕ). n ∷ drop (i + 1) es) here ∙ sym (drop_more es i e within))

  pub list_done : (i d : ℕ) (l : Left) → length es ≤ i → of_trees (budget g) (trees_at ts (drop i es)) d l ≡ l
  list_done i d l h = ap (λ (is : List ℕ). of_trees (budget g) (trees_at ts is) d l) (drop_all i es h)

-- ---- left sides

pub root_alone : (g : Graft) (x : Word) (p : Place) (us : Trees) (l : Left) → None ≡ g x p → l ≡ left_spent (grafted_node g (name x) p us) l
root_alone g x p us l h = sym (none_spent l) ∙ ap (λ (o : Option Tree). left_spent (grafted_name o (name x) p us) l) h

pub root_put : (g : Graft) (x : Word) (p : Place) (us : Trees) (t : Tree) (l : Left) → Some t ≡ g x p → left_spent t l ≡ left_spent (grafted_node g (name x) p us) l
root_put g x p us t l h = ap (λ (o : Option Tree). left_spent (grafted_name o (name x) p us) l) h
