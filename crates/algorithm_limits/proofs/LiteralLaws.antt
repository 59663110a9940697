-- What holds of each literal.
use Rattle.std.proofs.Common.{◌≡◌, ℕ, ◌+◌, Bool, true, false, ◌&&◌, List, [], ◌∷◌, length, drop, get_or, refl, sym, ap, ◌∙◌, arith}
use Rattle.std.proofs.lemmas.List.{drop_more, drop_all}
use Rattle.tla_token.specs.declared.place.Place.{Place}
use Rattle.tla_tree.specs.Tree.{Word, Form, number, string, truth, booleans, strings, Tree, node, Trees, no_trees, tree}
use Rattle.tla_tree.specs.Pool.{Entry, at, trees_at, tree_in}
use Rattle.algorithm_limits.specs.Literals.{is_literal, is_literal_tree, are_literals}

-- ---- what holds of each kind of literal holds of a tree that is one

module _ (P : Tree → Type 0)
    (ofNumber : (n : ℕ) (p : Place) → P (node (number n) p no_trees))
    (ofString : (w : Word) (p : Place) → P (node (string w) p no_trees))
    (ofTruth : (b : Bool) (p : Place) → P (node (truth b) p no_trees))
    (ofBooleans : (p : Place) → P (node booleans p no_trees))
    (ofStrings : (p : Place) → P (node strings p no_trees)) where
  alone : (m : Form) (p : Place) → is_literal m ≡ true → P (node m p no_trees)
  alone (number n) p e = ofNumber n p
  alone (string w) p e = ofString w p
  alone (truth b) p e = ofTruth b p
  alone booleans p e = ofBooleans p
  alone strings p e = ofStrings p
  alone _ p e = cc

  pub each_literal : (t : Tree) → is_literal_tree t ≡ true → P t
  each_literal (node m p no_trees) e = alone m p e
  each_literal (node m p (tree t ts)) e = cc

pub first_literal : (t : Tree) (ts : Trees) → are_literals (tree t ts) ≡ true → is_literal_tree t ≡ true
first_literal t ts e = both (is_literal_tree t) (are_literals ts) e
  where
    both : (a b : Bool) → (a && b) ≡ true → a ≡ true
    both true b e = refl
    both false b e = e

pub more_literals : (t : Tree) (ts : Trees) → are_literals (tree t ts) ≡ true → are_literals ts ≡ true
more_literals t ts e = both (is_literal_tree t) (are_literals ts) e
  where
    both : (a b : Bool) → (a && b) ≡ true → b ≡ true
    both true b e = e
    both false b e = cc
