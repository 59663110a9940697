-- Facts of each node of a tree, and of each word, by weaker ones.
use Rattle.std.proofs.Common.{List, [], ◌∷◌}
use Rattle.tla_token.specs.declared.place.Place.{Place}
use Rattle.tla_tree.specs.Tree.{Word, Form, Tree, node, Trees, no_trees, tree, Every, EveryOf, Each}

pub each_weaker : (P Q : Word → Type 0) → ((x : Word) → P x → Q x) → (xs : List Word) → Each P xs → Each Q xs
each_weaker P Q h [] p = tt
each_weaker P Q h (x ∷ xs) p = (h x p.0, each_weaker P Q h xs p.1)

mutual
  pub every_weaker : (P Q : Form → Place → Type 0) → ((m : Form) (at : Place) → P m at → Q m at) → (t : Tree) → Every P t → Every Q t
  every_weaker P Q h (node m at ts) p = (h m at p.0, every_of_weaker P Q h ts p.1)

  pub every_of_weaker : (P Q : Form → Place → Type 0) → ((m : Form) (at : Place) → P m at → Q m at) → (ts : Trees) → EveryOf P ts → EveryOf Q ts
  every_of_weaker P Q h no_trees p = tt
  every_of_weaker P Q h (tree t ts) p = (every_weaker P Q h t p.0, every_of_weaker P Q h ts p.1)
