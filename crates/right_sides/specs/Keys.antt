-- The subscripts and fields of a left side, node by node from the outermost one in ("A PlusCal User's Manual", section 3.2.1).
use Rattle.std.specs.Prelude.{ℕ, List, [], ◌∷◌, ◌++◌}
use Rattle.tla_tree.specs.Tree.{apply, select, strict, Tree, node, Trees, no_trees, tree}
use Rattle.tla_tree.specs.Pool.{at}
use Rattle.action_builder.specs.Written.{Key, sub, fixed, subs}

-- the subscripts of a node behind its first part
abbrev pub rest_subs : Trees → List Key
rest_subs no_trees = []
rest_subs (tree f us) = subs us

-- what a node adds to the keys of its first part
abbrev pub own_keys : Tree → List Key
own_keys (node (strict apply) p ts) = rest_subs ts
own_keys (node (strict (select a)) p ts) = rest_subs ts ++ (fixed a ∷ [])
own_keys _ = []

-- the keys of a left side, read through subscripts and fields alone
abbrev mutual
  pub left_keys : Tree → List Key
  left_keys (node (strict apply) p ts) = first_keys ts ++ rest_subs ts
  left_keys (node (strict (select a)) p ts) = first_keys ts ++ (rest_subs ts ++ (fixed a ∷ []))
  left_keys _ = []

  pub first_keys : Trees → List Key
  first_keys no_trees = []
  first_keys (tree f us) = left_keys f

-- those of nodes of which each is the first part of the one before it
abbrev pub keys_along : List Tree → List ℕ → List Key
keys_along ts [] = []
keys_along ts (i ∷ is) = keys_along ts is ++ own_keys (at ts i)

-- the subscripts among keys
abbrev pub key_trees : List Key → List Tree
key_trees [] = []
key_trees (sub t ∷ ks) = t ∷ key_trees ks
key_trees (fixed a ∷ ks) = key_trees ks
