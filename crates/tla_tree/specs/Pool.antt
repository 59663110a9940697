-- A pool of nodes: nodes over the numbers of their parts, and the trees that they stand for.
use Rattle.std.specs.Prelude.{◌≡◌, ℕ, ◌+◌, ◌<◌, ◌≤◌, Bool, List, [], ◌∷◌, ◌++◌, length, map, get_or}
use Rattle.std.specs.Coded.{Coded, codes}
use Rattle.tla_token.specs.declared.place.Place.{Place}
use Rattle.tla_token.specs.Places.{nowhere}
use Rattle.tla_tree.specs.Tree.{Form, Tree, node, Trees, no_trees, number}
use Rattle.tla_tree.specs.TreeOf.{trees_from}
use Rattle.tla_tree.specs.Shapes.{Shaped}
use Rattle.tla_tree.specs.Same.{same_by}

-- a node: a form, a place, and the numbers of its parts
pub record Entry : Type 0 where
  pub form : Form
  pub place : Place
  pub parts : List ℕ

pub entry_code : Coded Entry
entry_code = hlevel codes

unfoldable pub same_entry : Entry → Entry → Bool
same_entry a b = same_by entry_code a b

-- the tree of a number; past the list, any
abbrev pub nothing : Tree
nothing = node (number 0) nowhere no_trees

abbrev pub at : List Tree → ℕ → Tree
at ts i = get_or ts i nothing

abbrev pub trees_at : List Tree → List ℕ → Trees
trees_at ts is = trees_from (map (at ts) is)

-- the tree of a node over these trees
abbrev pub tree_in : List Tree → Entry → Tree
tree_in ts n = node n.form n.place (trees_at ts n.parts)

-- the trees of the nodes, after those that are there
abbrev pub grown : List Tree → List Entry → List Tree
grown ts [] = ts
grown ts (n ∷ ns) = grown (ts ++ tree_in ts n ∷ []) ns

-- numbers below m
abbrev pub AllBelow : ℕ → List ℕ → Type 0
AllBelow m [] = Unit {0}
AllBelow m (i ∷ is) = (i < m) × AllBelow m is

-- the parts of each node have smaller numbers, where the first node has the number m
abbrev pub AreOlder : ℕ → List Entry → Type 0
AreOlder m [] = Unit {0}
AreOlder m (n ∷ ns) = AllBelow m n.parts × AreOlder (m + 1) ns

-- no trees are lost, and the old ones keep their numbers
pub record Keeps (old new : List Tree) : Type 0 where
  pub longer : length old ≤ length new
  pub same : (i : ℕ) → i < length old → at new i ≡ at old i

-- different numbers have different trees
abbrev pub Differ : List Tree → Type 0
Differ ts = (i j : ℕ) → i < length ts → j < length ts → at ts i ≡ at ts j → i ≡ j

-- each node has the number of parts that its form asks for
abbrev pub AreShaped : List Entry → Type 0
AreShaped [] = Unit {0}
AreShaped (n ∷ ns) = Shaped n.form (length n.parts) × AreShaped ns
