-- How deep the tree of a definition nests, if it reads and is not too deep, in one walk: the names that are bound in it are no definitions, so none is hidden.
use Rattle.std.specs.Prelude.{ℕ, ◌+◌, max, nat_le, Bool, true, false, not, ◌&&◌, List, [], ◌∷◌, ◌++◌, Option, Some, None}
use Rattle.tla_token.specs.Limits.{deepest_definition}
use Rattle.tla_token.specs.Signs.{is_among}
use Rattle.tla_tree.specs.Tree.{Word, Tree, node, Trees, no_trees, tree, seen_names}
use Rattle.tla_value.specs.Definitions.{Definition}
use Rattle.tla_value.specs.DefinitionNesting.{Depths, used}
use Rattle.tla_value.specs.StandardModules.{is_member, is_last}
use Rattle.module_tree.specs.Outside.{Sight, are_fresh, count, form_reads}

abbrev pub if_true : Bool → Option ℕ → Option ℕ
if_true true o = o
if_true false o = None

abbrev pub if_so : Bool → ℕ → Option ℕ
if_so b n = if_true b (Some n)

-- no deeper than a definition may be
abbrev pub up_to_deepest : ℕ → Option ℕ
up_to_deepest n = if_true (nat_le n deepest_definition) (Some n)

-- a use, and the parts
abbrev pub with_parts : ℕ → Option ℕ → Option ℕ
with_parts k (Some n) = up_to_deepest (max k n)
with_parts k None = None

-- a part, and those after it
abbrev pub beside : Option ℕ → Option ℕ → Option ℕ
beside (Some n) (Some k) = Some (max (1 + n) k)
beside n k = None

abbrev pub first_names : List (List Word) → List Word
first_names [] = []
first_names (xs ∷ names) = xs

abbrev pub more_names : List (List Word) → List (List Word)
more_names [] = []
more_names (xs ∷ names) = names

abbrev mutual
  pub tree_depth : Sight → Depths → List Word → Bool → Tree → Option ℕ
  tree_depth v ds bs inf (node m at ts) = if_true (form_reads v bs inf m (count ts)) (with_parts (used ds m) (trees_depth v ds bs (seen_names m) (is_member m) ts))

  -- each part sees further names, and the last may be infinite
  pub trees_depth : Sight → Depths → List Word → List (List Word) → Bool → Trees → Option ℕ
  trees_depth v ds bs names inf no_trees = Some 0
  trees_depth v ds bs names inf (tree t ts) = beside (tree_depth v ds (first_names names ++ bs) (inf && is_last ts) t) (trees_depth v ds bs (more_names names) inf ts)

-- of a definition
abbrev pub definition_depth : Sight → Depths → Definition → Option ℕ
definition_depth v ds d =
    if_true (not (is_among v.constants d.title)) (if_true (are_fresh v [] d.params) (tree_depth v ds d.params false d.body))
