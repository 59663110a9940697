-- Lists of trees, and the parts of a tree.
use Rattle.std.proofs.Common.{◌≡◌, ℕ, zero, suc, List, [], ◌∷◌, map, refl, ap, ◌∙◌, Some}
use Rattle.std.specs.Prelude.{slice_get}
use Rattle.tla_tree.specs.Tree.{Tree, tree, Graft, graft, grafts}
use Rattle.tla_tree.specs.TreeOf.{trees_from, list_of, root_parts}
use Rattle.tla_tree.specs.Pool.{Entry, at, tree_in}

pub grafts_from : (g : Graft) (ts : List Tree) → trees_from (map (graft g) ts) ≡ grafts g (trees_from ts)
grafts_from g [] = refl
grafts_from g (t ∷ ts) = ap (tree (graft g t)) (grafts_from g ts)

list_of-from : (ts : List Tree) → list_of (trees_from ts) ≡ ts
list_of-from [] = refl
list_of-from (t ∷ ts) = ap (λ l. t ∷ l) (list_of-from ts)

-- the parts of a node's tree
pub root_parts-entry : (ts : List Tree) (n : Entry) (t : Tree) → t ≡ tree_in ts n → root_parts t ≡ map (at ts) n.parts
root_parts-entry ts n t e = ap root_parts e ∙ list_of-from (map (at ts) n.parts)

pub map-slice_get : {A B : Type 0} (f : A → B) (xs : List A) (i : ℕ) (a : A) → slice_get xs i ≡ Some a → slice_get (map f xs) i ≡ Some (f a)
map-slice_get f [] i a h = cc
map-slice_get f (x ∷ xs) zero a h = cc
map-slice_get f (x ∷ xs) (suc i) a h = map-slice_get f xs i a h
