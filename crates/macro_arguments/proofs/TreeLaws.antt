-- An expression with what stands for its names: by what stands for it itself, or over its parts.
use Rattle.std.proofs.Common.{◌≡◌, ℕ, zero, suc, ◌+◌, ◌<◌, ◌≤◌, List, [], ◌∷◌, length, get_or, option_map, Option, Some, None, refl, sym, ap, subst, ◌∙◌, arith}
use Rattle.std.specs.Prelude.{IfSome, IfNone}
use Rattle.tla_token.specs.declared.place.Place.{Place}
use Rattle.tla_tree.specs.Tree.{Word, Form, name, Tree, node, Trees, no_trees, tree, Graft, graft, grafts, grafted_node, grafted_name, size, sizes}
use Rattle.tla_tree.specs.Pool.{Entry, at, trees_at, tree_in}
use Rattle.pcal_tree.specs.Expand.{placed_at, graft_left}
use Rattle.pcal_tree.specs.OffencesSteps.{nothing_put}
use Rattle.expansion_size.specs.declared.frames.Found.{Found}
use Rattle.expansion_size.specs.FramesIn.{found_tree}
use Rattle.expansion_size.proofs.GraftLaws.{graft_none}
use Rattle.macro_arguments.specs.Expressions.{over_parts}

module _ (ts : List Tree) (g : Graft) (x : Word) (p : Place) (us : Trees) where
  name_none : (o : Option Found) → option_map (found_tree ts) o ≡ g x p → IfNone o (grafted_node g (name x) p (grafts g us) ≡ node (name x) p (grafts g us))
  name_none (Some f) h = tt
  name_none None h = ap (λ (o : Option Tree). grafted_name o (name x) p (grafts g us)) (sym h)

  name_some : (o : Option Found) → option_map (found_tree ts) o ≡ g x p → IfSome o (λ f. found_tree ts f ≡ grafted_node g (name x) p (grafts g us))
  name_some (Some f) h = ap (λ (o : Option Tree). grafted_name o (name x) p (grafts g us)) h
  name_some None h = tt

pub found_none : (ts : List Tree) (g : Graft) (n : Entry) (x : Word) (t : Tree) → n.form ≡ name x → t ≡ tree_in ts n → (o : Option Found) → option_map (found_tree ts) o ≡ g x n.place → IfNone o (graft g t ≡ over_parts g t)
found_none ts g n x t named is o h =
    subst (λ (t : Tree). IfNone o (graft g t ≡ over_parts g t)) (ap (λ (m : Form). node m n.place (trees_at ts n.parts)) (sym named) ∙ sym is) (name_none ts g x n.place (trees_at ts n.parts) o h)

pub found_some : (ts : List Tree) (g : Graft) (n : Entry) (x : Word) (t : Tree) → n.form ≡ name x → t ≡ tree_in ts n → (o : Option Found) → option_map (found_tree ts) o ≡ g x n.place → IfSome o (λ f. found_tree ts f ≡ graft g t)
found_some ts g n x t named is o h =
    subst (λ (t : Tree). IfSome o (λ f. found_tree ts f ≡ graft g t)) (ap (λ (m : Form). node m n.place (trees_at ts n.parts)) (sym named) ∙ sym is) (name_some ts g x n.place (trees_at ts n.parts) o h)

-- a part is no larger than all parts
pub part_size : (g : Graft) (ts : List Tree) (es : List ℕ) (i e : ℕ) → e ≡ get_or es i e → i < length es → size (graft g (at ts e)) ≤ sizes (grafts g (trees_at ts es))
part_size g ts [] i e h l = absurd (let n : ⊥ = omega (arith, l) in n)
part_size g ts (d ∷ es) zero e h l = let same = ap (λ (n : ℕ). size (graft g (at ts n))) h in omega (arith, same)
part_size g ts (d ∷ es) (suc i) e h l = let less = part_size g ts es i e h (omega (arith, l)) in omega (arith, less)

-- the parts are smaller than the whole
pub parts_size : (g : Graft) (t : Tree) (m : Form) (p : Place) (us : Trees) → graft g t ≡ over_parts g t → t ≡ node m p us → size (graft g t) ≡ 1 + sizes (grafts g us)
parts_size g t m p us h is = ap size (h ∙ ap (over_parts g) is)

-- ---- as many as before

abbrev count : Trees → ℕ
count no_trees = 0
count (tree t us) = suc (count us)

count_at : (ts : List Tree) (es : List ℕ) → count (trees_at ts es) ≡ length es
count_at ts [] = refl
count_at ts (e ∷ es) = ap suc (count_at ts es)

count_put : (g : Graft) (us : Trees) → count (grafts g us) ≡ count us
count_put g no_trees = refl
count_put g (tree t us) = ap suc (count_put g us)

pub as_many : (g : Graft) (ts old : List Tree) (rs es : List ℕ) → trees_at ts rs ≡ grafts g (trees_at old es) → length es ≡ length rs
as_many g ts old rs es h = sym (sym (count_at ts rs) ∙ ap count h ∙ count_put g (trees_at old es) ∙ count_at old es)

-- ---- a left side with nothing put in

pub left_none : (l : Tree) → graft_left nothing_put l ≡ l
left_none (node m at ts) = ap (placed_at at) (graft_none (node m at ts))
