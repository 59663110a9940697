-- A tree that has no name for which a tree is put in is as it is.
use Rattle.std.proofs.Common.{◌≡◌, ℕ, Bool, false, List, [], ◌∷◌, length, cond, Some, None, refl, ap, ◌∙◌, arith}
use Rattle.tla_token.specs.Signs.{is_among}
use Rattle.tla_token.specs.declared.place.Place.{Place}
use Rattle.tla_tree.specs.Tree.{Word, Form, name, Tree, node, Trees, no_trees, tree, Every, EveryOf, Graft, graft, grafts, grafted_name, grafted_node}
use Rattle.prime_subst.specs.Readers.{Lacks}

module _ (A : Word → Bool) (f : Word → Place → Tree) where
  -- a tree for each name of A
  abbrev pub for_all : Graft
  for_all x p = cond (A x) (Some (f x p)) None

  left_node : (m : Form) (p : Place) (us : Trees) → Lacks A m p → grafted_node for_all m p us ≡ node m p us
  left_node (name x) p us h = ap (λ (b : Bool). grafted_name (cond b (Some (f x p)) None) (name x) p us) h
  left_node m p us h = refl

  mutual
    pub left_alone : (t : Tree) → Every (Lacks A) t → graft for_all t ≡ t
    left_alone (node m p ts) h = left_node m p (grafts for_all ts) h.0 ∙ ap (node m p) (all_left ts h.1)

    all_left : (ts : Trees) → EveryOf (Lacks A) ts → grafts for_all ts ≡ ts
    all_left no_trees h = refl
    all_left (tree t ts) h = λ j. tree (left_alone t h.0 j) (all_left ts h.1 j)

  -- where A has no name, so is every tree
  none_lacked : ((x : Word) → A x ≡ false) → (m : Form) (p : Place) → Lacks A m p
  none_lacked h (name x) p = h x
  none_lacked h m p = tt

  mutual
    pub all_lack : ((x : Word) → A x ≡ false) → (t : Tree) → Every (Lacks A) t
    all_lack h (node m p ts) = (none_lacked h m p, each_lacks h ts)

    each_lacks : ((x : Word) → A x ≡ false) → (ts : Trees) → EveryOf (Lacks A) ts
    each_lacks h no_trees = tt
    each_lacks h (tree t ts) = (all_lack h t, each_lacks h ts)

-- among no names there is none
pub none_among : (xs : List Word) → xs ≡ [] → (x : Word) → is_among xs x ≡ false
none_among xs e x = rw e refl

pub nothing_put : (f : Word → Place → Tree) (xs : List Word) → xs ≡ [] → (t : Tree) → graft (for_all (is_among xs) f) t ≡ t
nothing_put f xs e t = left_alone (is_among xs) f t (all_lack (is_among xs) f (none_among xs e) t)

pub no_member : (xs : List Word) (n : ℕ) → n ≡ length xs → n ≡ 0 → xs ≡ []
no_member [] n e z = refl
no_member (x ∷ xs) n e z = absurd (omega (arith, e, z))
