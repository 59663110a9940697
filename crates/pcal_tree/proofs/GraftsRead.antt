-- What a tree reads free: more names may be read, and trees may be put in for names.
use Rattle.std.proofs.Common.{◌≡◌, List, [], ◌∷◌, Option, Some, None, inl, inr, refl, subst}
use Rattle.tla_token.specs.declared.place.Place.{Place}
use Rattle.tla_tree.specs.Tree.{Word, Form, name, operator_call, Tree, node, Trees, no_trees, tree, seen_names, Graft, grafted_name, grafted_node, graft, grafts}
use Rattle.tla_value.specs.laws.FreeNames.{Or, Also, FormReads, FreeNames, FreeInParts}

-- ---- more names may be read

pub also_weaker : (N N' : Word → Type 0) → ((y : Word) → N y → N' y) → (xs : List Word) (y : Word) → Also xs N y → Also xs N' y
also_weaker N N' h [] y k = h y k
also_weaker N N' h (x ∷ xs) y k = also_weaker (Or x N) (Or x N') or_weaker xs y k
  where
    or_weaker : (z : Word) → Or x N z → Or x N' z
    or_weaker z (inl e) = inl e
    or_weaker z (inr n) = inr (h z n)

mutual
  pub tree_wider : (N N' M : Word → Type 0) → ((y : Word) → N y → N' y) → (t : Tree) → FreeNames N M t → FreeNames N' M t
  tree_wider N N' M f (node m at ts) h = (form_wider m h.0, parts_wider N N' M f (seen_names m) ts h.1)
    where
      form_wider : (m : Form) → FormReads N M m → FormReads N' M m
      form_wider (name x) k = f x k
      form_wider (operator_call x) k = k
      form_wider _ k = tt

  parts_wider : (N N' M : Word → Type 0) → ((y : Word) → N y → N' y) → (names : List (List Word)) (ts : Trees) → FreeInParts N M names ts → FreeInParts N' M names ts
  parts_wider N N' M f names no_trees h = tt
  parts_wider N N' M f [] (tree t ts) h = (tree_wider N N' M f t h.0, parts_wider N N' M f [] ts h.1)
  parts_wider N N' M f (xs ∷ names) (tree t ts) h = (tree_wider (Also xs N) (Also xs N') M (also_weaker N N' f xs) t h.0, parts_wider N N' M f names ts h.1)

-- ---- trees put in

abbrev pub IfFree : (Word → Type 0) → (Word → Type 0) → Option Tree → Type 0
IfFree N M (Some t) = FreeNames N M t
IfFree N M None = Unit {0}

-- what is left of N' is of N, and what is put in reads N, and operators of M; operators of M' are of M
pub record Puts (g : Graft) (N' M' N M : Word → Type 0) : Type 0 where
  pub left : (y : Word) (at : Place) → N' y → g y at ≡ None → N y
  pub put : (y : Word) (at : Place) → IfFree N M (g y at)
  pub operators : (y : Word) → M' y → M y

if_wider : (N N' M : Word → Type 0) → ((y : Word) → N y → N' y) → (o : Option Tree) → IfFree N M o → IfFree N' M o
if_wider N N' M h (Some t) k = tree_wider N N' M h t k
if_wider N N' M h None k = tt

-- under names that are bound
puts_one : (g : Graft) (N' M' N M : Word → Type 0) (x : Word) → Puts g N' M' N M → Puts g (Or x N') M' (Or x N) M
puts_one g N' M' N M x k = record {
  left = λ y at n e. by y at n e;
  put = λ y at. if_wider N (Or x N) M (λ z n. inr n) (g y at) (k.put y at);
  operators = k.operators;
}
  where
    by : (y : Word) (at : Place) → Or x N' y → g y at ≡ None → Or x N y
    by y at (inl e) q = inl e
    by y at (inr n) q = inr (k.left y at n q)

puts_also : (g : Graft) (xs : List Word) (N' M' N M : Word → Type 0) → Puts g N' M' N M → Puts g (Also xs N') M' (Also xs N) M
puts_also g [] N' M' N M k = k
puts_also g (x ∷ xs) N' M' N M k = puts_also g xs (Or x N') M' (Or x N) M (puts_one g N' M' N M x k)

name_put : (g : Graft) (N' M' N M : Word → Type 0) → Puts g N' M' N M → (x : Word) (at : Place) (us : Trees) → N' x → FreeInParts N M [] us → (o : Option Tree) → g x at ≡ o → FreeNames N M (grafted_name o (name x) at us)
name_put g N' M' N M k x at us n f (Some t) q = subst (IfFree N M) q (k.put x at)
name_put g N' M' N M k x at us n f None q = (k.left x at n q, f)

node_put : (g : Graft) (N' M' N M : Word → Type 0) → Puts g N' M' N M → (m : Form) (at : Place) (us : Trees) → FormReads N' M' m → FreeInParts N M (seen_names m) us → FreeNames N M (grafted_node g m at us)
node_put g N' M' N M k (name x) at us n f = name_put g N' M' N M k x at us n f (g x at) refl
node_put g N' M' N M k (operator_call o) at us n f = (k.operators o n, f)
node_put g N' M' N M k m at us n f = (tt, f)

mutual
  pub free_put : (g : Graft) (N' M' N M : Word → Type 0) → Puts g N' M' N M → (t : Tree) → FreeNames N' M' t → FreeNames N M (graft g t)
  free_put g N' M' N M k (node m at ts) h = node_put g N' M' N M k m at (grafts g ts) h.0 (parts_put g N' M' N M k (seen_names m) ts h.1)

  pub parts_put : (g : Graft) (N' M' N M : Word → Type 0) → Puts g N' M' N M → (names : List (List Word)) (ts : Trees) → FreeInParts N' M' names ts → FreeInParts N M names (grafts g ts)
  parts_put g N' M' N M k names no_trees h = tt
  parts_put g N' M' N M k [] (tree t ts) h = (free_put g N' M' N M k t h.0, parts_put g N' M' N M k [] ts h.1)
  parts_put g N' M' N M k (xs ∷ names) (tree t ts) h = (free_put g (Also xs N') M' (Also xs N) M (puts_also g xs N' M' N M k) t h.0, parts_put g N' M' N M k names ts h.1)
