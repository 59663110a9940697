-- Facts of trees with other trees put in for names: of each node, and of left sides.
use Rattle.std.proofs.Common.{◌≡◌, Bool, true, Option, Some, None, ap, ◌∙◌}
use Rattle.std.proofs.lemmas.Option.{same_Some}
use Rattle.tla_token.specs.declared.place.Place.{Place}
use Rattle.tla_tree.specs.Tree.{Word, apply, select, Form, number, string, truth, booleans, strings, name, next, strict, operator_call, conjunction, disjunction, implication, member, if_then_else, cases, binding, local, Tree, node, Trees, no_trees, tree, Every, EveryOf, Graft, grafted_name, grafted_node, graft, grafts}
use Rattle.pcal_tree.specs.Expand.{placed_at, graft_left}
use Rattle.pcal_tree.specs.Paths.{root_form, root, root_of_first}
use Rattle.action_builder.specs.laws.Ready.{LeftIn, IsLeft, LeftFirst}
use Rattle.pcal_tree.proofs.TargetLaws.{root_placed}

-- ---- a fact of each node

abbrev pub IfEvery : (Form → Place → Type 0) → Option Tree → Type 0
IfEvery F (Some t) = Every F t
IfEvery F None = Unit {0}

module _ (F : Form → Place → Type 0) (g : Graft) (put : (y : Word) (at : Place) → IfEvery F (g y at)) where
  every_node : (m : Form) (at : Place) (ts : Trees) → F m at → EveryOf F ts → Every F (grafted_node g m at ts)
  every_node (name x) at ts h k = by (g x at) (put x at)
    where
      by : (o : Option Tree) → IfEvery F o → Every F (grafted_name o (name x) at ts)
      by (Some t) q = q
      by None q = (h, k)
  every_node (number n) at ts h k = (h, k)
  every_node (string w) at ts h k = (h, k)
  every_node (truth b) at ts h k = (h, k)
  every_node booleans at ts h k = (h, k)
  every_node strings at ts h k = (h, k)
  every_node (next x) at ts h k = (h, k)
  every_node (strict o) at ts h k = (h, k)
  every_node (operator_call f) at ts h k = (h, k)
  every_node conjunction at ts h k = (h, k)
  every_node disjunction at ts h k = (h, k)
  every_node implication at ts h k = (h, k)
  every_node (member b) at ts h k = (h, k)
  every_node if_then_else at ts h k = (h, k)
  every_node (cases b) at ts h k = (h, k)
  every_node (binding b gs) at ts h k = (h, k)
  every_node (local xs) at ts h k = (h, k)

  mutual
    pub every_put : (t : Tree) → Every F t → Every F (graft g t)
    every_put (node m at ts) h = every_node m at (grafts g ts) h.0 (each_put ts h.1)

    pub each_put : (ts : Trees) → EveryOf F ts → EveryOf F (grafts g ts)
    each_put no_trees h = tt
    each_put (tree t ts) h = (every_put t h.0, each_put ts h.1)

-- ---- left sides

left_form : (V : Word → Bool) (x : Word) → V x ≡ true → (m : Form) (at : Place) (ts : Trees) → root_form m (root_of_first ts) ≡ Some x → (root_of_first ts ≡ Some x → LeftFirst V ts) → IsLeft V (node m at ts)
left_form V x v (name y) at ts e k = ap V (same_Some y x e) ∙ v
left_form V x v (strict apply) at ts e k = k e
left_form V x v (strict (select a)) at ts e k = k e
left_form V x v m at ts e k = cc

mutual
  pub root_left : (V : Word → Bool) (x : Word) → V x ≡ true → (l : Tree) → root l ≡ Some x → IsLeft V l
  root_left V x v (node m at ts) e = left_form V x v m at ts e (first_left V x v ts)

  first_left : (V : Word → Bool) (x : Word) → V x ≡ true → (ts : Trees) → root_of_first ts ≡ Some x → LeftFirst V ts
  first_left V x v no_trees e = cc
  first_left V x v (tree f us) e = root_left V x v f e

abbrev pub IfLeft : (Word → Bool) → Option Tree → Word → Type 0
IfLeft V (Some t) y = IsLeft V t
IfLeft V None y = V y ≡ true

module _ (V' V : Word → Bool) (g : Graft) (put : (y : Word) (at : Place) → V' y ≡ true → IfLeft V (g y at) y) where
  left_node : (m : Form) (at : Place) (ts : Trees) → LeftIn V' m (LeftFirst V ts) → IsLeft V (grafted_node g m at ts)
  left_node (name y) at ts h = by (g y at) (put y at h)
    where
      by : (o : Option Tree) → IfLeft V o y → IsLeft V (grafted_name o (name y) at ts)
      by (Some t) k = k
      by None k = k
  left_node (strict apply) at ts h = h
  left_node (strict (select a)) at ts h = h
  left_node m at ts h = absurd h

  left_parts : (m : Form) (P Q : Type 0) → (P → Q) → LeftIn V' m P → LeftIn V' m Q
  left_parts (name y) P Q f h = h
  left_parts (strict apply) P Q f h = f h
  left_parts (strict (select a)) P Q f h = f h
  left_parts m P Q f h = absurd h

  mutual
    pub left_put : (l : Tree) → IsLeft V' l → IsLeft V (graft g l)
    left_put (node m at ts) h = left_node m at (grafts g ts) (left_parts m (LeftFirst V' ts) (LeftFirst V (grafts g ts)) (first_put ts) h)

    first_put : (ts : Trees) → LeftFirst V' ts → LeftFirst V (grafts g ts)
    first_put no_trees h = h
    first_put (tree f us) h = left_put f h

pub left_placed : (V : Word → Bool) (at : Place) (l : Tree) → IsLeft V l → IsLeft V (placed_at at l)
left_placed V at (node m p ts) h = h

pub side_put : (V' V : Word → Bool) (g : Graft) → ((y : Word) (at : Place) → V' y ≡ true → IfLeft V (g y at) y) → (l : Tree) → IsLeft V' l → IsLeft V (graft_left g l)
side_put V' V g put (node m at ts) h = left_placed V at (graft g (node m at ts)) (left_put V' V g put (node m at ts) h)

-- ---- the variable of a left side

-- of what stands for a name
abbrev pub root_of : Option Tree → Word → Option Word
root_of (Some t) y = root t
root_of None y = Some y

module _ (g : Graft) (r : Word → Word) (put : (y : Word) (at : Place) → root_of (g y at) y ≡ Some (r y)) where
  root_node : (m : Form) (at : Place) (ts us : Trees) (x : Word) → root_form m (root_of_first ts) ≡ Some x → (root_of_first ts ≡ Some x → root_of_first us ≡ Some (r x)) → root (grafted_node g m at us) ≡ Some (r x)
  root_node (name y) at ts us x e k = by (g y at) (put y at)
    where
      by : (o : Option Tree) → root_of o y ≡ Some (r y) → root (grafted_name o (name y) at us) ≡ Some (r x)
      by (Some t) q = q ∙ (λ i. Some (r (same_Some y x e i)))
      by None q = q ∙ (λ i. Some (r (same_Some y x e i)))
  root_node (strict apply) at ts us x e k = k e
  root_node (strict (select a)) at ts us x e k = k e
  root_node m at ts us x e k = cc

  mutual
    pub root_put : (l : Tree) (x : Word) → root l ≡ Some x → root (graft g l) ≡ Some (r x)
    root_put (node m at ts) x e = root_node m at ts (grafts g ts) x e (first_root ts x)

    first_root : (ts : Trees) (x : Word) → root_of_first ts ≡ Some x → root_of_first (grafts g ts) ≡ Some (r x)
    first_root no_trees x e = cc
    first_root (tree f us) x e = root_put f x e

  pub side_root : (l : Tree) (x : Word) → root l ≡ Some x → root (graft_left g l) ≡ Some (r x)
  side_root (node m at ts) x e = root_placed at (graft g (node m at ts)) ∙ root_put (node m at ts) x e
