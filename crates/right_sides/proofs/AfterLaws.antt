-- What is put in after variables are primed, over lists of items, and as the pool grows.
use Rattle.std.proofs.Common.{◌≡◌, ℕ, ◌≤◌, List, [], ◌∷◌, ◌++◌, length, Option, Some, None, refl, ap, ◌∙◌, arith}
use Rattle.std.specs.Option.{option_map}
use Rattle.tla_tree.specs.Tree.{Word, Tree, Graft}
use Rattle.tla_tree.specs.Pool.{at, Keeps}
use Rattle.module_tree.specs.Module.{setting, Items, no_items, item}
use Rattle.module_tree.specs.Formulas.{self}
use Rattle.module_write.specs.declared.«module».Item.{Item}
use Rattle.module_write.specs.InMemory.{item_at, items_at, MaybeIn}
use Rattle.module_write.proofs.InMemoryGrown.{maybe-kept}
use Rattle.action_builder.specs.SingleProcess.{in_place_of, graft_item, graft_items}
use Rattle.action_builder.specs.Written.{old_stack, onto}
use Rattle.right_sides.specs.declared.after.After.{After}
use Rattle.right_sides.specs.After.{put_one, put_items, after_tree, after_items, AfterIn}

-- ---- lists of items

pub onto_nothing : (is : Items) → onto is no_items ≡ is
onto_nothing no_items = refl
onto_nothing (item i is) = ap (item i) (onto_nothing is)

pub onto_onto : (is js ks : Items) → onto (onto is js) ks ≡ onto is (onto js ks)
onto_onto no_items js ks = refl
onto_onto (item i is) js ks = ap (item i) (onto_onto is js ks)

pub items_last : (ts : List Tree) (is : List Item) (i : Item) → items_at ts (is ++ i ∷ []) ≡ onto (items_at ts is) (item (item_at ts i) no_items)
items_last ts [] i = refl
items_last ts (k ∷ is) i = ap (item (item_at ts k)) (items_last ts is i)

-- ---- what is put in after that

graft_onto : (g : Graft) (is js : Items) → graft_items g (onto is js) ≡ onto (graft_items g is) (graft_items g js)
graft_onto g no_items js = refl
graft_onto g (item i is) js = ap (item (graft_item g i)) (graft_onto g is js)

pub put_onto : (x : Word) (o : Option Tree) (is js : Items) → put_items x o (onto is js) ≡ onto (put_items x o is) (put_items x o js)
put_onto x None is js = refl
put_onto x (Some e) is js = graft_onto (in_place_of x e) is js

pub put_nothing : (x : Word) (o : Option Tree) → put_items x o no_items ≡ no_items
put_nothing x None = refl
put_nothing x (Some e) = refl

put_setting : (x : Word) (o : Option Tree) (y : Word) (t : Tree) → put_items x o (item (setting y t) no_items) ≡ item (setting y (put_one x o t)) no_items
put_setting x None y t = refl
put_setting x (Some e) y t = refl

module _ (ts : List Tree) (a : After) where
  pub after_onto : (is js : Items) → after_items ts a (onto is js) ≡ onto (after_items ts a is) (after_items ts a js)
  after_onto is js = ap (put_items self (option_map (at ts) a.single)) (put_onto old_stack (option_map (at ts) a.old) is js) ∙ put_onto self (option_map (at ts) a.single) (put_items old_stack (option_map (at ts) a.old) is) (put_items old_stack (option_map (at ts) a.old) js)

  pub after_nothing : after_items ts a no_items ≡ no_items
  after_nothing = ap (put_items self (option_map (at ts) a.single)) (put_nothing old_stack (option_map (at ts) a.old)) ∙ put_nothing self (option_map (at ts) a.single)

  pub after_setting : (y : Word) (t : Tree) → after_items ts a (item (setting y t) no_items) ≡ item (setting y (after_tree ts a t)) no_items
  after_setting y t =
      ap (put_items self (option_map (at ts) a.single)) (put_setting old_stack (option_map (at ts) a.old) y t) ∙ put_setting self (option_map (at ts) a.single) y (put_one old_stack (option_map (at ts) a.old) t)

pub maybe_more : (m n : ℕ) (o : Option ℕ) → m ≤ n → MaybeIn m o → MaybeIn n o
maybe_more m n None le h = tt
maybe_more m n (Some e) le h = omega (arith, le, h)

pub after_tree-kept : (ts us : List Tree) → Keeps ts us → (a : After) → AfterIn (length ts) a → (t : Tree) → after_tree us a t ≡ after_tree ts a t
after_tree-kept ts us k a h t = λ j. put_one self (maybe-kept ts us k a.single h.single j) (put_one old_stack (maybe-kept ts us k a.old h.old j) t)

pub after_items-kept : (ts us : List Tree) → Keeps ts us → (a : After) → AfterIn (length ts) a → (is : Items) → after_items us a is ≡ after_items ts a is
after_items-kept ts us k a h is = λ j. put_items self (maybe-kept ts us k a.single h.single j) (put_items old_stack (maybe-kept ts us k a.old h.old j) is)

pub AfterIn-more : (m n : ℕ) (a : After) → m ≤ n → AfterIn m a → AfterIn n a
AfterIn-more m n a le h = record { old = maybe_more m n a.old le h.old; single = maybe_more m n a.single le h.single }
