-- Where no bound name of statements is in the way of a tree that is put in for a name, none of the items that are written for them is.
use Rattle.std.proofs.Common.{List, [], ◌∷◌, ◌++◌, Bool, true, false, cond, bytes_eq, Some, None}
use Rattle.tla_token.specs.declared.place.Place.{Place}
use Rattle.tla_tree.specs.Tree.{Word, select, Form, name, next, strict, Tree, node, Trees, no_trees, tree, Every, EveryOf, Graft, graft, root_place}
use Rattle.tla_value.specs.Grafts.{primes}
use Rattle.tla_value.specs.Stops.{Check}
use Rattle.tla_value.specs.laws.Grafting.{Clear, BindsClear}
use Rattle.module_tree.specs.Module.{Item, test, setting, unchanged, exists, local, if_then_else, either as any, Items, no_items, item, Branches as Lists, no_branches as no_lists, branch as list}
use Rattle.pcal_tree.specs.Algorithm.{Assignments, no_assignments, assignment, Binds, no_binds, one_of, is, Statement, assign, await, print, assert, skip, branch, either, with, while, goto, macro, call, return, Statements, done, then, mark, Branches, no_branches, or}
use Rattle.pcal_tree.specs.Placeless.{no_span}
use Rattle.pcal_tree.specs.laws.Expansion.{ThroughoutAssignments, ThroughoutBinds, ThroughoutOne, Throughout, ThroughoutSome}
use Rattle.pcal_tree.proofs.NothingCaptured.{Has, pub_keeps}
use Rattle.action_builder.specs.Assigned.{Names, more, head_of, heads, assigned, assigned_in, assigned_by}
use Rattle.action_builder.specs.Prepared.{none, action_items}
use Rattle.action_builder.specs.SingleProcess.{in_place_of, graft_item, graft_items, graft_branches}
use Rattle.action_builder.specs.Written.{Key, sub, fixed, subs, keys_in, keys_of, keys_first, subscripts, own, slot_trees, except_of, sets_whole, side_of, primed, left_of, unchanged_of, onto, filled, settings_of, is_old, put_in, nested_items, branch_items, write_one, write, write_some}
use Rattle.action_builder.specs.laws.Grafts.{ClearItem, ClearItems, ClearBranches}

module _ (c : Check) (g : Graft) where
  abbrev F : Form → Place → Type 0
  F = BindsClear c g

  abbrev N : Word → Type 0
  N = Clear c g

  -- ---- trees with trees put in

  put_keeps : (h : Graft) → ((x : Word) (at : Place) → Has F N h (h x at)) → (e : Tree) → Every F e → Every F (graft h e)
  put_keeps h f e k = (pub_keeps F N h (λ m p q z. z) f (then no_span (await e) done) (k, tt)).0

  primed_clear : (A : Names) (e : Tree) → Every F e → Every F (primed A e)
  primed_clear A e k = put_keeps (primes A) (λ x at. by x at (A x)) e k
    where
      by : (x : Word) (at : Place) (b : Bool) → Has F N (primes A) (cond b (Some (node (next x) at no_trees)) None)
      by x at true = (tt, tt)
      by x at false = tt

  -- ---- right sides

  abbrev Keys : List Key → Type 0
  Keys [] = Unit {0}
  Keys (sub t ∷ ks) = Every F t × Keys ks
  Keys (fixed a ∷ ks) = Keys ks

  keys_both : (ks ls : List Key) → Keys ks → Keys ls → Keys (ks ++ ls)
  keys_both [] ls h k = k
  keys_both (sub t ∷ ks) ls h k = (h.0, keys_both ks ls h.1 k)
  keys_both (fixed a ∷ ks) ls h k = keys_both ks ls h k

  subs_clear : (ts : Trees) → EveryOf F ts → Keys (subs ts)
  subs_clear no_trees h = tt
  subs_clear (tree t ts) h = (h.0, subs_clear ts h.1)

  keys_in_clear : (m : Form) (ks : List Key) → Keys ks → Keys (keys_in m ks)
  keys_in_clear (name x) ks h = tt
  keys_in_clear (strict (select a)) ks h = keys_both ks (fixed a ∷ []) h tt
  keys_in_clear m ks h = h

  mutual
    keys_clear : (t : Tree) → Every F t → Keys (keys_of t)
    keys_clear (node m at ts) h = keys_in_clear m (keys_first ts) (first_clear ts h.1)

    first_clear : (ts : Trees) → EveryOf F ts → Keys (keys_first ts)
    first_clear no_trees h = tt
    first_clear (tree f us) h = keys_both (keys_of f) (subs us) (keys_clear f h.0) (subs_clear us h.1)

  subscripts_clear : (ks : List Key) (ts : Trees) → Keys ks → EveryOf F ts → EveryOf F (subscripts ks ts)
  subscripts_clear [] ts h k = k
  subscripts_clear (sub t ∷ ks) ts h k = (h.0, subscripts_clear ks ts h.1 k)
  subscripts_clear (fixed a ∷ ks) ts h k = subscripts_clear ks ts h k

  slots_clear : (ms : Assignments) → ThroughoutAssignments F ms → EveryOf F (slot_trees ms)
  slots_clear no_assignments h = tt
  slots_clear (assignment l e ms) h = subscripts_clear (keys_of l) (tree e (slot_trees ms)) (keys_clear l h.0) (h.1, slots_clear ms h.2)

  side_clear : (y : Word) (ms : Assignments) → ThroughoutAssignments F ms → Every F (side_of y ms)
  side_clear y no_assignments h = (tt, tt)
  side_clear y (assignment l e ms) h = by (sets_whole (keys_of l) ms)
    where
      by : (b : Bool) → Every F (cond b e (except_of (root_place l) y (assignment l e ms)))
      by true = h.1
      by false = (tt, ((tt, tt), slots_clear (assignment l e ms) h))

  own_clear : (y : Word) (ms : Assignments) → ThroughoutAssignments F ms → ThroughoutAssignments F (own y ms)
  own_clear y no_assignments h = tt
  own_clear y (assignment l e ms) h = by (bytes_eq (head_of l) y) (own_clear y ms h.2)
    where
      by : (b : Bool) → ThroughoutAssignments F (own y ms) → ThroughoutAssignments F (cond b (assignment l e (own y ms)) (own y ms))
      by true k = (h.0, h.1, k)
      by false k = k

  -- ---- items

  onto_clear : (us js : Items) → ClearItems c g us → ClearItems c g js → ClearItems c g (onto us js)
  onto_clear no_items js h k = k
  onto_clear (item i us) js h k = (h.0, onto_clear us js h.1 k)

  filled_clear : (at : Place) (us : Items) → ClearItems c g us → ClearItems c g (filled at us)
  filled_clear at no_items h = ((tt, tt), tt)
  filled_clear at (item i us) h = h

  unchanged_clear : (xs : List Word) → ClearItems c g (unchanged_of xs)
  unchanged_clear [] = tt
  unchanged_clear (x ∷ xs) = (tt, tt)

  settings_clear : (A : Names) (ms : Assignments) → ThroughoutAssignments F ms → (ys : List Word) (rest : Items) → ClearItems c g rest → ClearItems c g (settings_of A ms ys rest)
  settings_clear A ms h [] rest r = r
  settings_clear A ms h (y ∷ ys) rest r = (primed_clear A (side_of y (own y ms)) (side_clear y (own y ms) (own_clear y ms h)), settings_clear A ms h ys rest r)

  nested_clear : (A : Names) (bs : Binds) → ThroughoutBinds F N bs → (b : Items) → ClearItems c g b → ClearItems c g (nested_items A bs b)
  nested_clear A no_binds h b k = k
  nested_clear A (one_of x e bs) h b k = ((primed_clear A e h.0, h.1, nested_clear A bs h.2 b k), tt)
  nested_clear A (is x e bs) h b k = ((primed_clear A e h.0, h.1, nested_clear A bs h.2 b k), tt)

  -- with a tree put in for a name of theirs
  mutual
    item_put : (h : Graft) → ((x : Word) (at : Place) → Has F N h (h x at)) → (i : Item) → ClearItem c g i → ClearItem c g (graft_item h i)
    item_put h f (test e) k = put_keeps h f e k
    item_put h f (setting x e) k = put_keeps h f e k
    item_put h f (unchanged xs) k = tt
    item_put h f (exists x e us) k = (put_keeps h f e k.0, k.1, items_put h f us k.2)
    item_put h f (local x e us) k = (put_keeps h f e k.0, k.1, items_put h f us k.2)
    item_put h f (if_then_else e a b) k = (put_keeps h f e k.0, items_put h f a k.1, items_put h f b k.2)
    item_put h f (any bs) k = lists_put h f bs k

    items_put : (h : Graft) → ((x : Word) (at : Place) → Has F N h (h x at)) → (us : Items) → ClearItems c g us → ClearItems c g (graft_items h us)
    items_put h f no_items k = tt
    items_put h f (item i us) k = (item_put h f i k.0, items_put h f us k.1)

    lists_put : (h : Graft) → ((x : Word) (at : Place) → Has F N h (h x at)) → (bs : Lists) → ClearBranches c g bs → ClearBranches c g (graft_branches h bs)
    lists_put h f no_lists k = tt
    lists_put h f (list us bs) k = (items_put h f us k.0, lists_put h f bs k.1)

  put_in_clear : (A : Names) (x : Word) (e : Tree) → Every F e → (b : Items) → ClearItems c g b → ClearItems c g (put_in A x e b)
  put_in_clear A x e h b k = items_put (in_place_of x (primed A e)) (λ y at. by (bytes_eq x y)) b k
    where
      by : (d : Bool) → Has F N (in_place_of x (primed A e)) (cond d (Some (primed A e)) None)
      by true = primed_clear A e h
      by false = tt

  -- ---- statements

  module _ (vs : List Word) where
    branch_clear : (at : Place) (body : Items) (all mine : List Word) → ClearItems c g body → ClearItems c g (branch_items vs at body all mine)
    branch_clear at body all mine h = filled_clear at (onto body (unchanged_of (left_of vs all mine))) (onto_clear body (unchanged_of (left_of vs all mine)) h (unchanged_clear (left_of vs all mine)))

    mutual
      one_clear : (A : Names) (at : Place) (st : Statement) → ThroughoutOne F N st → (rest : Items) → ClearItems c g rest → ClearItems c g (write_one vs A at st rest)
      one_clear A at (assign ms) h rest r = settings_clear A ms h (heads ms) rest r
      one_clear A at (await e) h rest r = (primed_clear A e h, r)
      one_clear A at (print e) h rest r = ((tt, (primed_clear A e h, tt)), r)
      one_clear A at (assert e) h rest r = ((tt, (primed_clear A e h, ((tt, tt), tt))), r)
      one_clear A at skip h rest r = ((tt, tt), r)
      one_clear A at (branch e a b) h rest r =
          ((primed_clear A e h.0, branch_clear at (write vs A a) (assigned_in b) (assigned_in a) (all_clear A a h.1), branch_clear at (write vs A b) (assigned_in a) (assigned_in b) (all_clear A b h.2)), r)
      one_clear A at (either bs) h rest r = (some_clear A at (assigned_by bs) bs h, r)
      one_clear A at (with no_binds b) h rest r = ((branch_clear at (write vs A b) (assigned_in b) (assigned_in b) (all_clear A b h.1), tt), r)
      one_clear A at (with (one_of x e bs) b) h rest r =
          ((primed_clear A e h.0.0, h.0.1, nested_clear A bs h.0.2 (filled at (write vs A b)) (filled_clear at (write vs A b) (all_clear A b h.1))), r)
      one_clear A at (with (is x e bs) b) h rest r = by (all_clear A b h.1) (is_old (is x e bs))
        where
          by : ClearItems c g (write vs A b) → (d : Bool) → ClearItems c g (cond d (onto (put_in A x.word e (write vs A b)) rest) (item (local x.word (primed A e) (nested_items A bs (filled at (write vs A b)))) rest))
          by k true = onto_clear (put_in A x.word e (write vs A b)) rest (put_in_clear A x.word e h.0.0 (write vs A b) k) r
          by k false = ((primed_clear A e h.0.0, h.0.1, nested_clear A bs h.0.2 (filled at (write vs A b)) (filled_clear at (write vs A b) k)), r)
      one_clear A at (while e b) h rest r = (tt, r)
      one_clear A at (goto l) h rest r = (tt, r)
      one_clear A at (macro m ts) h rest r = (tt, r)
      one_clear A at (call q ts) h rest r = (tt, r)
      one_clear A at return h rest r = (tt, r)

      pub all_clear : (A : Names) (ss : Statements) → Throughout F N ss → ClearItems c g (write vs A ss)
      all_clear A done h = tt
      all_clear A (then at st rest) h = one_clear A at.first st h.0 (write vs (more A (assigned st)) rest) (all_clear (more A (assigned st)) rest h.1)
      all_clear A (mark l k rest) h = tt

      some_clear : (A : Names) (at : Place) (all : List Word) (bs : Branches) → ThroughoutSome F N bs → ClearBranches c g (write_some vs A at all bs)
      some_clear A at all no_branches h = tt
      some_clear A at all (or b bs) h = (branch_clear at (write vs A b) all (assigned_in b) (all_clear A b h.0), some_clear A at all bs h.1)

  -- the items of a step, with its last UNCHANGED
  pub action_clear : (vs : List Word) (ss : Statements) → Throughout F N ss → ClearItems c g (action_items vs ss)
  action_clear vs ss h = onto_clear (write vs none ss) (unchanged_of (left_of vs vs (assigned_in ss))) (all_clear vs none ss h) (unchanged_clear (left_of vs vs (assigned_in ss)))
