-- The items that are written for statements of one step: conjuncts of an action, with assigned variables primed ("Specifying Systems", section 2.2;
-- assignment, section 16.1.7; the statements, "A PlusCal User's Manual", section 3.2).
use Rattle.std.specs.Prelude.{List, [], ◌∷◌, ◌++◌, Bool, true, false, cond, not, ◌&&◌, bytes_eq, codes}
use Rattle.tla_token.specs.Signs.{is_among}
use Rattle.tla_token.specs.declared.place.Place.{Place}
use Rattle.tla_tree.specs.Tree.{Word, PathStep, index, field, Slot, select, except, Form, string, truth, name, operator_call, strict, Tree, node, Trees, no_trees, tree, graft, root_place}
use Rattle.tla_value.specs.Grafts.{primes}
use Rattle.module_tree.specs.Module.{test, setting, unchanged, exists, local, if_then_else, either as any, Items, no_items, item, Branches as Lists, no_branches as no_lists, branch as list}
use Rattle.pcal_tree.specs.Algorithm.{nowhere, Assignments, no_assignments, assignment, Binds, no_binds, one_of, is, Statement, assign, await, print, assert, skip, branch, either, with, Statements, done, then, mark, Branches, no_branches, or}
use Rattle.action_builder.specs.SingleProcess.{in_place_of, graft_items}
use Rattle.action_builder.specs.Assigned.{Names, more, head_of, heads, assigned, assigned_in, assigned_by}

-- ---- the right side for a variable

-- a subscript or a field of a left side
pub data Key : Type 0 where
  sub : Tree → Key
  fixed : Word → Key

abbrev pub subs : Trees → List Key
subs no_trees = []
subs (tree t ts) = sub t ∷ subs ts

abbrev pub keys_in : Form → List Key → List Key
keys_in (name x) ks = []
keys_in (strict (select a)) ks = ks ++ (fixed a ∷ [])
keys_in _ ks = ks

-- those of a left side, in order
abbrev mutual
  pub keys_of : Tree → List Key
  keys_of (node m at ts) = keys_in m (keys_first ts)

  pub keys_first : Trees → List Key
  keys_first no_trees = []
  keys_first (tree f us) = keys_of f ++ subs us

abbrev pub steps_of : List Key → List PathStep
steps_of [] = []
steps_of (sub t ∷ ks) = index ∷ steps_of ks
steps_of (fixed a ∷ ks) = field a ∷ steps_of ks

-- the subscripts, with other trees after them
abbrev pub subscripts : List Key → Trees → Trees
subscripts [] ts = ts
subscripts (sub t ∷ ks) ts = tree t (subscripts ks ts)
subscripts (fixed a ∷ ks) ts = subscripts ks ts

-- the assignments to parts of y
abbrev pub own : Word → Assignments → Assignments
own y no_assignments = no_assignments
own y (assignment l e ms) = cond (bytes_eq (head_of l) y) (assignment l e (own y ms)) (own y ms)

abbrev pub slots_of : Assignments → List Slot
slots_of no_assignments = []
slots_of (assignment l e ms) = record { path = steps_of (keys_of l); place = root_place l } ∷ slots_of ms

abbrev pub slot_trees : Assignments → Trees
slot_trees no_assignments = no_trees
slot_trees (assignment l e ms) = subscripts (keys_of l) (tree e (slot_trees ms))

-- [y EXCEPT ![i].f = e, ..]
abbrev pub except_of : Place → Word → Assignments → Tree
except_of at y ms = node (strict (except (slots_of ms))) at (tree (node (name y) at no_trees) (slot_trees ms))

-- one assignment to the whole variable
abbrev pub sets_whole : List Key → Assignments → Bool
sets_whole [] no_assignments = true
sets_whole _ _ = false

-- e where the whole variable is assigned, else an EXCEPT with all its parts
abbrev pub side_of : Word → Assignments → Tree
side_of y no_assignments = node (name y) nowhere no_trees
side_of y (assignment l e ms) = cond (sets_whole (keys_of l) ms) e (except_of (root_place l) y (assignment l e ms))

-- ---- items

abbrev pub primed : Names → Tree → Tree
primed A e = graft (primes A) e

-- PrintT(e)
abbrev pub print_of : Place → Tree → Tree
print_of at e = node (operator_call (codes "PrintT")) at (tree e no_trees)

-- Assert(e, "Failure of assertion.")
abbrev pub assert_of : Place → Tree → Tree
assert_of at e = node (operator_call (codes "Assert")) at (tree e (tree (node (string (codes "Failure of assertion.")) at no_trees) no_trees))

abbrev pub true_at : Place → Tree
true_at at = node (truth true) at no_trees

-- the names of vs that are among all and not among own, in the order of vs
abbrev pub left_of : List Word → List Word → List Word → List Word
left_of [] all own = []
left_of (v ∷ vs) all own = cond (is_among all v && not (is_among own v)) (v ∷ left_of vs all own) (left_of vs all own)

-- UNCHANGED, left out where it has no name
abbrev pub unchanged_of : List Word → Items
unchanged_of [] = no_items
unchanged_of (x ∷ xs) = item (unchanged (x ∷ xs)) no_items

abbrev pub onto : Items → Items → Items
onto no_items js = js
onto (item i more_items) js = item i (onto more_items js)

-- an empty list is (TRUE)
abbrev pub filled : Place → Items → Items
filled at no_items = item (test (true_at at)) no_items
filled at (item i more_items) = item i more_items

abbrev pub settings_of : Names → Assignments → List Word → Items → Items
settings_of A ms [] rest = rest
settings_of A ms (y ∷ ys) rest = item (setting y (primed A (side_of y (own y ms)))) (settings_of A ms ys rest)

-- ---- an old value

-- the name that the stack has in a step which still reads what it was: no name of an algorithm has a blank in it
abbrev pub old_stack : Word
old_stack = codes "old stack"

-- a `with` of that name alone
abbrev pub is_old : Binds → Bool
is_old (is x e no_binds) = bytes_eq old_stack x.word
is_old _ = false

-- it is written as the items of the body, with the expression in place of the name
abbrev pub put_in : Names → Word → Tree → Items → Items
put_in A x e b = graft_items (in_place_of x (primed A e)) b

-- ---- statements

-- further binds of a `with`, around the list of its body
abbrev pub nested_items : Names → Binds → Items → Items
nested_items A no_binds b = b
nested_items A (one_of x e bs) b = item (exists x.word (primed A e) (nested_items A bs b)) no_items
nested_items A (is x e bs) b = item (local x.word (primed A e) (nested_items A bs b)) no_items

-- a branch's list, with UNCHANGED for what other branches assign
abbrev pub branch_items : List Word → Place → Items → List Word → List Word → Items
branch_items vs at body all own = filled at (onto body (unchanged_of (left_of vs all own)))

-- vs: all variables, in the order of `vars`; A: those that are assigned already; rest: the items after
abbrev mutual
  pub write_one : List Word → Names → Place → Statement → Items → Items
  write_one vs A at (assign ms) rest = settings_of A ms (heads ms) rest
  write_one vs A at (await e) rest = item (test (primed A e)) rest
  write_one vs A at (print e) rest = item (test (print_of at (primed A e))) rest
  write_one vs A at (assert e) rest = item (test (assert_of at (primed A e))) rest
  write_one vs A at skip rest = item (test (true_at at)) rest
  write_one vs A at (branch e a b) rest =
      item (if_then_else (primed A e)
      (branch_items vs at (write vs A a) (assigned_in b) (assigned_in a))
      (branch_items vs at (write vs A b) (assigned_in a) (assigned_in b))) rest
  write_one vs A at (either bs) rest = item (any (write_some vs A at (assigned_by bs) bs)) rest
  write_one vs A at (with no_binds b) rest =
      item (any (list (branch_items vs at (write vs A b) (assigned_in b) (assigned_in b)) no_lists)) rest
  write_one vs A at (with (one_of x e bs) b) rest = item (exists x.word (primed A e) (nested_items A bs (filled at (write vs A b)))) rest
  write_one vs A at (with (is x e bs) b) rest =
      cond (is_old (is x e bs)) (onto (put_in A x.word e (write vs A b)) rest) (item (local x.word (primed A e) (nested_items A bs (filled at (write vs A b)))) rest)
  write_one vs A at _ rest = item (any no_lists) rest

  pub write : List Word → Names → Statements → Items
  write vs A done = no_items
  write vs A (then at st rest) = write_one vs A at.first st (write vs (more A (assigned st)) rest)
  write vs A (mark l k rest) = no_items

  pub write_some : List Word → Names → Place → List Word → Branches → Lists
  write_some vs A at all no_branches = no_lists
  write_some vs A at all (or b bs) =
      list (branch_items vs at (write vs A b) all (assigned_in b)) (write_some vs A at all bs)
