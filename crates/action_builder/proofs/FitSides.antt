-- The right sides that are written for variables can be written, but that their names are of some kind.
use Rattle.std.proofs.Common.{◌≡◌, ◌+◌, Bool, true, false, cond, List, [], ◌∷◌, ◌++◌, bytes_eq, refl, sym, ◌∙◌, arith}
use Rattle.std.specs.List.{flat_map}
use Rattle.std.proofs.lemmas.Slice.Eq.{bytes_eq-Decides}
use Rattle.tla_token.specs.declared.place.Place.{Place}
use Rattle.tla_tree.specs.Tree.{Word, Slot, Form, name, Each, strict, select, Tree, node, Trees, no_trees, tree, root_place}
use Rattle.tla_tree.specs.Shapes.{HasPath, HavePaths, settings}
use Rattle.tla_tree.specs.Shapes as shape
use Rattle.tla_tree.specs.laws.Writable.{IsField, fields_in_path, count}
use Rattle.pcal_tree.specs.Algorithm.{nowhere, Assignments, no_assignments, assignment}
use Rattle.action_builder.specs.Assigned.{head_of}
use Rattle.action_builder.specs.Written.{Key, sub, fixed, subs, keys_in, keys_of, keys_first, steps_of, subscripts, own, slots_of, slot_trees, except_of, sets_whole, side_of}
use Rattle.action_builder.proofs.FitTrees.{Fits, AllFit, name_fits}
use Rattle.action_builder.proofs.FitStatements.{AssignmentsFit}
use Rattle.action_builder.specs.laws.InParts.{SomeKeys, Beside, InParts}

-- ---- keys

abbrev KeysFit : (Word → Type 0) → List Key → Type 0
KeysFit N [] = Unit {0}
KeysFit N (sub t ∷ ks) = Fits N t × KeysFit N ks
KeysFit N (fixed a ∷ ks) = IsField a × KeysFit N ks

keys_both : (N : Word → Type 0) (ks js : List Key) → KeysFit N ks → KeysFit N js → KeysFit N (ks ++ js)
keys_both N [] js h k = k
keys_both N (sub t ∷ ks) js h k = (h.0, keys_both N ks js h.1 k)
keys_both N (fixed a ∷ ks) js h k = (h.0, keys_both N ks js h.1 k)

subs_fit : (N : Word → Type 0) (ts : Trees) → AllFit N ts → KeysFit N (subs ts)
subs_fit N no_trees h = tt
subs_fit N (tree t ts) h = (h.0, subs_fit N ts h.1)

keys_node : (N : Word → Type 0) (m : Form) (at : Place) (ts : Trees) → Fits N (node m at ts) → KeysFit N (keys_first ts) → KeysFit N (keys_in m (keys_first ts))
keys_node N (name x) at ts h k = tt
keys_node N (strict (select a)) at ts h k = keys_both N (keys_first ts) (fixed a ∷ []) k (h.2.0, tt)
keys_node N m at ts h k = k

mutual
  keys_fit : (N : Word → Type 0) (l : Tree) → Fits N l → KeysFit N (keys_of l)
  keys_fit N (node m at ts) h = keys_node N m at ts h (first_fit N ts h.4)

  first_fit : (N : Word → Type 0) (ts : Trees) → AllFit N ts → KeysFit N (keys_first ts)
  first_fit N no_trees h = tt
  first_fit N (tree t ts) h = keys_both N (keys_of t) (subs ts) (keys_fit N t h.0) (subs_fit N ts h.1)

-- ---- the settings of an EXCEPT

some_path : (ks : List Key) → SomeKeys ks → HasPath (steps_of ks)
some_path [] h = absurd h
some_path (sub t ∷ ks) h = tt
some_path (fixed a ∷ ks) h = tt

fields_fit : (N : Word → Type 0) (ks : List Key) → KeysFit N ks → Each IsField (fields_in_path (steps_of ks))
fields_fit N [] h = tt
fields_fit N (sub t ∷ ks) h = fields_fit N ks h.1
fields_fit N (fixed a ∷ ks) h = (h.0, fields_fit N ks h.1)

path_count : (ks : List Key) (ts : Trees) → count (subscripts ks ts) ≡ shape.subscripts (steps_of ks) + count ts
path_count [] ts = omega arith
path_count (sub t ∷ ks) ts = (let h = path_count ks ts in omega (arith, h))
path_count (fixed a ∷ ks) ts = path_count ks ts

path_fits : (N : Word → Type 0) (ks : List Key) (ts : Trees) → KeysFit N ks → AllFit N ts → AllFit N (subscripts ks ts)
path_fits N [] ts h k = k
path_fits N (sub t ∷ ks) ts h k = (h.0, path_fits N ks ts h.1 k)
path_fits N (fixed a ∷ ks) ts h k = path_fits N ks ts h.1 k

pub each_of : (P : Word → Type 0) (xs ys : List Word) → Each P xs → Each P ys → Each P (xs ++ ys)
each_of P [] ys h k = k
each_of P (x ∷ xs) ys h k = (h.0, each_of P xs ys h.1 k)

-- each is to a part of its variable
abbrev Keyed : Assignments → Type 0
Keyed no_assignments = Unit {0}
Keyed (assignment l e ms) = SomeKeys (keys_of l) × Keyed ms

slots_have_paths : (l e : Tree) (ms : Assignments) → Keyed (assignment l e ms) → HavePaths (slots_of (assignment l e ms))
slots_have_paths l e no_assignments h = some_path (keys_of l) h.0
slots_have_paths l e (assignment k f ms) h = (some_path (keys_of l) h.0, slots_have_paths k f ms h.1)

slots_count : (ms : Assignments) → count (slot_trees ms) ≡ settings (slots_of ms)
slots_count no_assignments = refl
slots_count (assignment l e ms) =
    let h = path_count (keys_of l) (tree e (slot_trees ms)) in
    let k = slots_count ms in
    omega (arith, h, k)

slot_fields : (N : Word → Type 0) (ms : Assignments) → AssignmentsFit N ms → Each IsField (flat_map (λ (s : Slot). fields_in_path s.path) (slots_of ms))
slot_fields N no_assignments h = tt
slot_fields N (assignment l e ms) h =
    each_of IsField (fields_in_path (steps_of (keys_of l))) (flat_map (λ (s : Slot). fields_in_path s.path) (slots_of ms)) (fields_fit N (keys_of l) (keys_fit N l h.1)) (slot_fields N ms h.3)

slots_fit : (N : Word → Type 0) (ms : Assignments) → AssignmentsFit N ms → AllFit N (slot_trees ms)
slots_fit N no_assignments h = tt
slots_fit N (assignment l e ms) h = path_fits N (keys_of l) (tree e (slot_trees ms)) (keys_fit N l h.1) (h.2, slots_fit N ms h.3)

except_fits : (N : Word → Type 0) (at : Place) (y : Word) (l e : Tree) (ms : Assignments) → N y → AssignmentsFit N (assignment l e ms) → Keyed (assignment l e ms) → Fits N (except_of at y (assignment l e ms))
except_fits N at y l e ms n h k =
    let c = slots_count (assignment l e ms) in
    ((slots_have_paths l e ms k, omega (arith, c)), tt, slot_fields N (assignment l e ms) h, tt, (name_fits N at y n, slots_fit N (assignment l e ms) h))

-- ---- the assignments of one variable

own_fit : (N : Word → Type 0) (y : Word) (ms : Assignments) → AssignmentsFit N ms → AssignmentsFit N (own y ms)
own_fit N y no_assignments h = tt
own_fit N y (assignment l e ms) h = by (bytes_eq (head_of l) y) (own_fit N y ms h.3)
  where
    by : (b : Bool) → AssignmentsFit N (own y ms) → AssignmentsFit N (cond b (assignment l e (own y ms)) (own y ms))
    by true k = (h.0, h.1, h.2, k)
    by false k = k

same_word : (x y z : Word) → bytes_eq x z ≡ true → bytes_eq y z ≡ true → bytes_eq x y ≡ true
same_word x y z e d = (bytes_eq-Decides x y).1 ((bytes_eq-Decides x z).0 e ∙ sym ((bytes_eq-Decides y z).0 d))

own_keyed : (l : Tree) (y : Word) (ms : Assignments) → bytes_eq (head_of l) y ≡ true → Beside l ms → Keyed (own y ms)
own_keyed l y no_assignments q b = tt
own_keyed l y (assignment m e ms) q b = by (bytes_eq (head_of m) y) (λ d. (b.0 (same_word (head_of l) (head_of m) y q d)).1) (own_keyed l y ms q b.1)
  where
    by : (k : Bool) → (k ≡ true → SomeKeys (keys_of m)) → Keyed (own y ms) → Keyed (cond k (assignment m e (own y ms)) (own y ms))
    by true f h = (f refl, h)
    by false f h = h

abbrev IsSome : Assignments → Type 0
IsSome no_assignments = ⊥
IsSome (assignment l e ms) = Unit {0}

own_first : (l : Tree) (y : Word) (ms : Assignments) → bytes_eq (head_of l) y ≡ true → Beside l ms → IsSome (own y ms) → SomeKeys (keys_of l)
own_first l y no_assignments q b h = absurd h
own_first l y (assignment m e ms) q b h = by (bytes_eq (head_of m) y) (λ d. (b.0 (same_word (head_of l) (head_of m) y q d)).0) (own_first l y ms q b.1) h
  where
    by : (k : Bool) → (k ≡ true → SomeKeys (keys_of l)) → (IsSome (own y ms) → SomeKeys (keys_of l)) → IsSome (cond k (assignment m e (own y ms)) (own y ms)) → SomeKeys (keys_of l)
    by true f g h = f refl
    by false f g h = g h

not_whole : (ks : List Key) (ms : Assignments) → (IsSome ms → SomeKeys ks) → sets_whole ks ms ≡ false → SomeKeys ks
not_whole (k ∷ ks) ms f h = tt
not_whole [] no_assignments f h = cc
not_whole [] (assignment l e ms) f h = f tt

first_side : (N : Word → Type 0) (y : Word) (l e : Tree) (ms : Assignments) → N y → AssignmentsFit N (assignment l e ms) → (IsSome ms → SomeKeys (keys_of l)) → Keyed ms → Fits N (side_of y (assignment l e ms))
first_side N y l e ms n h f k = by (sets_whole (keys_of l) ms) refl
  where
    by : (b : Bool) → sets_whole (keys_of l) ms ≡ b → Fits N (cond b e (except_of (root_place l) y (assignment l e ms)))
    by true q = h.2
    by false q = except_fits N (root_place l) y l e ms n h (not_whole (keys_of l) ms f q, k)

pub side_fits : (N : Word → Type 0) (y : Word) (ms : Assignments) → N y → AssignmentsFit N ms → InParts ms → Fits N (side_of y (own y ms))
side_fits N y no_assignments n h b = name_fits N nowhere y n
side_fits N y (assignment l e ms) n h b = by (bytes_eq (head_of l) y) refl (side_fits N y ms n h.3 b.1)
  where
    by : (k : Bool) → bytes_eq (head_of l) y ≡ k → Fits N (side_of y (own y ms)) → Fits N (side_of y (cond k (assignment l e (own y ms)) (own y ms)))
    by true q s = first_side N y l e (own y ms) n (h.0, h.1, h.2, own_fit N y ms h.3) (own_first l y ms q b.0) (own_keyed l y ms q b.0)
    by false q s = s
