-- What an EXCEPT is made of for assignments to one variable: those that are to parts of it.
use Rattle.std.specs.Prelude.{◌≡◌, List, [], ◌∷◌, ◌++◌}
use Rattle.std.specs.List.{flat_map}
use Rattle.tla_token.specs.declared.place.Place.{Place}
use Rattle.tla_tree.specs.Tree.{Slot, Tree, root_place}
use Rattle.tla_tree.specs.Pool.{at}
use Rattle.pcal_tree.specs.declared.algorithm.Assignment.{Assignment}
use Rattle.pcal_tree.specs.Algorithm.{Assignments, no_assignments, assignment}
use Rattle.action_builder.specs.Written.{Key, keys_of, steps_of}
use Rattle.action_builder.specs.laws.InParts.{SomeKeys}
use Rattle.right_sides.specs.Keys.{left_keys, key_trees}

-- a slot for a left side with keys, and none for a whole variable
abbrev pub slot_for : List Key → Place → List Slot
slot_for [] p = []
slot_for (k ∷ ks) p = record { path = steps_of (k ∷ ks); place = p } ∷ []

-- its subscripts and its right side
abbrev pub trees_for : List Key → Tree → List Tree
trees_for [] e = []
trees_for (k ∷ ks) e = key_trees (k ∷ ks) ++ (e ∷ [])

abbrev pub slot_at : List Tree → Assignment → List Slot
slot_at ts m = slot_for (left_keys (at ts m.left)) (root_place (at ts m.left))

abbrev pub parts_at : List Tree → Assignment → List Tree
parts_at ts m = trees_for (left_keys (at ts m.left)) (at ts m.right)

abbrev pub slots_at : List Tree → List Assignment → List Slot
slots_at ts ms = flat_map (slot_at ts) ms

abbrev pub all_parts_at : List Tree → List Assignment → List Tree
all_parts_at ts ms = flat_map (parts_at ts) ms

-- ---- what is asked of the assignments to one variable: where there are several, each is to a part

-- left sides with keys, all of them
abbrev pub AreKeyed : Assignments → Type 0
AreKeyed no_assignments = Unit {0}
AreKeyed (assignment l e ms) = (left_keys l ≡ keys_of l) × SomeKeys (keys_of l) × AreKeyed ms

abbrev pub IsPlain : Assignments → Type 0
IsPlain no_assignments = Unit {0}
IsPlain (assignment l e no_assignments) = left_keys l ≡ keys_of l
IsPlain (assignment l e (assignment k f ms)) = AreKeyed (assignment l e (assignment k f ms))
