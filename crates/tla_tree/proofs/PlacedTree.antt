-- The tree of a phrase, places aside, rests on no place.
use Rattle.std.proofs.Common.{◌≡◌, ℕ, true, false, List, [], ◌∷◌, map, refl}
use Rattle.tla_token.specs.declared.place.Place.{Place}
use Rattle.tla_token.specs.Places.{nowhere}
use Rattle.tla_tree.specs.declared.op.Op.{Op}
use Rattle.tla_tree.specs.declared.op.Binder.TheVariants as binder
use Rattle.tla_tree.specs.Tree.{Name, Slot, Tree, Trees, node, no_trees, tree}
use Rattle.tla_tree.specs.Tree as pure
use Rattle.tla_tree.specs.Spelling.{Phrase, number, string, constant, name, primed, call, brackets, no_set, set_of, filter, image, no_tuple, tuple, fields, records, function, functions, except, apply, select, list, quantified, if_then_else, cases, local, infix_of, prefix_of}
use Rattle.tla_tree.specs.Spelling.{Phrases, last, more, Binds, last_bind, bind, share, Fields, last_field, field, Settings, last_setting, setting, Path, path_end, index, at_field, Bullets, last_bullet, bullet, Arms, last_arm, other_arm, arm, Locals, last_local, more_locals}
use Rattle.tla_tree.specs.Spelling.{operation, in_first, groups, local_names, labels, steps, slots, has_other, one, tree_of, trees_of, subscript, sets_before, field_trees, setting_trees, subscripts, joined, joined_to, arm_trees, right_sides_before}
use Rattle.tla_tree.specs.laws.Columns.{moved, moved_all, moved_binds, moved_fields, moved_settings, moved_path, moved_bullets, moved_arms, moved_locals}
use Rattle.tla_tree.specs.laws.Placeless.{name_placeless, names_placeless, slot_placeless, form_placeless, tree_placeless, trees_placeless}

abbrev bare : List (List Name) → List (List Name)
bare gs = map names_placeless gs

abbrev bare_slots : List Slot → List Slot
bare_slots ss = map slot_placeless ss

bare_first : (x y : Name) → name_placeless x ≡ name_placeless y → (gs hs : List (List Name)) → bare gs ≡ bare hs → bare (in_first x gs) ≡ bare (in_first y hs)
bare_first x y e [] [] h = λ i. (e i ∷ []) ∷ []
bare_first x y e [] (g ∷ hs) h = absurd cc
bare_first x y e (g ∷ gs) [] h = absurd cc
bare_first x y e (g ∷ gs) (k ∷ hs) h = (let first : names_placeless g ≡ names_placeless k = cc in let rest : bare gs ≡ bare hs = cc in λ i. (e i ∷ first i) ∷ rest i)

groups_moved : (c : Place → ℕ) (x : Binds) → bare (groups (moved_binds c x)) ≡ bare (groups x)
groups_moved c (last_bind p x q a) = refl
groups_moved c (bind p x q a r bs) = λ i. (record { word = x; place = nowhere } ∷ []) ∷ groups_moved c bs i
groups_moved c (share p x q bs) = bare_first _ _ refl (groups (moved_binds c bs)) (groups bs) (groups_moved c bs)

locals_moved : (c : Place → ℕ) (x : Locals) → names_placeless (local_names (moved_locals c x)) ≡ names_placeless (local_names x)
locals_moved c (last_local p x q a) = refl
locals_moved c (more_locals p x q a ls) = λ i. record { word = x; place = nowhere } ∷ locals_moved c ls i

labels_moved : (c : Place → ℕ) (x : Fields) → labels (moved_fields c x) ≡ labels x
labels_moved c (last_field f p a) = refl
labels_moved c (field f p a q fs) = λ i. f.text ∷ labels_moved c fs i

steps_moved : (c : Place → ℕ) (x : Path) → steps (moved_path c x) ≡ steps x
steps_moved c path_end = refl
steps_moved c (index p xs q path) = λ i. pure.index ∷ steps_moved c path i
steps_moved c (at_field p f path) = λ i. pure.field f.text ∷ steps_moved c path i

slots_moved : (c : Place → ℕ) (x : Settings) (p q : Place) → bare_slots (slots p (moved_settings c x)) ≡ bare_slots (slots q x)
slots_moved c (last_setting r path s a) p q = λ i. record { path = steps_moved c path i; place = nowhere } ∷ []
slots_moved c (setting r path s a t ss) p q = λ i. record { path = steps_moved c path i; place = nowhere } ∷ slots_moved c ss p q i

other_moved : (c : Place → ℕ) (x : Arms) → has_other (moved_arms c x) ≡ has_other x
other_moved c (last_arm a p b) = refl
other_moved c (other_arm a p b q r s d) = refl
other_moved c (arm a p b q xs) = other_moved c xs

abbrev Same : Tree → Tree → Type 0
Same t u = tree_placeless t ≡ tree_placeless u

abbrev AllSame : Trees → Trees → Type 0
AllSame ts us = trees_placeless ts ≡ trees_placeless us

mutual
  pub tree_moved : (c : Place → ℕ) (x : Phrase) → Same (tree_of (moved c x)) (tree_of x)
  tree_moved c (number p n) = refl
  tree_moved c (string p x) = refl
  tree_moved c (constant p x) = refl
  tree_moved c (name p x) = refl
  tree_moved c (primed p x q) = refl
  tree_moved c (call p x q xs r) = λ i. node (pure.operator_call x) nowhere (trees_moved c xs i)
  tree_moved c (brackets p a q) = tree_moved c a
  tree_moved c (no_set p q) = refl
  tree_moved c (set_of p xs q) = λ i. node (pure.strict pure.set_of) nowhere (trees_moved c xs i)
  tree_moved c (filter p q x r s t a u) = λ i. node (pure.binding binder.Filter ((record { word = x; place = nowhere } ∷ []) ∷ [])) nowhere (tree (tree_moved c s i) (tree (tree_moved c a i) no_trees))
  tree_moved c (image p a q bs r) = λ i. node (pure.binding binder.Image (groups_moved c bs i)) nowhere (sets_moved c bs (one (tree_of (moved c a))) (one (tree_of a)) (λ j. tree (tree_moved c a j) no_trees) i)
  tree_moved c (no_tuple p q) = refl
  tree_moved c (tuple p xs q) = λ i. node (pure.strict pure.tuple) nowhere (trees_moved c xs i)
  tree_moved c (fields p fs q) = λ i. node (pure.strict (pure.fields (labels_moved c fs i))) nowhere (field_trees_moved c fs i)
  tree_moved c (records p fs q) = λ i. node (pure.strict (pure.records (labels_moved c fs i))) nowhere (field_trees_moved c fs i)
  tree_moved c (function p bs q a r) = λ i. node (pure.binding binder.Function (groups_moved c bs i)) nowhere (sets_moved c bs (one (tree_of (moved c a))) (one (tree_of a)) (λ j. tree (tree_moved c a j) no_trees) i)
  tree_moved c (functions p a q b r) = λ i. node (pure.strict pure.functions) nowhere (tree (tree_moved c a i) (tree (tree_moved c b i) no_trees))
  tree_moved c (except p a q ss r) = λ i. node (pure.strict (pure.except (slots_moved c ss (record { line = 0; col = c p }) p i))) nowhere (tree (tree_moved c a i) (settings_moved c ss i))
  tree_moved c (apply a p xs q) = λ i. node (pure.strict pure.apply) nowhere (tree (tree_moved c a i) (tree (subscript_moved c xs i) no_trees))
  tree_moved c (select a p f) = λ i. node (pure.strict (pure.select f.text)) nowhere (tree (tree_moved c a i) no_trees)
  tree_moved c (list o bs) = joined_moved c bs o
  tree_moved c (quantified true p bs q a) = λ i. node (pure.binding binder.ForAll (groups_moved c bs i)) nowhere (sets_moved c bs (one (tree_of (moved c a))) (one (tree_of a)) (λ j. tree (tree_moved c a j) no_trees) i)
  tree_moved c (quantified false p bs q a) = λ i. node (pure.binding binder.Exists (groups_moved c bs i)) nowhere (sets_moved c bs (one (tree_of (moved c a))) (one (tree_of a)) (λ j. tree (tree_moved c a j) no_trees) i)
  tree_moved c (if_then_else p a q b r d) = λ i. node pure.if_then_else nowhere (tree (tree_moved c a i) (tree (tree_moved c b i) (tree (tree_moved c d i) no_trees)))
  tree_moved c (cases p xs) = λ i. node (pure.cases (other_moved c xs i)) nowhere (arms_moved c xs i)
  tree_moved c (local p ls q a) = λ i. node (pure.local (locals_moved c ls i)) nowhere (sides_moved c ls (one (tree_of (moved c a))) (one (tree_of a)) (λ j. tree (tree_moved c a j) no_trees) i)
  tree_moved c (infix_of a p o b) = λ i. node (form_placeless (operation o)) nowhere (tree (tree_moved c a i) (tree (tree_moved c b i) no_trees))
  tree_moved c (prefix_of p o a) = λ i. node (form_placeless (operation o)) nowhere (tree (tree_moved c a i) no_trees)

  trees_moved : (c : Place → ℕ) (x : Phrases) → AllSame (trees_of (moved_all c x)) (trees_of x)
  trees_moved c (last a) = λ i. tree (tree_moved c a i) no_trees
  trees_moved c (more a p xs) = λ i. tree (tree_moved c a i) (trees_moved c xs i)

  subscript_moved : (c : Place → ℕ) (x : Phrases) → Same (subscript (moved_all c x)) (subscript x)
  subscript_moved c (last a) = tree_moved c a
  subscript_moved c (more a p xs) = λ i. node (pure.strict pure.tuple) nowhere (tree (tree_moved c a i) (trees_moved c xs i))

  sets_moved : (c : Place → ℕ) (x : Binds) (ts us : Trees) → AllSame ts us → AllSame (sets_before (moved_binds c x) ts) (sets_before x us)
  sets_moved c (last_bind p x q a) ts us h = λ i. tree (tree_moved c a i) (h i)
  sets_moved c (bind p x q a r bs) ts us h = λ i. tree (tree_moved c a i) (sets_moved c bs ts us h i)
  sets_moved c (share p x q bs) ts us h = sets_moved c bs ts us h

  field_trees_moved : (c : Place → ℕ) (x : Fields) → AllSame (field_trees (moved_fields c x)) (field_trees x)
  field_trees_moved c (last_field f p a) = λ i. tree (tree_moved c a i) no_trees
  field_trees_moved c (field f p a q fs) = λ i. tree (tree_moved c a i) (field_trees_moved c fs i)

  settings_moved : (c : Place → ℕ) (x : Settings) → AllSame (setting_trees (moved_settings c x)) (setting_trees x)
  settings_moved c (last_setting p path q a) = path_moved c path _ _ (λ i. tree (tree_moved c a i) no_trees)
  settings_moved c (setting p path q a r ss) = path_moved c path _ _ (λ i. tree (tree_moved c a i) (settings_moved c ss i))

  path_moved : (c : Place → ℕ) (x : Path) (ts us : Trees) → AllSame ts us → AllSame (subscripts (moved_path c x) ts) (subscripts x us)
  path_moved c path_end ts us h = h
  path_moved c (index p xs q path) ts us h = λ i. tree (subscript_moved c xs i) (path_moved c path ts us h i)
  path_moved c (at_field p f path) ts us h = path_moved c path ts us h

  joined_moved : (c : Place → ℕ) (x : Bullets) (o : Op) → Same (joined o (moved_bullets c x)) (joined o x)
  joined_moved c (last_bullet p a) o = tree_moved c a
  joined_moved c (bullet p a bs) o = joined_to_moved c bs o _ p _ (tree_of a) (tree_moved c a)

  joined_to_moved : (c : Place → ℕ) (x : Bullets) (o : Op) (p q : Place) (t u : Tree) → Same t u → Same (joined_to o p t (moved_bullets c x)) (joined_to o q u x)
  joined_to_moved c (last_bullet r a) o p q t u h = λ i. node (form_placeless (operation o)) nowhere (tree (h i) (tree (tree_moved c a i) no_trees))
  joined_to_moved c (bullet r a bs) o p q t u h = joined_to_moved c bs o p q _ _ (λ i. node (form_placeless (operation o)) nowhere (tree (h i) (tree (tree_moved c a i) no_trees)))

  arms_moved : (c : Place → ℕ) (x : Arms) → AllSame (arm_trees (moved_arms c x)) (arm_trees x)
  arms_moved c (last_arm a p b) = λ i. tree (tree_moved c a i) (tree (tree_moved c b i) no_trees)
  arms_moved c (other_arm a p b q r s d) = λ i. tree (tree_moved c a i) (tree (tree_moved c b i) (tree (tree_moved c d i) no_trees))
  arms_moved c (arm a p b q xs) = λ i. tree (tree_moved c a i) (tree (tree_moved c b i) (arms_moved c xs i))

  sides_moved : (c : Place → ℕ) (x : Locals) (ts us : Trees) → AllSame ts us → AllSame (right_sides_before (moved_locals c x) ts) (right_sides_before x us)
  sides_moved c (last_local p x q a) ts us h = λ i. tree (tree_moved c a i) (h i)
  sides_moved c (more_locals p x q a ls) ts us h = λ i. tree (tree_moved c a i) (sides_moved c ls ts us h i)
