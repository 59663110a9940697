-- A phrase in other places spells the same tree, places aside.
use Rattle.std.proofs.Common.{◌≡◌, ℕ, true, false, List, [], ◌∷◌, map, refl, ap}
use Rattle.tla_token.specs.declared.place.Place.{Place}
use Rattle.tla_token.specs.Places.{nowhere}
use Rattle.tla_tree.specs.declared.op.Op.{Op}
use Rattle.tla_tree.specs.declared.op.Binder.{Binder}
use Rattle.tla_tree.specs.declared.op.Binder.TheVariants as binder
use Rattle.tla_tree.specs.Tree.{Word, Name, PathStep, Tree, Trees, node}
use Rattle.tla_tree.specs.Tree as tree
use Rattle.tla_tree.specs.Spelling.{Phrase, number, string, constant, name, primed, call, brackets, no_set, set_of, filter, image, no_tuple, tuple, fields, records, function, functions, except, apply, select, list, quantified, if_then_else, cases, local, infix_of, prefix_of}
use Rattle.tla_tree.specs.Spelling.{Phrases, last, more, Binds, last_bind, bind, share, Fields, last_field, field, Settings, last_setting, setting, Path, path_end, index, at_field, Bullets, last_bullet, bullet, Arms, last_arm, other_arm, arm, Locals, last_local, more_locals}
use Rattle.tla_tree.specs.Spelling.{operation, one, two, named, in_first, groups, local_names, labels, steps, slots, has_other, tree_of, trees_of, subscript, sets_before, field_trees, setting_trees, subscripts, joined, joined_to, arm_trees, right_sides_before}
use Rattle.tla_tree.specs.laws.Columns.{moved_place, moved, moved_all, moved_binds, moved_fields, moved_settings, moved_path, moved_bullets, moved_arms, moved_locals}
use Rattle.tla_tree.specs.laws.Placeless.{names_placeless, slot_placeless, form_placeless, tree_placeless, trees_placeless}

module _ (c : Place → ℕ) where
  -- ---- names and paths

  first_group : (p q : Place) (x : Word) (gs hs : List (List Name)) → map names_placeless gs ≡ map names_placeless hs
      → map names_placeless (in_first (named p x) gs) ≡ map names_placeless (in_first (named q x) hs)
  first_group p q x [] [] e = refl
  first_group p q x (g ∷ gs) (h ∷ hs) e = (let own : names_placeless g ≡ names_placeless h = cc in let others : map names_placeless gs ≡ map names_placeless hs = cc in λ i. (record { word = x; place = nowhere } ∷ own i) ∷ others i)
  first_group p q x [] (h ∷ hs) e = absurd cc
  first_group p q x (g ∷ gs) [] e = absurd cc

  same_groups : (bs : Binds) → map names_placeless (groups (moved_binds c bs)) ≡ map names_placeless (groups bs)
  same_groups (last_bind p x q a) = refl
  same_groups (bind p x q a r bs) = ap (λ (gs : List (List Name)). (record { word = x; place = nowhere } ∷ []) ∷ gs) (same_groups bs)
  same_groups (share p x q bs) = first_group (moved_place c p) p x (groups (moved_binds c bs)) (groups bs) (same_groups bs)

  same_names : (ls : Locals) → names_placeless (local_names (moved_locals c ls)) ≡ names_placeless (local_names ls)
  same_names (last_local p x q a) = refl
  same_names (more_locals p x q a ls) = ap (λ (xs : List Name). record { word = x; place = nowhere } ∷ xs) (same_names ls)

  same_labels : (fs : Fields) → labels (moved_fields c fs) ≡ labels fs
  same_labels (last_field f p a) = refl
  same_labels (field f p a q fs) = ap (λ (xs : List Word). f.text ∷ xs) (same_labels fs)

  same_steps : (path : Path) → steps (moved_path c path) ≡ steps path
  same_steps path_end = refl
  same_steps (index p xs q path) = ap (λ (ns : List PathStep). tree.index ∷ ns) (same_steps path)
  same_steps (at_field p f path) = ap (λ (ns : List PathStep). tree.field f.text ∷ ns) (same_steps path)

  same_slots : (p q : Place) (ss : Settings) → map slot_placeless (slots p (moved_settings c ss)) ≡ map slot_placeless (slots q ss)
  same_slots p q (last_setting o path r a) = ap (λ (ns : List PathStep). record { path = ns; place = nowhere } ∷ []) (same_steps path)
  same_slots p q (setting o path r a s ss) = (let own = same_steps path in let others = same_slots p q ss in λ i. record { path = own i; place = nowhere } ∷ others i)

  same_other : (xs : Arms) → has_other (moved_arms c xs) ≡ has_other xs
  same_other (last_arm a p b) = refl
  same_other (other_arm a p b q r s d) = refl
  same_other (arm a p b q xs) = same_other xs

  -- ---- trees

  -- the same trees, places aside, and the same after them
  abbrev AlikeBefore : (Trees → Trees) → (Trees → Trees) → Type 0
  AlikeBefore f g = (ts us : Trees) → trees_placeless ts ≡ trees_placeless us → trees_placeless (f ts) ≡ trees_placeless (g us)

  -- of one binder, over names that are the same and parts that are
  binding : (b : Binder) (gs hs : List (List Name)) (ts us : Trees) → map names_placeless gs ≡ map names_placeless hs → trees_placeless ts ≡ trees_placeless us
      → node (tree.binding b (map names_placeless gs)) nowhere (trees_placeless ts) ≡ node (tree.binding b (map names_placeless hs)) nowhere (trees_placeless us)
  binding b gs hs ts us e f = λ i. node (tree.binding b (e i)) nowhere (f i)

  mutual
    pub same_tree : (a : Phrase) → tree_placeless (tree_of (moved c a)) ≡ tree_placeless (tree_of a)
    same_tree (number p n) = refl
    same_tree (string p x) = refl
    same_tree (constant p k) = refl
    same_tree (name p x) = refl
    same_tree (primed p x q) = refl
    same_tree (call p x q xs r) = ap (node (tree.operator_call x) nowhere) (same_trees xs)
    same_tree (brackets p a q) = same_tree a
    same_tree (no_set p q) = refl
    same_tree (set_of p xs q) = ap (node (tree.strict tree.set_of) nowhere) (same_trees xs)
    same_tree (filter p q x r s t a u) =
        let set = same_tree s in
        let body = same_tree a in
        λ i. node (tree.binding binder.Filter ((record { word = x; place = nowhere } ∷ []) ∷ [])) nowhere (two (set i) (body i))
    same_tree (image p a q bs r) = (let set = same_sets bs (one (tree_of (moved c a))) (one (tree_of a)) (ap one (same_tree a)) in binding binder.Image (groups (moved_binds c bs)) (groups bs) (sets_before (moved_binds c bs) (one (tree_of (moved c a)))) (sets_before bs (one (tree_of a))) (same_groups bs) set)
    same_tree (no_tuple p q) = refl
    same_tree (tuple p xs q) = ap (node (tree.strict tree.tuple) nowhere) (same_trees xs)
    same_tree (fields p fs q) = (let names = same_labels fs in let parts = same_fields fs in λ i. node (tree.strict (tree.fields (names i))) nowhere (parts i))
    same_tree (records p fs q) = (let names = same_labels fs in let parts = same_fields fs in λ i. node (tree.strict (tree.records (names i))) nowhere (parts i))
    same_tree (function p bs q a r) = (let set = same_sets bs (one (tree_of (moved c a))) (one (tree_of a)) (ap one (same_tree a)) in binding binder.Function (groups (moved_binds c bs)) (groups bs) (sets_before (moved_binds c bs) (one (tree_of (moved c a)))) (sets_before bs (one (tree_of a))) (same_groups bs) set)
    same_tree (functions p a q b r) = (let left = same_tree a in let right = same_tree b in λ i. node (tree.strict tree.functions) nowhere (two (left i) (right i)))
    same_tree (except p a q ss r) =
        let paths = same_slots (moved_place c p) p ss in
        let of = same_tree a in
        let parts = same_settings ss in
        λ i. node (tree.strict (tree.except (paths i))) nowhere (tree.tree (of i) (parts i))
    same_tree (apply a p xs q) = (let of = same_tree a in let at = same_subscript xs in λ i. node (tree.strict tree.apply) nowhere (two (of i) (at i)))
    same_tree (select a p f) = ap (λ (t : Tree). node (tree.strict (tree.select f.text)) nowhere (one t)) (same_tree a)
    same_tree (list o bs) = same_joined o bs
    same_tree (quantified true p bs q a) = (let set = same_sets bs (one (tree_of (moved c a))) (one (tree_of a)) (ap one (same_tree a)) in binding binder.ForAll (groups (moved_binds c bs)) (groups bs) (sets_before (moved_binds c bs) (one (tree_of (moved c a)))) (sets_before bs (one (tree_of a))) (same_groups bs) set)
    same_tree (quantified false p bs q a) = (let set = same_sets bs (one (tree_of (moved c a))) (one (tree_of a)) (ap one (same_tree a)) in binding binder.Exists (groups (moved_binds c bs)) (groups bs) (sets_before (moved_binds c bs) (one (tree_of (moved c a)))) (sets_before bs (one (tree_of a))) (same_groups bs) set)
    same_tree (if_then_else p a q b r d) =
        let test = same_tree a in
        let then = same_tree b in
        let other = same_tree d in
        λ i. node tree.if_then_else nowhere (tree.tree (test i) (two (then i) (other i)))
    same_tree (cases p xs) = (let other = same_other xs in let arms = same_arms xs in λ i. node (tree.cases (other i)) nowhere (arms i))
    same_tree (local p ls q a) =
        let names = same_names ls in
        let parts = same_sides ls (one (tree_of (moved c a))) (one (tree_of a)) (ap one (same_tree a)) in
        λ i. node (tree.local (names i)) nowhere (parts i)
    same_tree (infix_of a p o b) = (let left = same_tree a in let right = same_tree b in λ i. node (form_placeless (operation o)) nowhere (two (left i) (right i)))
    same_tree (prefix_of p o a) = ap (λ (t : Tree). node (form_placeless (operation o)) nowhere (one t)) (same_tree a)

    pub same_trees : (xs : Phrases) → trees_placeless (trees_of (moved_all c xs)) ≡ trees_placeless (trees_of xs)
    same_trees (last a) = ap one (same_tree a)
    same_trees (more a p xs) = (let own = same_tree a in let others = same_trees xs in λ i. tree.tree (own i) (others i))

    same_subscript : (xs : Phrases) → tree_placeless (subscript (moved_all c xs)) ≡ tree_placeless (subscript xs)
    same_subscript (last a) = same_tree a
    same_subscript (more a p xs) = (let own = same_tree a in let others = same_trees xs in λ i. node (tree.strict tree.tuple) nowhere (tree.tree (own i) (others i)))

    same_sets : (bs : Binds) → AlikeBefore (sets_before (moved_binds c bs)) (sets_before bs)
    same_sets (last_bind p x q a) ts us e = (let own = same_tree a in λ i. tree.tree (own i) (e i))
    same_sets (bind p x q a r bs) ts us e = (let own = same_tree a in let others = same_sets bs ts us e in λ i. tree.tree (own i) (others i))
    same_sets (share p x q bs) ts us e = same_sets bs ts us e

    same_fields : (fs : Fields) → trees_placeless (field_trees (moved_fields c fs)) ≡ trees_placeless (field_trees fs)
    same_fields (last_field f p a) = ap one (same_tree a)
    same_fields (field f p a q fs) = (let own = same_tree a in let others = same_fields fs in λ i. tree.tree (own i) (others i))

    same_settings : (ss : Settings) → trees_placeless (setting_trees (moved_settings c ss)) ≡ trees_placeless (setting_trees ss)
    same_settings (last_setting p path q a) = same_subscripts path (one (tree_of (moved c a))) (one (tree_of a)) (ap one (same_tree a))
    same_settings (setting p path q a r ss) =
        let own = same_tree a in
        let others = same_settings ss in
        same_subscripts path (tree.tree (tree_of (moved c a)) (setting_trees (moved_settings c ss))) (tree.tree (tree_of a) (setting_trees ss)) (λ i. tree.tree (own i) (others i))

    same_subscripts : (path : Path) → AlikeBefore (subscripts (moved_path c path)) (subscripts path)
    same_subscripts path_end ts us e = e
    same_subscripts (index p xs q path) ts us e = (let own = same_subscript xs in let others = same_subscripts path ts us e in λ i. tree.tree (own i) (others i))
    same_subscripts (at_field p f path) ts us e = same_subscripts path ts us e

    same_joined : (o : Op) (bs : Bullets) → tree_placeless (joined o (moved_bullets c bs)) ≡ tree_placeless (joined o bs)
    same_joined o (last_bullet p a) = same_tree a
    same_joined o (bullet p a bs) = same_joined_to o (moved_place c p) p (tree_of (moved c a)) (tree_of a) (same_tree a) bs

    same_joined_to : (o : Op) (p q : Place) (t u : Tree) → tree_placeless t ≡ tree_placeless u → (bs : Bullets)
        → tree_placeless (joined_to o p t (moved_bullets c bs)) ≡ tree_placeless (joined_to o q u bs)
    same_joined_to o p q t u e (last_bullet r a) = (let right = same_tree a in λ i. node (form_placeless (operation o)) nowhere (two (e i) (right i)))
    same_joined_to o p q t u e (bullet r a bs) =
        let right = same_tree a in
        same_joined_to o p q (node (operation o) p (two t (tree_of (moved c a)))) (node (operation o) q (two u (tree_of a)))
        (λ i. node (form_placeless (operation o)) nowhere (two (e i) (right i))) bs

    same_arms : (xs : Arms) → trees_placeless (arm_trees (moved_arms c xs)) ≡ trees_placeless (arm_trees xs)
    same_arms (last_arm a p b) = (let test = same_tree a in let then = same_tree b in λ i. two (test i) (then i))
    same_arms (other_arm a p b q r s d) =
        let test = same_tree a in
        let then = same_tree b in
        let other = same_tree d in
        λ i. tree.tree (test i) (two (then i) (other i))
    same_arms (arm a p b q xs) =
        let test = same_tree a in
        let then = same_tree b in
        let others = same_arms xs in
        λ i. tree.tree (test i) (tree.tree (then i) (others i))

    same_sides : (ls : Locals) → AlikeBefore (right_sides_before (moved_locals c ls)) (right_sides_before ls)
    same_sides (last_local p x q a) ts us e = (let own = same_tree a in λ i. tree.tree (own i) (e i))
    same_sides (more_locals p x q a ls) ts us e = (let own = same_tree a in let others = same_sides ls ts us e in λ i. tree.tree (own i) (others i))
