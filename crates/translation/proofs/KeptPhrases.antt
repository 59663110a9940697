-- An expression that is spelled by tokens of which none is a prime has no primed name in it.
use Rattle.std.proofs.Common.{true, false, List}
use Rattle.tla_token.specs.declared.place.Place.{Place}
use Rattle.tla_tree.specs.declared.op.Op.{Op}
use Rattle.tla_tree.specs.declared.op.Op.TheVariants as op
use Rattle.tla_tree.specs.Tree.{Tree, Trees, node, no_trees}
use Rattle.tla_tree.specs.Tree as tree
use Rattle.tla_tree.specs.Lexical.{Constant, Token}
use Rattle.tla_tree.specs.Lexical as tk
use Rattle.tla_tree.specs.Spelling.{Phrase, number, string, constant, name, primed, call, brackets, no_set, set_of, filter, image, no_tuple, tuple, fields, records, function, functions, except, apply, select, list, quantified, if_then_else, cases, local, infix_of, prefix_of}
use Rattle.tla_tree.specs.Spelling.{Phrases, last, more, Binds, last_bind, bind, share, Fields, last_field, field, Settings, last_setting, setting, Path, path_end, index, at_field, Bullets, last_bullet, bullet, Arms, last_arm, other_arm, arm, Locals, last_local, more_locals}
use Rattle.tla_tree.specs.Spelling.{spell, spell_all, spell_binds, spell_fields, spell_settings, spell_path, spell_bullets, spell_arms, spell_locals}
use Rattle.tla_tree.specs.Spelling.{start, constant_form, operation, one, two, tree_of, trees_of, subscript, sets_before, field_trees, setting_trees, subscripts, joined, joined_to, arm_trees, right_sides_before}
use Rattle.tla_value.specs.laws.Grafting.{IsUnprimed}
use Rattle.translation.specs.laws.KeptUnprimed.{AreBare, Unprimed, AreUnprimed}

operator_unprimed : (o : Op) (at : Place) → IsUnprimed (operation o) at
operator_unprimed op.And at = tt
operator_unprimed op.Or at = tt
operator_unprimed op.Implies at = tt
operator_unprimed op.In at = tt
operator_unprimed op.NotIn at = tt
operator_unprimed o at = tt

constant_unprimed : (c : Constant) (at : Place) → IsUnprimed (constant_form c) at
constant_unprimed (tk.truth b) at = tt
constant_unprimed tk.booleans at = tt
constant_unprimed tk.strings at = tt

mutual
  pub phrase_unprimed : (a : Phrase) (ts : List Token) → AreBare (spell a ts) → Unprimed (tree_of a) × AreBare ts
  phrase_unprimed (number p n) ts h = ((tt, tt), h.1)
  phrase_unprimed (string p x) ts h = ((tt, tt), h.1)
  phrase_unprimed (constant p c) ts h = ((constant_unprimed c p, tt), h.1)
  phrase_unprimed (name p x) ts h = ((tt, tt), h.1)
  phrase_unprimed (primed p x q) ts h = absurd h.1.0
  phrase_unprimed (call p x q xs r) ts h = (let u = all_unprimed xs _ h.1.1 in ((tt, u.0), u.1.1))
  phrase_unprimed (brackets p a q) ts h = (let u = phrase_unprimed a _ h.1 in (u.0, u.1.1))
  phrase_unprimed (no_set p q) ts h = ((tt, tt), h.1.1)
  phrase_unprimed (set_of p xs q) ts h = (let u = all_unprimed xs _ h.1 in ((tt, u.0), u.1.1))
  phrase_unprimed (filter p q x r s t a v) ts h =
      let u = phrase_unprimed s _ h.1.1.1 in
      let w = phrase_unprimed a _ u.1.1 in
      ((tt, (u.0, (w.0, tt))), w.1.1)
  phrase_unprimed (image p a q bs r) ts h =
      let u = phrase_unprimed a _ h.1 in
      let w = binds_unprimed bs _ u.1.1 in
      ((tt, w.0 (one (tree_of a)) (u.0, tt)), w.1.1)
  phrase_unprimed (no_tuple p q) ts h = ((tt, tt), h.1.1)
  phrase_unprimed (tuple p xs q) ts h = (let u = all_unprimed xs _ h.1 in ((tt, u.0), u.1.1))
  phrase_unprimed (fields p fs q) ts h = (let u = fields_unprimed tk.maps fs _ h.1 in ((tt, u.0), u.1.1))
  phrase_unprimed (records p fs q) ts h = (let u = fields_unprimed tk.colon fs _ h.1 in ((tt, u.0), u.1.1))
  phrase_unprimed (function p bs q a r) ts h =
      let w = binds_unprimed bs _ h.1 in
      let u = phrase_unprimed a _ w.1.1 in
      ((tt, w.0 (one (tree_of a)) (u.0, tt)), u.1.1)
  phrase_unprimed (functions p a q b r) ts h =
      let u = phrase_unprimed a _ h.1 in
      let w = phrase_unprimed b _ u.1.1 in
      ((tt, (u.0, (w.0, tt))), w.1.1)
  phrase_unprimed (except p a q ss r) ts h =
      let u = phrase_unprimed a _ h.1 in
      let w = settings_unprimed ss _ u.1.1 in
      ((tt, (u.0, w.0)), w.1.1)
  phrase_unprimed (apply a p xs q) ts h =
      let u = phrase_unprimed a _ h in
      let w = subscript_unprimed xs _ u.1.1 in
      ((tt, (u.0, (w.0, tt))), w.1.1)
  phrase_unprimed (select a p f) ts h = (let u = phrase_unprimed a _ h in ((tt, (u.0, tt)), u.1.1.1))
  phrase_unprimed (list o bs) ts h = list_unprimed o bs ts h
  phrase_unprimed (quantified true p bs q a) ts h =
      let w = binds_unprimed bs _ h.1 in
      let u = phrase_unprimed a _ w.1.1 in
      ((tt, w.0 (one (tree_of a)) (u.0, tt)), u.1)
  phrase_unprimed (quantified false p bs q a) ts h =
      let w = binds_unprimed bs _ h.1 in
      let u = phrase_unprimed a _ w.1.1 in
      ((tt, w.0 (one (tree_of a)) (u.0, tt)), u.1)
  phrase_unprimed (if_then_else p a q b r c) ts h =
      let u = phrase_unprimed a _ h.1 in
      let w = phrase_unprimed b _ u.1.1 in
      let z = phrase_unprimed c _ w.1.1 in
      ((tt, (u.0, (w.0, (z.0, tt)))), z.1)
  phrase_unprimed (cases p xs) ts h = (let u = arms_unprimed xs _ h.1 in ((tt, u.0), u.1))
  phrase_unprimed (local p ls q a) ts h =
      let w = locals_unprimed ls _ h.1 in
      let u = phrase_unprimed a _ w.1.1 in
      ((tt, w.0 (one (tree_of a)) (u.0, tt)), u.1)
  phrase_unprimed (infix_of a p o b) ts h =
      let u = phrase_unprimed a _ h in
      let w = phrase_unprimed b _ u.1.1 in
      ((operator_unprimed o (start a), (u.0, (w.0, tt))), w.1)
  phrase_unprimed (prefix_of p o a) ts h = (let u = phrase_unprimed a _ h.1 in ((operator_unprimed o p, (u.0, tt)), u.1))

  pub all_unprimed : (xs : Phrases) (ts : List Token) → AreBare (spell_all xs ts) → AreUnprimed (trees_of xs) × AreBare ts
  all_unprimed (last a) ts h = (let u = phrase_unprimed a _ h in ((u.0, tt), u.1))
  all_unprimed (more a p xs) ts h =
      let u = phrase_unprimed a _ h in
      let w = all_unprimed xs _ u.1.1 in
      ((u.0, w.0), w.1)

  subscript_unprimed : (xs : Phrases) (ts : List Token) → AreBare (spell_all xs ts) → Unprimed (subscript xs) × AreBare ts
  subscript_unprimed (last a) ts h = phrase_unprimed a _ h
  subscript_unprimed (more a p xs) ts h =
      let u = phrase_unprimed a _ h in
      let w = all_unprimed xs _ u.1.1 in
      ((tt, (u.0, w.0)), w.1)

  binds_unprimed : (bs : Binds) (ts : List Token) → AreBare (spell_binds bs ts) → ((us : Trees) → AreUnprimed us → AreUnprimed (sets_before bs us)) × AreBare ts
  binds_unprimed (last_bind p x q a) ts h = (let u = phrase_unprimed a _ h.1.1 in ((λ us k. (u.0, k)), u.1))
  binds_unprimed (bind p x q a r bs) ts h =
      let u = phrase_unprimed a _ h.1.1 in
      let w = binds_unprimed bs _ u.1.1 in
      ((λ us k. (u.0, w.0 us k)), w.1)
  binds_unprimed (share p x q bs) ts h = binds_unprimed bs _ h.1.1

  fields_unprimed : (m : tk.Mark) (fs : Fields) (ts : List Token) → AreBare (spell_fields m fs ts) → AreUnprimed (field_trees fs) × AreBare ts
  fields_unprimed m (last_field f p a) ts h = (let u = phrase_unprimed a _ h.1.1 in ((u.0, tt), u.1))
  fields_unprimed m (field f p a q fs) ts h =
      let u = phrase_unprimed a _ h.1.1 in
      let w = fields_unprimed m fs _ u.1.1 in
      ((u.0, w.0), w.1)

  path_unprimed : (path : Path) (ts : List Token) → AreBare (spell_path path ts) → ((us : Trees) → AreUnprimed us → AreUnprimed (subscripts path us)) × AreBare ts
  path_unprimed path_end ts h = ((λ us k. k), h)
  path_unprimed (index p xs q path) ts h =
      let u = subscript_unprimed xs _ h.1 in
      let w = path_unprimed path _ u.1.1 in
      ((λ us k. (u.0, w.0 us k)), w.1)
  path_unprimed (at_field p f path) ts h = path_unprimed path _ h.1.1

  settings_unprimed : (ss : Settings) (ts : List Token) → AreBare (spell_settings ss ts) → AreUnprimed (setting_trees ss) × AreBare ts
  settings_unprimed (last_setting p path q a) ts h =
      let w = path_unprimed path _ h.1 in
      let u = phrase_unprimed a _ w.1.1 in
      (w.0 (one (tree_of a)) (u.0, tt), u.1)
  settings_unprimed (setting p path q a r ss) ts h =
      let w = path_unprimed path _ h.1 in
      let u = phrase_unprimed a _ w.1.1 in
      let z = settings_unprimed ss _ u.1.1 in
      (w.0 (tree.tree (tree_of a) (setting_trees ss)) (u.0, z.0), z.1)

  list_unprimed : (o : Op) (bs : Bullets) (ts : List Token) → AreBare (spell_bullets o bs ts) → Unprimed (joined o bs) × AreBare ts
  list_unprimed o (last_bullet p a) ts h = phrase_unprimed a _ h.1
  list_unprimed o (bullet p a bs) ts h = (let u = phrase_unprimed a _ h.1 in bullets_unprimed o p (tree_of a) bs ts u.0 u.1)

  bullets_unprimed : (o : Op) (at : Place) (t : Tree) (bs : Bullets) (ts : List Token) → Unprimed t → AreBare (spell_bullets o bs ts) → Unprimed (joined_to o at t bs) × AreBare ts
  bullets_unprimed o at t (last_bullet p a) ts k h = (let u = phrase_unprimed a _ h.1 in ((operator_unprimed o at, (k, (u.0, tt))), u.1))
  bullets_unprimed o at t (bullet p a bs) ts k h =
      let u = phrase_unprimed a _ h.1 in
      bullets_unprimed o at (node (operation o) at (two t (tree_of a))) bs ts (operator_unprimed o at, (k, (u.0, tt))) u.1

  arms_unprimed : (xs : Arms) (ts : List Token) → AreBare (spell_arms xs ts) → AreUnprimed (arm_trees xs) × AreBare ts
  arms_unprimed (last_arm a p b) ts h =
      let u = phrase_unprimed a _ h in
      let w = phrase_unprimed b _ u.1.1 in
      ((u.0, (w.0, tt)), w.1)
  arms_unprimed (other_arm a p b q r s c) ts h =
      let u = phrase_unprimed a _ h in
      let w = phrase_unprimed b _ u.1.1 in
      let z = phrase_unprimed c _ w.1.1.1.1 in
      ((u.0, (w.0, (z.0, tt))), z.1)
  arms_unprimed (arm a p b q xs) ts h =
      let u = phrase_unprimed a _ h in
      let w = phrase_unprimed b _ u.1.1 in
      let z = arms_unprimed xs _ w.1.1 in
      ((u.0, (w.0, z.0)), z.1)

  locals_unprimed : (ls : Locals) (ts : List Token) → AreBare (spell_locals ls ts) → ((us : Trees) → AreUnprimed us → AreUnprimed (right_sides_before ls us)) × AreBare ts
  locals_unprimed (last_local p x q a) ts h = (let u = phrase_unprimed a _ h.1.1 in ((λ us k. (u.0, k)), u.1))
  locals_unprimed (more_locals p x q a ls) ts h =
      let u = phrase_unprimed a _ h.1.1 in
      let w = locals_unprimed ls _ u.1 in
      ((λ us k. (u.0, w.0 us k)), w.1)
