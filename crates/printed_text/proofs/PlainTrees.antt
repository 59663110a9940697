-- Trees of phrases whose tokens are of an algorithm have no primes, and no strings with marks of comments.
use Rattle.std.proofs.Common.{◌≡◌, true, false, not, List, [], ◌∷◌, refl}
use Rattle.std.specs.Bool.{IsTrue}
use Rattle.tla_token.specs.declared.place.Place.{Place}
use Rattle.tla_token.specs.Tokens.{holds_mark}
use Rattle.tla_tree.specs.declared.op.Op.{Op}
use Rattle.tla_tree.specs.declared.op.Op.TheVariants as op
use Rattle.tla_tree.specs.Tree.{Tree, Trees, node, no_trees, tree, Every, EveryOf}
use Rattle.tla_tree.specs.Lexical.{TokenView, Constant, Token}
use Rattle.tla_tree.specs.Lexical as tk
use Rattle.tla_tree.specs.Spelling.{Phrase, number, string, constant, name, primed, call, brackets, no_set, set_of, filter, image, no_tuple, tuple, fields, records, function, functions, except, apply, select, list, quantified, if_then_else, cases, local, infix_of, prefix_of}
use Rattle.tla_tree.specs.Spelling.{Phrases, last, more, Binds, last_bind, bind, share, Fields, last_field, field, Settings, last_setting, setting, Path, path_end, index, at_field, Bullets, last_bullet, bullet, Arms, last_arm, other_arm, arm, Locals, last_local, more_locals}
use Rattle.tla_tree.specs.Spelling.{spell, spell_all, spell_binds, spell_fields, spell_settings, spell_path, spell_bullets, spell_arms, spell_locals}
use Rattle.tla_tree.specs.Spelling.{start, constant_form, operation, one, two, tree_of, trees_of, subscript, sets_before, field_trees, setting_trees, subscripts, joined, joined_to, arm_trees, right_sides_before}
use Rattle.printed_text.specs.laws.Printable.{is_plain}

-- an algorithm may have it
abbrev pub IsPlain : TokenView → Type 0
IsPlain (tk.mark tk.prime) = ⊥
IsPlain (tk.string x) = not (holds_mark x) ≡ true
IsPlain k = Unit {0}

abbrev pub ArePlain : List Token → Type 0
ArePlain [] = Unit {0}
ArePlain (t ∷ ts) = IsPlain t.kind × ArePlain ts

abbrev Plain : Tree → Type 0
Plain t = Every (λ m at. IsTrue (is_plain m)) t

abbrev Plains : Trees → Type 0
Plains ts = EveryOf (λ m at. IsTrue (is_plain m)) ts

constant_plain : (c : Constant) (p : Place) → Plain (node (constant_form c) p no_trees)
constant_plain (tk.truth b) p = (refl, tt)
constant_plain tk.booleans p = (refl, tt)
constant_plain tk.strings p = (refl, tt)

operation_plain : (o : Op) (p : Place) (ts : Trees) → Plains ts → Plain (node (operation o) p ts)
operation_plain op.And p ts h = (refl, h)
operation_plain o p ts h = (refl, h)

mutual
  pub of_phrase : (a : Phrase) (ts : List Token) → ArePlain (spell a ts) → Plain (tree_of a) × ArePlain ts
  of_phrase (number p n) ts h = ((refl, tt), h.1)
  of_phrase (string p x) ts h = ((h.0, tt), h.1)
  of_phrase (constant p c) ts h = (constant_plain c p, h.1)
  of_phrase (name p x) ts h = ((refl, tt), h.1)
  of_phrase (primed p x q) ts h = absurd h.1.0
  of_phrase (call p x q xs r) ts h = (let u = of_all xs _ h.1.1 in ((refl, u.0), u.1.1))
  of_phrase (brackets p a q) ts h = (let u = of_phrase a _ h.1 in (u.0, u.1.1))
  of_phrase (no_set p q) ts h = ((refl, tt), h.1.1)
  of_phrase (set_of p xs q) ts h = (let u = of_all xs _ h.1 in ((refl, u.0), u.1.1))
  of_phrase (filter p q x r s t a v) ts h =
      let u = of_phrase s _ h.1.1.1 in
      let w = of_phrase a _ u.1.1 in
      ((refl, (u.0, (w.0, tt))), w.1.1)
  of_phrase (image p a q bs r) ts h =
      let u = of_phrase a _ h.1 in
      let w = of_binds bs _ u.1.1 in
      ((refl, w.0 (one (tree_of a)) (u.0, tt)), w.1.1)
  of_phrase (no_tuple p q) ts h = ((refl, tt), h.1.1)
  of_phrase (tuple p xs q) ts h = (let u = of_all xs _ h.1 in ((refl, u.0), u.1.1))
  of_phrase (fields p fs q) ts h = (let u = of_fields tk.maps fs _ h.1 in ((refl, u.0), u.1.1))
  of_phrase (records p fs q) ts h = (let u = of_fields tk.colon fs _ h.1 in ((refl, u.0), u.1.1))
  of_phrase (function p bs q a r) ts h =
      let w = of_binds bs _ h.1 in
      let u = of_phrase a _ w.1.1 in
      ((refl, w.0 (one (tree_of a)) (u.0, tt)), u.1.1)
  of_phrase (functions p a q b r) ts h =
      let u = of_phrase a _ h.1 in
      let w = of_phrase b _ u.1.1 in
      ((refl, (u.0, (w.0, tt))), w.1.1)
  of_phrase (except p a q ss r) ts h =
      let u = of_phrase a _ h.1 in
      let w = of_settings ss _ u.1.1 in
      ((refl, (u.0, w.0)), w.1.1)
  of_phrase (apply a p xs q) ts h =
      let u = of_phrase a _ h in
      let w = of_subscript xs _ u.1.1 in
      ((refl, (u.0, (w.0, tt))), w.1.1)
  of_phrase (select a p f) ts h = (let u = of_phrase a _ h in ((refl, (u.0, tt)), u.1.1.1))
  of_phrase (list o bs) ts h = of_list o bs ts h
  of_phrase (quantified true p bs q a) ts h =
      let w = of_binds bs _ h.1 in
      let u = of_phrase a _ w.1.1 in
      ((refl, w.0 (one (tree_of a)) (u.0, tt)), u.1)
  of_phrase (quantified false p bs q a) ts h =
      let w = of_binds bs _ h.1 in
      let u = of_phrase a _ w.1.1 in
      ((refl, w.0 (one (tree_of a)) (u.0, tt)), u.1)
  of_phrase (if_then_else p a q b r c) ts h =
      let u = of_phrase a _ h.1 in
      let w = of_phrase b _ u.1.1 in
      let z = of_phrase c _ w.1.1 in
      ((refl, (u.0, (w.0, (z.0, tt)))), z.1)
  of_phrase (cases p xs) ts h = (let u = of_arms xs _ h.1 in ((refl, u.0), u.1))
  of_phrase (local p ls q a) ts h =
      let w = of_locals ls _ h.1 in
      let u = of_phrase a _ w.1.1 in
      ((refl, w.0 (one (tree_of a)) (u.0, tt)), u.1)
  of_phrase (infix_of a p o b) ts h =
      let u = of_phrase a _ h in
      let w = of_phrase b _ u.1.1 in
      (operation_plain o (start a) (two (tree_of a) (tree_of b)) (u.0, (w.0, tt)), w.1)
  of_phrase (prefix_of p o a) ts h = (let u = of_phrase a _ h.1 in (operation_plain o p (one (tree_of a)) (u.0, tt), u.1))

  of_all : (xs : Phrases) (ts : List Token) → ArePlain (spell_all xs ts) → Plains (trees_of xs) × ArePlain ts
  of_all (last a) ts h = (let u = of_phrase a _ h in ((u.0, tt), u.1))
  of_all (more a p xs) ts h =
      let u = of_phrase a _ h in
      let w = of_all xs _ u.1.1 in
      ((u.0, w.0), w.1)

  of_subscript : (xs : Phrases) (ts : List Token) → ArePlain (spell_all xs ts) → Plain (subscript xs) × ArePlain ts
  of_subscript (last a) ts h = of_phrase a _ h
  of_subscript (more a p xs) ts h =
      let u = of_phrase a _ h in
      let w = of_all xs _ u.1.1 in
      ((refl, (u.0, w.0)), w.1)

  of_binds : (bs : Binds) (ts : List Token) → ArePlain (spell_binds bs ts) → ((us : Trees) → Plains us → Plains (sets_before bs us)) × ArePlain ts
  of_binds (last_bind p x q a) ts h = (let u = of_phrase a _ h.1.1 in ((λ us k. (u.0, k)), u.1))
  of_binds (bind p x q a r bs) ts h =
      let u = of_phrase a _ h.1.1 in
      let w = of_binds bs _ u.1.1 in
      ((λ us k. (u.0, w.0 us k)), w.1)
  of_binds (share p x q bs) ts h = of_binds bs _ h.1.1

  of_fields : (m : tk.Mark) (fs : Fields) (ts : List Token) → ArePlain (spell_fields m fs ts) → Plains (field_trees fs) × ArePlain ts
  of_fields m (last_field f p a) ts h = (let u = of_phrase a _ h.1.1 in ((u.0, tt), u.1))
  of_fields m (field f p a q fs) ts h =
      let u = of_phrase a _ h.1.1 in
      let w = of_fields m fs _ u.1.1 in
      ((u.0, w.0), w.1)

  of_path : (path : Path) (ts : List Token) → ArePlain (spell_path path ts) → ((us : Trees) → Plains us → Plains (subscripts path us)) × ArePlain ts
  of_path path_end ts h = ((λ us k. k), h)
  of_path (index p xs q path) ts h =
      let u = of_subscript xs _ h.1 in
      let w = of_path path _ u.1.1 in
      ((λ us k. (u.0, w.0 us k)), w.1)
  of_path (at_field p f path) ts h = of_path path _ h.1.1

  of_settings : (ss : Settings) (ts : List Token) → ArePlain (spell_settings ss ts) → Plains (setting_trees ss) × ArePlain ts
  of_settings (last_setting p path q a) ts h =
      let w = of_path path _ h.1 in
      let u = of_phrase a _ w.1.1 in
      (w.0 (one (tree_of a)) (u.0, tt), u.1)
  of_settings (setting p path q a r ss) ts h =
      let w = of_path path _ h.1 in
      let u = of_phrase a _ w.1.1 in
      let z = of_settings ss _ u.1.1 in
      (w.0 (tree (tree_of a) (setting_trees ss)) (u.0, z.0), z.1)

  of_list : (o : Op) (bs : Bullets) (ts : List Token) → ArePlain (spell_bullets o bs ts) → Plain (joined o bs) × ArePlain ts
  of_list o (last_bullet p a) ts h = of_phrase a _ h.1
  of_list o (bullet p a bs) ts h = (let u = of_phrase a _ h.1 in of_bullets o p (tree_of a) bs ts u.0 u.1)

  of_bullets : (o : Op) (at : Place) (t : Tree) (bs : Bullets) (ts : List Token) → Plain t → ArePlain (spell_bullets o bs ts) → Plain (joined_to o at t bs) × ArePlain ts
  of_bullets o at t (last_bullet p a) ts k h = (let u = of_phrase a _ h.1 in (operation_plain o at (two t (tree_of a)) (k, (u.0, tt)), u.1))
  of_bullets o at t (bullet p a bs) ts k h =
      let u = of_phrase a _ h.1 in
      of_bullets o at (node (operation o) at (two t (tree_of a))) bs ts (operation_plain o at (two t (tree_of a)) (k, (u.0, tt))) u.1

  of_arms : (xs : Arms) (ts : List Token) → ArePlain (spell_arms xs ts) → Plains (arm_trees xs) × ArePlain ts
  of_arms (last_arm a p b) ts h =
      let u = of_phrase a _ h in
      let w = of_phrase b _ u.1.1 in
      ((u.0, (w.0, tt)), w.1)
  of_arms (other_arm a p b q r s c) ts h =
      let u = of_phrase a _ h in
      let w = of_phrase b _ u.1.1 in
      let z = of_phrase c _ w.1.1.1.1 in
      ((u.0, (w.0, (z.0, tt))), z.1)
  of_arms (arm a p b q xs) ts h =
      let u = of_phrase a _ h in
      let w = of_phrase b _ u.1.1 in
      let z = of_arms xs _ w.1.1 in
      ((u.0, (w.0, z.0)), z.1)

  of_locals : (ls : Locals) (ts : List Token) → ArePlain (spell_locals ls ts) → ((us : Trees) → Plains us → Plains (right_sides_before ls us)) × ArePlain ts
  of_locals (last_local p x q a) ts h = (let u = of_phrase a _ h.1.1 in ((λ us k. (u.0, k)), u.1))
  of_locals (more_locals p x q a ls) ts h =
      let u = of_phrase a _ h.1.1 in
      let w = of_locals ls _ u.1 in
      ((λ us k. (u.0, w.0 us k)), w.1)
