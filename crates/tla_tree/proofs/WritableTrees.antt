-- Trees that are spelled by tokens of a text can be written.
use Rattle.std.proofs.Common.{◌≡◌, ℕ, zero, suc, ◌+◌, ◌≤◌, Bool, true, false, not, List, [], ◌∷◌, ◌++◌, length, Option, Some, None, refl, sym, ap, subst, arith}
use Rattle.std.specs.List.{flat_map}
use Rattle.std.proofs.lemmas.Bool.{not-true, or_parts}
use Rattle.tla_token.specs.declared.place.Place.{Place}
use Rattle.tla_token.specs.Words.{is_pluscal_word, is_tla_word, is_reserved}
use Rattle.tla_tree.specs.declared.op.Op.{Op}
use Rattle.tla_tree.specs.declared.op.Op.TheVariants as op
use Rattle.tla_tree.specs.Rank.{is_prefix, is_bullet}
use Rattle.tla_tree.specs.Tree.{Word, Name, Slot, Tree, Trees, node, no_trees, words, Each, Graft, grafted_name, grafted_node, graft, grafts}
use Rattle.tla_tree.specs.Tree as tree
use Rattle.tla_tree.specs.Shapes.{HasPath, HavePaths, settings, CaseShaped, HaveNames, Shaped}
use Rattle.tla_tree.specs.Shapes as shape
use Rattle.tla_tree.specs.Lexical.{Constant, Token, field_kind}
use Rattle.tla_tree.specs.Lexical as tk
use Rattle.tla_tree.specs.Spelling.{Phrase, number, string, constant, name, primed, call, brackets, no_set, set_of, filter, image, no_tuple, tuple, fields, records, function, functions, except, apply, select, list, quantified, if_then_else, cases, local, infix_of, prefix_of}
use Rattle.tla_tree.specs.Spelling.{Phrases, last, more, Binds, last_bind, bind, share, Fields, last_field, field, Settings, last_setting, setting, Path, path_end, index, at_field, Bullets, last_bullet, bullet, Arms, last_arm, other_arm, arm, Locals, last_local, more_locals}
use Rattle.tla_tree.specs.Spelling.{Good, GoodAll, GoodBinds, GoodFields, GoodSettings, GoodPath, GoodBullets, GoodArms, GoodLocals, is_some_path, spell, spell_all, spell_binds, spell_fields, spell_settings, spell_path, spell_bullets, spell_arms, spell_locals}
use Rattle.tla_tree.specs.Spelling.{start, constant_form, operation, one, two, in_first, groups, local_names, labels, steps, slots, has_other, tree_of, trees_of, subscript, sets_before, field_trees, setting_trees, subscripts, joined, joined_to, arm_trees, right_sides_before}
use Rattle.tla_tree.specs.laws.Writable.{IsIdentifier, IsField, fields_in_path, count, IsWritable, AreWritable, IsOfText, AreOfText}

-- ---- words

identifier_field : (x : Word) → IsIdentifier x → IsField x
identifier_field x (n, r) = (n, ap not (or_parts (is_pluscal_word x) (is_tla_word x) (not-true (is_reserved x) r)).1)

field_of : (b : Bool) (x : Word) → IsOfText (field_kind b x) → IsField x
field_of true x h = h
field_of false x h = identifier_field x h

each_of : (P : Word → Type 0) (xs ys : List Word) → Each P xs → Each P ys → Each P (xs ++ ys)
each_of P [] ys h k = k
each_of P (x ∷ xs) ys h k = (h.0, each_of P xs ys h.1 k)

-- ---- shapes

some_trees : (xs : Phrases) → 1 ≤ count (trees_of xs)
some_trees (last a) = omega arith
some_trees (more a p xs) = omega arith

one_longer : (x : Name) (gs : List (List Name)) → HaveNames gs → (HaveNames (in_first x gs)) × (length (in_first x gs) ≡ length gs)
one_longer x [] h = absurd h
one_longer x (g ∷ []) h = (omega arith, refl)
one_longer x (g ∷ k ∷ gs) h = ((omega arith, h.1), refl)

one_before : (x : Name) (gs : List (List Name)) → HaveNames gs → HaveNames ((x ∷ []) ∷ gs)
one_before x [] h = absurd h
one_before x (g ∷ gs) h = (omega arith, h)

have_names : (bs : Binds) → HaveNames (groups bs)
have_names (last_bind p x q a) = omega arith
have_names (bind p x q a r bs) = one_before (record { word = x; place = p }) (groups bs) (have_names bs)
have_names (share p x q bs) = (one_longer (record { word = x; place = p }) (groups bs) (have_names bs)).0

sets_count : (bs : Binds) (ts : Trees) → count (sets_before bs ts) ≡ length (groups bs) + count ts
sets_count (last_bind p x q a) ts = omega arith
sets_count (bind p x q a r bs) ts = (let h = sets_count bs ts in omega (arith, h))
sets_count (share p x q bs) ts =
    let h = sets_count bs ts in
    let l = (one_longer (record { word = x; place = p }) (groups bs) (have_names bs)).1 in
    omega (arith, h, l)

binder_count : (bs : Binds) (t : Tree) → count (sets_before bs (one t)) ≡ suc (length (groups bs))
binder_count bs t = (let h = sets_count bs (one t) in omega (arith, h))

fields_count : (fs : Fields) → (1 ≤ count (field_trees fs)) × (count (field_trees fs) ≡ length (labels fs))
fields_count (last_field f p a) = (omega arith, refl)
fields_count (field f p a q fs) = (let h = fields_count fs in let k = h.1 in (omega arith, omega (arith, k)))

path_count : (path : Path) (ts : Trees) → count (subscripts path ts) ≡ shape.subscripts (steps path) + count ts
path_count path_end ts = omega arith
path_count (index p xs q path) ts = (let h = path_count path ts in omega (arith, h))
path_count (at_field p f path) ts = path_count path ts

settings_count : (at : Place) (ss : Settings) → count (setting_trees ss) ≡ settings (slots at ss)
settings_count at (last_setting p path q a) = (let h = path_count path (one (tree_of a)) in omega (arith, h))
settings_count at (setting p path q a r ss) =
    let h = path_count path (tree.tree (tree_of a) (setting_trees ss)) in
    let k = settings_count at ss in
    omega (arith, h, k)

has_path : (path : Path) → is_some_path path ≡ true → HasPath (steps path)
has_path path_end h = absurd cc
has_path (index p xs q path) h = tt
has_path (at_field p f path) h = tt

have_paths : (e : ℕ) (at : Place) (ss : Settings) → GoodSettings e ss → HavePaths (slots at ss)
have_paths e at (last_setting p path q a) g = has_path path g.1
have_paths e at (setting p path q a r (last_setting p' path' q' a')) g = (has_path path g.1, has_path path' g.6.1)
have_paths e at (setting p path q a r (setting p' path' q' a' r' ss)) g = (has_path path g.1, have_paths e at (setting p' path' q' a' r' ss) g.6)

locals_count : (ls : Locals) (ts : Trees) → (1 ≤ length (local_names ls)) × (count (right_sides_before ls ts) ≡ length (local_names ls) + count ts)
locals_count (last_local p x q a) ts = (omega arith, omega arith)
locals_count (more_locals p x q a ls) ts = (let h = (locals_count ls ts).1 in (omega arith, omega (arith, h)))

two_more : (b : Bool) (n : ℕ) → CaseShaped b n → CaseShaped b (suc (suc n))
two_more false zero h = absurd h
two_more false (suc n) h = h
two_more true zero h = absurd h
two_more true (suc zero) h = absurd h
two_more true (suc (suc n)) h = h

arms_shaped : (xs : Arms) → CaseShaped (has_other xs) (count (arm_trees xs))
arms_shaped (last_arm a p b) = tt
arms_shaped (other_arm a p b q r s c) = tt
arms_shaped (arm a p b q xs) =
    let n = count (arm_trees xs) in
    let e : suc (suc n) ≡ n + 1 + 1 = omega arith in
    subst (λ (k : ℕ). CaseShaped (has_other xs) k) e (two_more (has_other xs) n (arms_shaped xs))

-- ---- nodes of operators

infix_writable : (o : Op) (at : Place) (s t : Tree) → not (is_prefix o) ≡ true → IsWritable s → IsWritable t → IsWritable (node (operation o) at (two s t))
infix_writable op.And at s t n h k = (refl, tt, tt, tt, (h, (k, tt)))
infix_writable op.Or at s t n h k = (refl, tt, tt, tt, (h, (k, tt)))
infix_writable op.Implies at s t n h k = (refl, tt, tt, tt, (h, (k, tt)))
infix_writable op.In at s t n h k = (refl, tt, tt, tt, (h, (k, tt)))
infix_writable op.NotIn at s t n h k = (refl, tt, tt, tt, (h, (k, tt)))
infix_writable op.Negate at s t n h k = absurd cc
infix_writable op.Not at s t n h k = absurd cc
infix_writable op.Subset at s t n h k = absurd cc
infix_writable op.Union at s t n h k = absurd cc
infix_writable op.Domain at s t n h k = absurd cc
infix_writable o at s t n h k = ((refl, refl), tt, tt, tt, (h, (k, tt)))

prefix_writable : (o : Op) (at : Place) (s : Tree) → is_prefix o ≡ true → IsWritable s → IsWritable (node (operation o) at (one s))
prefix_writable op.Negate at s n h = ((refl, refl), tt, tt, tt, (h, tt))
prefix_writable op.Not at s n h = ((refl, refl), tt, tt, tt, (h, tt))
prefix_writable op.Subset at s n h = ((refl, refl), tt, tt, tt, (h, tt))
prefix_writable op.Union at s n h = ((refl, refl), tt, tt, tt, (h, tt))
prefix_writable op.Domain at s n h = ((refl, refl), tt, tt, tt, (h, tt))
prefix_writable o at s n h = absurd cc

constant_writable : (c : Constant) (at : Place) → IsWritable (node (constant_form c) at no_trees)
constant_writable (tk.truth b) at = (refl, tt, tt, tt, tt)
constant_writable tk.booleans at = (refl, tt, tt, tt, tt)
constant_writable tk.strings at = (refl, tt, tt, tt, tt)

bullet_infix : (o : Op) → is_bullet o ≡ true → not (is_prefix o) ≡ true
bullet_infix op.And h = refl
bullet_infix op.Or h = refl
bullet_infix o h = absurd cc

names_first : (x : Name) (gs : List (List Name)) → IsIdentifier x.word → Each IsIdentifier (flat_map words gs) → Each IsIdentifier (flat_map words (in_first x gs))
names_first x [] h k = (h, tt)
names_first x (g ∷ gs) h k = (h, k)

-- ---- phrases

mutual
  of_phrase : (e : ℕ) (a : Phrase) (ts : List Token) → Good e a → AreOfText (spell a ts) → IsWritable (tree_of a) × AreOfText ts
  of_phrase e (number p n) ts g h = (((h.0, refl), tt, tt, tt, tt), h.1)
  of_phrase e (string p x) ts g h = ((refl, tt, tt, (h.0, tt), tt), h.1)
  of_phrase e (constant p c) ts g h = (constant_writable c p, h.1)
  of_phrase e (name p x) ts g h = ((refl, (h.0, tt), tt, tt, tt), h.1)
  of_phrase e (primed p x q) ts g h = ((refl, (h.0, tt), tt, tt, tt), h.1.1)
  of_phrase e (call p x q xs r) ts g h = (let u = of_all e xs _ g.2 h.1.1 in ((some_trees xs, (h.0, tt), tt, tt, u.0), u.1.1))
  of_phrase e (brackets p a q) ts g h = (let u = of_phrase e a _ g.1 h.1 in (u.0, u.1.1))
  of_phrase e (no_set p q) ts g h = ((tt, tt, tt, tt, tt), h.1.1)
  of_phrase e (set_of p xs q) ts g h = (let u = of_all e xs _ g.1 h.1 in ((tt, tt, tt, tt, u.0), u.1.1))
  of_phrase e (filter p q x r s t a v) ts g h =
      let u = of_phrase e s _ g.3 h.1.1.1 in
      let w = of_phrase e a _ g.5 u.1.1 in
      (((tt, refl), (h.1.0, tt), tt, tt, (u.0, (w.0, tt))), w.1.1)
  of_phrase e (image p a q bs r) ts g h =
      let u = of_phrase e a _ g.1 h.1 in
      let w = of_binds e bs _ g.3 u.1.1 in
      (((have_names bs, binder_count bs (tree_of a)), w.0, tt, tt, w.1 (one (tree_of a)) (u.0, tt)), w.2.1)
  of_phrase e (no_tuple p q) ts g h = ((tt, tt, tt, tt, tt), h.1.1)
  of_phrase e (tuple p xs q) ts g h = (let u = of_all e xs _ g.1 h.1 in ((tt, tt, tt, tt, u.0), u.1.1))
  of_phrase e (fields p fs q) ts g h = (let u = of_fields e tk.maps fs _ g.1 h.1 in ((fields_count fs, tt, u.0, tt, u.1), u.2.1))
  of_phrase e (records p fs q) ts g h = (let u = of_fields e tk.colon fs _ g.1 h.1 in ((fields_count fs, tt, u.0, tt, u.1), u.2.1))
  of_phrase e (function p bs q a r) ts g h =
      let w = of_binds e bs _ g.1 h.1 in
      let u = of_phrase e a _ g.3 w.2.1 in
      (((have_names bs, binder_count bs (tree_of a)), w.0, tt, tt, w.1 (one (tree_of a)) (u.0, tt)), u.1.1)
  of_phrase e (functions p a q b r) ts g h =
      let u = of_phrase e a _ g.1 h.1 in
      let w = of_phrase e b _ g.3 u.1.1 in
      ((refl, tt, tt, tt, (u.0, (w.0, tt))), w.1.1)
  of_phrase e (except p a q ss r) ts g h =
      let u = of_phrase e a _ g.1 h.1 in
      let w = of_settings e p ss _ g.3 u.1.1 in
      let n = settings_count p ss in
      (((have_paths e p ss g.3, omega (arith, n)), tt, w.0, tt, (u.0, w.1)), w.2.1)
  of_phrase e (apply a p xs q) ts g h =
      let u = of_phrase e a _ g.0 h in
      let w = of_subscript e xs _ g.3 u.1.1 in
      ((refl, tt, tt, tt, (u.0, (w.0, tt))), w.1.1)
  of_phrase e (select a p f) ts g h = (let u = of_phrase e a _ g.0 h in ((refl, tt, (field_of f.is_reserved f.text u.1.1.0, tt), tt, (u.0, tt)), u.1.1.1))
  of_phrase e (list o bs) ts g h = of_list e o bs ts g h
  of_phrase e (quantified true p bs q a) ts g h =
      let w = of_binds e bs _ g.1 h.1 in
      let u = of_phrase e a _ g.3 w.2.1 in
      (((have_names bs, binder_count bs (tree_of a)), w.0, tt, tt, w.1 (one (tree_of a)) (u.0, tt)), u.1)
  of_phrase e (quantified false p bs q a) ts g h =
      let w = of_binds e bs _ g.1 h.1 in
      let u = of_phrase e a _ g.3 w.2.1 in
      (((have_names bs, binder_count bs (tree_of a)), w.0, tt, tt, w.1 (one (tree_of a)) (u.0, tt)), u.1)
  of_phrase e (if_then_else p a q b r c) ts g h =
      let u = of_phrase e a _ g.1 h.1 in
      let w = of_phrase e b _ g.3 u.1.1 in
      let z = of_phrase e c _ g.5 w.1.1 in
      ((refl, tt, tt, tt, (u.0, (w.0, (z.0, tt)))), z.1)
  of_phrase e (cases p xs) ts g h = (let u = of_arms e xs _ g.1 h.1 in ((arms_shaped xs, tt, tt, tt, u.0), u.1))
  of_phrase e (local p ls q a) ts g h =
      let w = of_locals e ls _ g.1 h.1 in
      let u = of_phrase e a _ g.3 w.2.1 in
      let n = locals_count ls (one (tree_of a)) in
      let m = n.1 in
      (((n.0, omega (arith, m)), w.0, tt, tt, w.1 (one (tree_of a)) (u.0, tt)), u.1)
  of_phrase e (infix_of a p o b) ts g h =
      let u = of_phrase e a _ g.3 h in
      let w = of_phrase e b _ g.5 u.1.1 in
      (infix_writable o (start a) (tree_of a) (tree_of b) g.0 u.0 w.0, w.1)
  of_phrase e (prefix_of p o a) ts g h = (let u = of_phrase e a _ g.3 h.1 in (prefix_writable o p (tree_of a) g.0 u.0, u.1))

  of_all : (e : ℕ) (xs : Phrases) (ts : List Token) → GoodAll e xs → AreOfText (spell_all xs ts) → AreWritable (trees_of xs) × AreOfText ts
  of_all e (last a) ts g h = (let u = of_phrase e a _ g h in ((u.0, tt), u.1))
  of_all e (more a p xs) ts g h =
      let u = of_phrase e a _ g.0 h in
      let w = of_all e xs _ g.2 u.1.1 in
      ((u.0, w.0), w.1)

  of_subscript : (e : ℕ) (xs : Phrases) (ts : List Token) → GoodAll e xs → AreOfText (spell_all xs ts) → IsWritable (subscript xs) × AreOfText ts
  of_subscript e (last a) ts g h = of_phrase e a _ g h
  of_subscript e (more a p xs) ts g h =
      let u = of_phrase e a _ g.0 h in
      let w = of_all e xs _ g.2 u.1.1 in
      ((tt, tt, tt, tt, (u.0, w.0)), w.1)

  of_binds : (e : ℕ) (bs : Binds) (ts : List Token) → GoodBinds e bs → AreOfText (spell_binds bs ts) → Each IsIdentifier (flat_map words (groups bs)) × ((us : Trees) → AreWritable us → AreWritable (sets_before bs us)) × AreOfText ts
  of_binds e (last_bind p x q a) ts g h = (let u = of_phrase e a _ g.2 h.1.1 in ((h.0, tt), (λ us k. (u.0, k)), u.1))
  of_binds e (bind p x q a r bs) ts g h =
      let u = of_phrase e a _ g.2 h.1.1 in
      let w = of_binds e bs _ g.4 u.1.1 in
      ((h.0, w.0), (λ us k. (u.0, w.1 us k)), w.2)
  of_binds e (share p x q bs) ts g h =
      let w = of_binds e bs _ g.2 h.1.1 in
      (names_first (record { word = x; place = p }) (groups bs) h.0 w.0, w.1, w.2)

  of_fields : (e : ℕ) (m : tk.Mark) (fs : Fields) (ts : List Token) → GoodFields e fs → AreOfText (spell_fields m fs ts) → Each IsField (labels fs) × AreWritable (field_trees fs) × AreOfText ts
  of_fields e m (last_field f p a) ts g h = (let u = of_phrase e a _ g.2 h.1.1 in ((field_of f.is_reserved f.text h.0, tt), (u.0, tt), u.1))
  of_fields e m (field f p a q fs) ts g h =
      let u = of_phrase e a _ g.2 h.1.1 in
      let w = of_fields e m fs _ g.4 u.1.1 in
      ((field_of f.is_reserved f.text h.0, w.0), (u.0, w.1), w.2)

  of_path : (e : ℕ) (path : Path) (ts : List Token) → GoodPath e path → AreOfText (spell_path path ts) → Each IsField (fields_in_path (steps path)) × ((us : Trees) → AreWritable us → AreWritable (subscripts path us)) × AreOfText ts
  of_path e path_end ts g h = (tt, (λ us k. k), h)
  of_path e (index p xs q path) ts g h =
      let u = of_subscript e xs _ g.1 h.1 in
      let w = of_path e path _ g.3 u.1.1 in
      (w.0, (λ us k. (u.0, w.1 us k)), w.2)
  of_path e (at_field p f path) ts g h =
      let w = of_path e path _ g.2 h.1.1 in
      ((field_of f.is_reserved f.text h.1.0, w.0), w.1, w.2)

  of_settings : (e : ℕ) (at : Place) (ss : Settings) (ts : List Token) → GoodSettings e ss → AreOfText (spell_settings ss ts) → Each IsField (flat_map (λ (s : Slot). fields_in_path s.path) (slots at ss)) × AreWritable (setting_trees ss) × AreOfText ts
  of_settings e at (last_setting p path q a) ts g h =
      let w = of_path e path _ g.2 h.1 in
      let u = of_phrase e a _ g.4 w.2.1 in
      (each_of IsField (fields_in_path (steps path)) [] w.0 tt, w.1 (one (tree_of a)) (u.0, tt), u.1)
  of_settings e at (setting p path q a r ss) ts g h =
      let w = of_path e path _ g.2 h.1 in
      let u = of_phrase e a _ g.4 w.2.1 in
      let z = of_settings e at ss _ g.6 u.1.1 in
      (each_of IsField (fields_in_path (steps path)) (flat_map (λ (s : Slot). fields_in_path s.path) (slots at ss)) w.0 z.0, w.1 (tree.tree (tree_of a) (setting_trees ss)) (u.0, z.1), z.2)

  of_list : (e : ℕ) (o : Op) (bs : Bullets) (ts : List Token) → Good e (list o bs) → AreOfText (spell_bullets o bs ts) → IsWritable (joined o bs) × AreOfText ts
  of_list e o (last_bullet p a) ts g h = of_phrase p.col a _ g.2.1 h.1
  of_list e o (bullet p a bs) ts g h =
      let u = of_phrase p.col a _ g.2.1 h.1 in
      of_bullets p.col o (bullet_infix o g.0) p (tree_of a) bs ts g.2.2 u.0 u.1

  of_bullets : (c : ℕ) (o : Op) → not (is_prefix o) ≡ true → (at : Place) (t : Tree) (bs : Bullets) (ts : List Token) → GoodBullets c bs → IsWritable t → AreOfText (spell_bullets o bs ts) → IsWritable (joined_to o at t bs) × AreOfText ts
  of_bullets c o n at t (last_bullet p a) ts g k h = (let u = of_phrase c a _ g.1 h.1 in (infix_writable o at t (tree_of a) n k u.0, u.1))
  of_bullets c o n at t (bullet p a bs) ts g k h =
      let u = of_phrase c a _ g.1 h.1 in
      of_bullets c o n at (node (operation o) at (two t (tree_of a))) bs ts g.2 (infix_writable o at t (tree_of a) n k u.0) u.1

  of_arms : (e : ℕ) (xs : Arms) (ts : List Token) → GoodArms e xs → AreOfText (spell_arms xs ts) → AreWritable (arm_trees xs) × AreOfText ts
  of_arms e (last_arm a p b) ts g h =
      let u = of_phrase e a _ g.0 h in
      let w = of_phrase e b _ g.2 u.1.1 in
      ((u.0, (w.0, tt)), w.1)
  of_arms e (other_arm a p b q r s c) ts g h =
      let u = of_phrase e a _ g.0 h in
      let w = of_phrase e b _ g.2 u.1.1 in
      let z = of_phrase e c _ g.7 w.1.1.1.1 in
      ((u.0, (w.0, (z.0, tt))), z.1)
  of_arms e (arm a p b q xs) ts g h =
      let u = of_phrase e a _ g.0 h in
      let w = of_phrase e b _ g.2 u.1.1 in
      let z = of_arms e xs _ g.5 w.1.1 in
      ((u.0, (w.0, z.0)), z.1)

  of_locals : (e : ℕ) (ls : Locals) (ts : List Token) → GoodLocals e ls → AreOfText (spell_locals ls ts) → Each IsIdentifier (words (local_names ls)) × ((us : Trees) → AreWritable us → AreWritable (right_sides_before ls us)) × AreOfText ts
  of_locals e (last_local p x q a) ts g h = (let u = of_phrase e a _ g.2 h.1.1 in ((h.0, tt), (λ us k. (u.0, k)), u.1))
  of_locals e (more_locals p x q a ls) ts g h =
      let u = of_phrase e a _ g.2 h.1.1 in
      let w = of_locals e ls _ g.3 u.1 in
      ((h.0, w.0), (λ us k. (u.0, w.1 us k)), w.2)

pub spelled_writable : (e : ℕ) (a : Phrase) → Good e a → AreOfText (spell a []) → IsWritable (tree_of a)
spelled_writable e a g h = (of_phrase e a [] g h).0

-- ---- grafts

grafted_count : (g : Graft) (ts : Trees) → count (grafts g ts) ≡ count ts
grafted_count g no_trees = refl
grafted_count g (tree.tree t ts) = ap (λ (n : ℕ). n + 1) (grafted_count g ts)

put_writable : (o : Option Tree) (x : Word) (at : Place) (ts : Trees) → ((u : Tree) → o ≡ Some u → IsWritable u) → IsWritable (node (tree.name x) at ts) → IsWritable (grafted_name o (tree.name x) at ts)
put_writable (Some u) x at ts k h = k u refl
put_writable None x at ts k h = h

node_writable : (g : Graft) (m : tree.Form) (at : Place) (ts : Trees) → ((x : Word) (u : Tree) → g x at ≡ Some u → IsWritable u) → IsWritable (node m at ts) → IsWritable (grafted_node g m at ts)
node_writable g (tree.name x) at ts k h = put_writable (g x at) x at ts (k x) h
node_writable g m at ts k h = h

mutual
  pub grafted_writable : (g : Graft) → ((x : Word) (at : Place) (u : Tree) → g x at ≡ Some u → IsWritable u) → (t : Tree) → IsWritable t → IsWritable (graft g t)
  grafted_writable g k (node m at ts) h =
      node_writable g m at (grafts g ts) (λ x. k x at) (subst (λ (n : ℕ). Shaped m n) (sym (grafted_count g ts)) h.0, h.1, h.2, h.3, grafts_writable g k ts h.4)

  grafts_writable : (g : Graft) → ((x : Word) (at : Place) (u : Tree) → g x at ≡ Some u → IsWritable u) → (ts : Trees) → AreWritable ts → AreWritable (grafts g ts)
  grafts_writable g k no_trees h = tt
  grafts_writable g k (tree.tree t ts) h = (grafted_writable g k t h.0, grafts_writable g k ts h.1)
