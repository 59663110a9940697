-- What an expression binds is no more than its tokens.
use Rattle.std.proofs.Common.{◌≡◌, ℕ, suc, ◌+◌, ◌≤◌, List, [], ◌∷◌, ◌++◌, true, false, length, refl, ap, ◌∙◌, arith}
use Rattle.std.proofs.lemmas.List.{append-nil}
use Rattle.tla_token.specs.declared.place.Place.{Place}
use Rattle.tla_tree.specs.declared.op.Op.{Op}
use Rattle.tla_tree.specs.declared.op.Op.TheVariants as op
use Rattle.tla_tree.specs.Tree.{Name, Form, Tree, Trees, node, no_trees, tree}
use Rattle.tla_tree.specs.Lexical.{Token, Mark, truth, booleans, strings}
use Rattle.tla_tree.specs.Lexical as tk
use Rattle.tla_tree.specs.Spelling.{Phrase, number, string, constant, name, primed, call, brackets, no_set, set_of, filter, image, no_tuple, tuple, fields, records, function, functions, except, apply, select, list, quantified, if_then_else, cases, local, infix_of, prefix_of, Phrases, last, more, Binds, last_bind, bind, share, Fields, last_field, field, Settings, last_setting, setting, Path, path_end, index, at_field, Bullets, last_bullet, bullet, Arms, last_arm, other_arm, arm, Locals, last_local, more_locals, mark, key, sign, field_token, spell, spell_all, spell_binds, spell_fields, spell_settings, spell_path, spell_bullets, spell_arms, spell_locals, operation, named, in_first, groups, local_names, tree_of, trees_of, subscript, sets_before, field_trees, setting_trees, subscripts, joined, joined_to, arm_trees, right_sides_before}
use Rattle.pcal_tree.specs.BoundNames.{Lists, all_of, lists_of}

-- ---- how many names are bound in an expression

abbrev pub count_in_form : Form → ℕ
count_in_form m = length (all_of (lists_of m))

abbrev mutual
  pub count_in : Tree → ℕ
  count_in (node m at ts) = count_in_form m + count_in_all ts

  pub count_in_all : Trees → ℕ
  count_in_all no_trees = 0
  count_in_all (tree t ts) = count_in t + count_in_all ts

-- ---- the names of a form

abbrev names_count : Binds → ℕ
names_count (last_bind p x q a) = 1
names_count (bind p x q a r bs) = suc (names_count bs)
names_count (share p x q bs) = suc (names_count bs)

one_more : (x : Name) (gs : Lists) → length (all_of (in_first x gs)) ≡ suc (length (all_of gs))
one_more x [] = refl
one_more x (g ∷ gs) = refl

groups_count : (bs : Binds) → length (all_of (groups bs)) ≡ names_count bs
groups_count (last_bind p x q a) = refl
groups_count (bind p x q a r bs) = ap suc (groups_count bs)
groups_count (share p x q bs) = one_more (named p x) (groups bs) ∙ ap suc (groups_count bs)

nothing_after : (xs : List Name) → length (xs ++ []) ≡ length xs
nothing_after xs = ap (λ (ys : List Name). length ys) (append-nil xs)

binder_count : (bs : Binds) → length (all_of (groups bs) ++ []) ≡ names_count bs
binder_count bs = nothing_after (all_of (groups bs)) ∙ groups_count bs

none_bound : (o : Op) → count_in_form (operation o) ≡ 0
none_bound op.And = refl
none_bound op.Or = refl
none_bound op.Implies = refl
none_bound op.In = refl
none_bound op.NotIn = refl
none_bound o = refl

-- ---- expressions

mutual
  pub in_phrase : (a : Phrase) (ts : List Token) → count_in (tree_of a) + length ts ≤ length (spell a ts)
  in_phrase (number p n) ts = omega arith
  in_phrase (string p x) ts = omega arith
  in_phrase (constant p (truth b)) ts = omega arith
  in_phrase (constant p booleans) ts = omega arith
  in_phrase (constant p strings) ts = omega arith
  in_phrase (name p x) ts = omega arith
  in_phrase (primed p x q) ts = omega arith
  in_phrase (call p x q xs r) ts = (let u = in_all xs (mark r tk.close_bracket ts) in omega arith)
  in_phrase (brackets p a q) ts = (let u = in_phrase a (mark q tk.close_bracket ts) in omega arith)
  in_phrase (no_set p q) ts = omega arith
  in_phrase (set_of p xs q) ts = (let u = in_all xs (mark q tk.close_brace ts) in omega arith)
  in_phrase (filter p q x r s t a v) ts =
      let u = in_phrase a (mark v tk.close_brace ts) in
      let w = in_phrase s (mark t tk.colon (spell a (mark v tk.close_brace ts))) in
      omega arith
  in_phrase (image p a q bs r) ts =
      let n = binder_count bs in
      let w = in_binds bs (tree (tree_of a) no_trees) (mark r tk.close_brace ts) in
      let u = in_phrase a (mark q tk.colon (spell_binds bs (mark r tk.close_brace ts))) in
      omega arith
  in_phrase (no_tuple p q) ts = omega arith
  in_phrase (tuple p xs q) ts = (let u = in_all xs (mark q tk.close_tuple ts) in omega arith)
  in_phrase (fields p fs q) ts = (let u = in_fields tk.maps fs (mark q tk.close_square ts) in omega arith)
  in_phrase (records p fs q) ts = (let u = in_fields tk.colon fs (mark q tk.close_square ts) in omega arith)
  in_phrase (function p bs q a r) ts =
      let n = binder_count bs in
      let u = in_phrase a (mark r tk.close_square ts) in
      let w = in_binds bs (tree (tree_of a) no_trees) (mark q tk.maps (spell a (mark r tk.close_square ts))) in
      omega arith
  in_phrase (functions p a q b r) ts =
      let u = in_phrase b (mark r tk.close_square ts) in
      let w = in_phrase a (mark q tk.arrow (spell b (mark r tk.close_square ts))) in
      omega arith
  in_phrase (except p a q ss r) ts =
      let u = in_settings ss (mark r tk.close_square ts) in
      let w = in_phrase a (key q tk.except_key (spell_settings ss (mark r tk.close_square ts))) in
      omega arith
  in_phrase (apply a p xs q) ts =
      let u = in_subscript xs (mark q tk.close_square ts) in
      let w = in_phrase a (mark p tk.open_square (spell_all xs (mark q tk.close_square ts))) in
      omega arith
  in_phrase (select a p f) ts = (let u = in_phrase a (mark p tk.dot (field_token f ts)) in omega arith)
  in_phrase (list o bs) ts = in_list o bs ts
  in_phrase (quantified true p bs q a) ts =
      let n = binder_count bs in
      let u = in_phrase a ts in
      let w = in_binds bs (tree (tree_of a) no_trees) (mark q tk.colon (spell a ts)) in
      omega arith
  in_phrase (quantified false p bs q a) ts =
      let n = binder_count bs in
      let u = in_phrase a ts in
      let w = in_binds bs (tree (tree_of a) no_trees) (mark q tk.colon (spell a ts)) in
      omega arith
  in_phrase (if_then_else p a q b r c) ts =
      let u = in_phrase c ts in
      let w = in_phrase b (key r tk.else_key (spell c ts)) in
      let z = in_phrase a (key q tk.then_key (spell b (key r tk.else_key (spell c ts)))) in
      omega arith
  in_phrase (cases p xs) ts = (let u = in_arms xs ts in omega arith)
  in_phrase (local p ls q a) ts =
      let n = nothing_after (local_names ls) in
      let u = in_phrase a ts in
      let w = in_locals ls (tree (tree_of a) no_trees) (key q tk.in_key (spell a ts)) in
      omega arith
  in_phrase (infix_of a p o b) ts =
      let n = none_bound o in
      let u = in_phrase b ts in
      let w = in_phrase a (sign p o (spell b ts)) in
      omega arith
  in_phrase (prefix_of p o a) ts =
      let n = none_bound o in
      let u = in_phrase a ts in
      omega arith

  pub in_all : (xs : Phrases) (ts : List Token) → count_in_all (trees_of xs) + length ts ≤ length (spell_all xs ts)
  in_all (last a) ts = (let u = in_phrase a ts in omega arith)
  in_all (more a p xs) ts =
      let u = in_all xs ts in
      let w = in_phrase a (mark p tk.comma (spell_all xs ts)) in
      omega arith

  in_subscript : (xs : Phrases) (ts : List Token) → count_in (subscript xs) + length ts ≤ length (spell_all xs ts)
  in_subscript (last a) ts = in_phrase a ts
  in_subscript (more a p xs) ts =
      let u = in_all xs ts in
      let w = in_phrase a (mark p tk.comma (spell_all xs ts)) in
      omega arith

  in_binds : (bs : Binds) (us : Trees) (ts : List Token) → names_count bs + count_in_all (sets_before bs us) + length ts ≤ count_in_all us + length (spell_binds bs ts)
  in_binds (last_bind p x q a) us ts = (let u = in_phrase a ts in omega arith)
  in_binds (bind p x q a r bs) us ts =
      let u = in_binds bs us ts in
      let w = in_phrase a (mark r tk.comma (spell_binds bs ts)) in
      omega arith
  in_binds (share p x q bs) us ts = (let u = in_binds bs us ts in omega arith)

  in_fields : (m : Mark) (fs : Fields) (ts : List Token) → count_in_all (field_trees fs) + length ts ≤ length (spell_fields m fs ts)
  in_fields m (last_field f p a) ts = (let u = in_phrase a ts in omega arith)
  in_fields m (field f p a q fs) ts =
      let u = in_fields m fs ts in
      let w = in_phrase a (mark q tk.comma (spell_fields m fs ts)) in
      omega arith

  in_path : (path : Path) (us : Trees) (ts : List Token) → count_in_all (subscripts path us) + length ts ≤ count_in_all us + length (spell_path path ts)
  in_path path_end us ts = omega arith
  in_path (index p xs q path) us ts =
      let u = in_path path us ts in
      let w = in_subscript xs (mark q tk.close_square (spell_path path ts)) in
      omega arith
  in_path (at_field p f path) us ts = (let u = in_path path us ts in omega arith)

  in_settings : (ss : Settings) (ts : List Token) → count_in_all (setting_trees ss) + length ts ≤ length (spell_settings ss ts)
  in_settings (last_setting p path q a) ts =
      let u = in_phrase a ts in
      let w = in_path path (tree (tree_of a) no_trees) (sign q op.Equal (spell a ts)) in
      omega arith
  in_settings (setting p path q a r ss) ts =
      let z = in_settings ss ts in
      let u = in_phrase a (mark r tk.comma (spell_settings ss ts)) in
      let w = in_path path (tree (tree_of a) (setting_trees ss)) (sign q op.Equal (spell a (mark r tk.comma (spell_settings ss ts)))) in
      omega arith

  in_list : (o : Op) (bs : Bullets) (ts : List Token) → count_in (joined o bs) + length ts ≤ length (spell_bullets o bs ts)
  in_list o (last_bullet p a) ts = (let u = in_phrase a ts in omega arith)
  in_list o (bullet p a bs) ts =
      let u = in_bullets o p (tree_of a) bs ts in
      let w = in_phrase a (spell_bullets o bs ts) in
      omega arith

  in_bullets : (o : Op) (at : Place) (t : Tree) (bs : Bullets) (ts : List Token) → count_in (joined_to o at t bs) + length ts ≤ count_in t + length (spell_bullets o bs ts)
  in_bullets o at t (last_bullet p a) ts =
      let n = none_bound o in
      let u = in_phrase a ts in
      omega arith
  in_bullets o at t (bullet p a bs) ts =
      let n = none_bound o in
      let u = in_bullets o at (node (operation o) at (tree t (tree (tree_of a) no_trees))) bs ts in
      let w = in_phrase a (spell_bullets o bs ts) in
      omega arith

  in_arms : (xs : Arms) (ts : List Token) → count_in_all (arm_trees xs) + length ts ≤ length (spell_arms xs ts)
  in_arms (last_arm a p b) ts =
      let u = in_phrase b ts in
      let w = in_phrase a (mark p tk.arrow (spell b ts)) in
      omega arith
  in_arms (other_arm a p b q r s c) ts =
      let u = in_phrase c ts in
      let w = in_phrase b (mark q tk.box (key r tk.other_key (mark s tk.arrow (spell c ts)))) in
      let z = in_phrase a (mark p tk.arrow (spell b (mark q tk.box (key r tk.other_key (mark s tk.arrow (spell c ts)))))) in
      omega arith
  in_arms (arm a p b q xs) ts =
      let u = in_arms xs ts in
      let w = in_phrase b (mark q tk.box (spell_arms xs ts)) in
      let z = in_phrase a (mark p tk.arrow (spell b (mark q tk.box (spell_arms xs ts)))) in
      omega arith

  in_locals : (ls : Locals) (us : Trees) (ts : List Token) → length (local_names ls) + count_in_all (right_sides_before ls us) + length ts ≤ count_in_all us + length (spell_locals ls ts)
  in_locals (last_local p x q a) us ts = (let u = in_phrase a ts in omega arith)
  in_locals (more_locals p x q a ls) us ts =
      let u = in_locals ls us ts in
      let w = in_phrase a (spell_locals ls ts) in
      omega arith
