-- The tokens of a phrase before others are its tokens, and then the others.
use Rattle.std.proofs.Common.{◌≡◌, List, [], ◌++◌, refl, ap, ◌∙◌}
use Rattle.tla_tree.specs.declared.op.Op.{Op}
use Rattle.tla_tree.specs.declared.op.Op.TheVariants as op
use Rattle.tla_tree.specs.Lexical.{Mark, Token}
use Rattle.tla_tree.specs.Lexical as tk
use Rattle.tla_tree.specs.Spelling.{Phrase, number, string, constant, name, primed, call, brackets, no_set, set_of, filter, image, no_tuple, tuple, fields, records, function, functions, except, apply, select, list, quantified, if_then_else, cases, local, infix_of, prefix_of}
use Rattle.tla_tree.specs.Spelling.{Phrases, last, more, Binds, last_bind, bind, share, Fields, last_field, field, Settings, last_setting, setting, Path, path_end, index, at_field, Bullets, last_bullet, bullet, Arms, last_arm, other_arm, arm, Locals, last_local, more_locals}
use Rattle.tla_tree.specs.Spelling.{mark, key, sign, word, field_token, quantifier, spell, spell_all, spell_binds, spell_fields, spell_settings, spell_path, spell_bullets, spell_arms, spell_locals}

abbrev Ts : Type 0
Ts = List Token

mutual
  -- before r and s is before r, and then s
  pub spell_more : (x : Phrase) (r s : List Token) → spell x (r ++ s) ≡ spell x r ++ s
  spell_more (number p n) r s = refl
  spell_more (string p x) r s = refl
  spell_more (constant p c) r s = refl
  spell_more (name p x) r s = refl
  spell_more (primed p x q) r s = refl
  spell_more (call p x q xs t) r s = λ i. word p x (mark q tk.open_bracket (all_more xs (mark t tk.close_bracket r) s i))
  spell_more (brackets p a q) r s = λ i. mark p tk.open_bracket (spell_more a (mark q tk.close_bracket r) s i)
  spell_more (no_set p q) r s = refl
  spell_more (set_of p xs q) r s = λ i. mark p tk.open_brace (all_more xs (mark q tk.close_brace r) s i)
  spell_more (filter p q x t c u a v) r s =
      let b = mark u tk.colon (spell a (mark v tk.close_brace r)) in
      ap (λ (ts : Ts). mark p tk.open_brace (word q x (sign t op.In ts))) (ap (λ (ts : Ts). spell c (mark u tk.colon ts)) (spell_more a (mark v tk.close_brace r) s) ∙ spell_more c b s)
  spell_more (image p a q bs t) r s =
      let b = mark q tk.colon (spell_binds bs (mark t tk.close_brace r)) in
      ap (λ (ts : Ts). mark p tk.open_brace ts) (ap (λ (ts : Ts). spell a (mark q tk.colon ts)) (binds_more bs (mark t tk.close_brace r) s) ∙ spell_more a b s)
  spell_more (no_tuple p q) r s = refl
  spell_more (tuple p xs q) r s = λ i. mark p tk.open_tuple (all_more xs (mark q tk.close_tuple r) s i)
  spell_more (fields p fs q) r s = λ i. mark p tk.open_square (fields_more fs tk.maps (mark q tk.close_square r) s i)
  spell_more (records p fs q) r s = λ i. mark p tk.open_square (fields_more fs tk.colon (mark q tk.close_square r) s i)
  spell_more (function p bs q a t) r s =
      let b = mark q tk.maps (spell a (mark t tk.close_square r)) in
      ap (λ (ts : Ts). mark p tk.open_square ts) (ap (λ (ts : Ts). spell_binds bs (mark q tk.maps ts)) (spell_more a (mark t tk.close_square r) s) ∙ binds_more bs b s)
  spell_more (functions p a q c t) r s =
      let b = mark q tk.arrow (spell c (mark t tk.close_square r)) in
      ap (λ (ts : Ts). mark p tk.open_square ts) (ap (λ (ts : Ts). spell a (mark q tk.arrow ts)) (spell_more c (mark t tk.close_square r) s) ∙ spell_more a b s)
  spell_more (except p a q ss t) r s =
      let b = key q tk.except_key (spell_settings ss (mark t tk.close_square r)) in
      ap (λ (ts : Ts). mark p tk.open_square ts) (ap (λ (ts : Ts). spell a (key q tk.except_key ts)) (settings_more ss (mark t tk.close_square r) s) ∙ spell_more a b s)
  spell_more (apply a p xs q) r s = ap (λ (ts : Ts). spell a (mark p tk.open_square ts)) (all_more xs (mark q tk.close_square r) s) ∙ spell_more a (mark p tk.open_square (spell_all xs (mark q tk.close_square r))) s
  spell_more (select a p f) r s = spell_more a (mark p tk.dot (field_token f r)) s
  spell_more (list o bs) r s = bullets_more bs o r s
  spell_more (quantified b p bs q a) r s = ap (λ (ts : Ts). key p (quantifier b) ts) (ap (λ (ts : Ts). spell_binds bs (mark q tk.colon ts)) (spell_more a r s) ∙ binds_more bs (mark q tk.colon (spell a r)) s)
  spell_more (if_then_else p a q b t c) r s =
      let d = key q tk.then_key (spell b (key t tk.else_key (spell c r))) in
      ap (λ (ts : Ts). key p tk.if_key ts) (ap (λ (ts : Ts). spell a (key q tk.then_key ts)) (ap (λ (ts : Ts). spell b (key t tk.else_key ts)) (spell_more c r s) ∙ spell_more b (key t tk.else_key (spell c r)) s) ∙ spell_more a d s)
  spell_more (cases p xs) r s = ap (λ (ts : Ts). key p tk.case_key ts) (arms_more xs r s)
  spell_more (local p ls q a) r s = ap (λ (ts : Ts). key p tk.let_key ts) (ap (λ (ts : Ts). spell_locals ls (key q tk.in_key ts)) (spell_more a r s) ∙ locals_more ls (key q tk.in_key (spell a r)) s)
  spell_more (infix_of a p o b) r s = ap (λ (ts : Ts). spell a (sign p o ts)) (spell_more b r s) ∙ spell_more a (sign p o (spell b r)) s
  spell_more (prefix_of p o a) r s = ap (λ (ts : Ts). sign p o ts) (spell_more a r s)

  pub all_more : (x : Phrases) (r s : List Token) → spell_all x (r ++ s) ≡ spell_all x r ++ s
  all_more (last a) r s = spell_more a r s
  all_more (more a p xs) r s = ap (λ (ts : Ts). spell a (mark p tk.comma ts)) (all_more xs r s) ∙ spell_more a (mark p tk.comma (spell_all xs r)) s

  pub binds_more : (x : Binds) (r s : List Token) → spell_binds x (r ++ s) ≡ spell_binds x r ++ s
  binds_more (last_bind p x q a) r s = ap (λ (ts : Ts). word p x (sign q op.In ts)) (spell_more a r s)
  binds_more (bind p x q a t bs) r s = ap (λ (ts : Ts). word p x (sign q op.In ts)) (ap (λ (ts : Ts). spell a (mark t tk.comma ts)) (binds_more bs r s) ∙ spell_more a (mark t tk.comma (spell_binds bs r)) s)
  binds_more (share p x q bs) r s = ap (λ (ts : Ts). word p x (mark q tk.comma ts)) (binds_more bs r s)

  fields_more : (x : Fields) (m : Mark) (r s : List Token) → spell_fields m x (r ++ s) ≡ spell_fields m x r ++ s
  fields_more (last_field f p a) m r s = ap (λ (ts : Ts). field_token f (mark p m ts)) (spell_more a r s)
  fields_more (field f p a q fs) m r s = ap (λ (ts : Ts). field_token f (mark p m ts)) (ap (λ (ts : Ts). spell a (mark q tk.comma ts)) (fields_more fs m r s) ∙ spell_more a (mark q tk.comma (spell_fields m fs r)) s)

  settings_more : (x : Settings) (r s : List Token) → spell_settings x (r ++ s) ≡ spell_settings x r ++ s
  settings_more (last_setting p path q a) r s = ap (λ (ts : Ts). mark p tk.bang ts) (ap (λ (ts : Ts). spell_path path (sign q op.Equal ts)) (spell_more a r s) ∙ path_more path (sign q op.Equal (spell a r)) s)
  settings_more (setting p path q a t ss) r s =
      let b = sign q op.Equal (spell a (mark t tk.comma (spell_settings ss r))) in
      ap (λ (ts : Ts). mark p tk.bang ts) (ap (λ (ts : Ts). spell_path path (sign q op.Equal ts)) (ap (λ (ts : Ts). spell a (mark t tk.comma ts)) (settings_more ss r s) ∙ spell_more a (mark t tk.comma (spell_settings ss r)) s) ∙ path_more path b s)

  path_more : (x : Path) (r s : List Token) → spell_path x (r ++ s) ≡ spell_path x r ++ s
  path_more path_end r s = refl
  path_more (index p xs q path) r s =
      let b = mark q tk.close_square (spell_path path r) in
      ap (λ (ts : Ts). mark p tk.open_square ts) (ap (λ (ts : Ts). spell_all xs (mark q tk.close_square ts)) (path_more path r s) ∙ all_more xs b s)
  path_more (at_field p f path) r s = ap (λ (ts : Ts). mark p tk.dot (field_token f ts)) (path_more path r s)

  bullets_more : (x : Bullets) (o : Op) (r s : List Token) → spell_bullets o x (r ++ s) ≡ spell_bullets o x r ++ s
  bullets_more (last_bullet p a) o r s = ap (λ (ts : Ts). sign p o ts) (spell_more a r s)
  bullets_more (bullet p a bs) o r s = ap (λ (ts : Ts). sign p o ts) (ap (λ (ts : Ts). spell a ts) (bullets_more bs o r s) ∙ spell_more a (spell_bullets o bs r) s)

  arms_more : (x : Arms) (r s : List Token) → spell_arms x (r ++ s) ≡ spell_arms x r ++ s
  arms_more (last_arm a p b) r s = ap (λ (ts : Ts). spell a (mark p tk.arrow ts)) (spell_more b r s) ∙ spell_more a (mark p tk.arrow (spell b r)) s
  arms_more (other_arm a p b q t u c) r s =
      let d = mark q tk.box (key t tk.other_key (mark u tk.arrow (spell c r))) in
      ap (λ (ts : Ts). spell a (mark p tk.arrow ts)) (ap (λ (ts : Ts). spell b (mark q tk.box (key t tk.other_key (mark u tk.arrow ts)))) (spell_more c r s) ∙ spell_more b d s) ∙ spell_more a (mark p tk.arrow (spell b d)) s
  arms_more (arm a p b q xs) r s =
      let d = mark q tk.box (spell_arms xs r) in
      ap (λ (ts : Ts). spell a (mark p tk.arrow ts)) (ap (λ (ts : Ts). spell b (mark q tk.box ts)) (arms_more xs r s) ∙ spell_more b d s) ∙ spell_more a (mark p tk.arrow (spell b d)) s

  locals_more : (x : Locals) (r s : List Token) → spell_locals x (r ++ s) ≡ spell_locals x r ++ s
  locals_more (last_local p x q a) r s = ap (λ (ts : Ts). word p x (mark q tk.defines ts)) (spell_more a r s)
  locals_more (more_locals p x q a ls) r s = ap (λ (ts : Ts). word p x (mark q tk.defines ts)) (ap (λ (ts : Ts). spell a ts) (locals_more ls r s) ∙ spell_more a (spell_locals ls r) s)

-- its tokens, and then the others
pub spell_then : (a : Phrase) (r : List Token) → spell a r ≡ spell a [] ++ r
spell_then a r = spell_more a [] r
