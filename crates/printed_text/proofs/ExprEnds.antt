-- What ends an algorithm in a file is in none of its expressions: they close each brace that they open, and `algorithm` stands nowhere behind `end`.
use Rattle.std.proofs.Common.{◌≡◌, ℕ, zero, suc, Bool, true, false, ◌&&◌, List, [], ◌∷◌, Option, Some, None, refl, ap, ◌∙◌, codes}
use Rattle.std.specs.Prelude.{if◌then◌else◌}
use Rattle.std.specs.Str.{bytes_eq}
use Rattle.tla_token.specs.declared.place.Place.{Place}
use Rattle.tla_tree.specs.declared.op.Op.{Op}
use Rattle.tla_tree.specs.declared.op.Op.TheVariants as op
use Rattle.tla_tree.specs.Lexical.{Mark, TokenView, Token, token, sign_of, field_kind}
use Rattle.tla_tree.specs.Lexical as tk
use Rattle.tla_tree.specs.Spelling.{Field, Phrase, Phrases, Binds, Fields, Settings, Path, Bullets, Arms, Locals, number, string, constant, name, primed, call, brackets, no_set, set_of, filter, image, no_tuple, tuple, fields, records, function, functions, except, apply, select, list, quantified, if_then_else, cases, local, infix_of, prefix_of, last, more, last_bind, bind, share, last_field, field, last_setting, setting, path_end, index, at_field, last_bullet, bullet, last_arm, other_arm, arm, last_local, more_locals, mark, key, sign, field_token, spell, spell_all, spell_binds, spell_fields, spell_settings, spell_path, spell_bullets, spell_arms, spell_locals}

-- ---- the tokens after the end

-- where so many braces are open in the first one
abbrev closed_c : ℕ → List Token → (ℕ → Option (List Token)) → Option (List Token)
closed_c zero ts go = Some ts
closed_c (suc d) ts go = go d

abbrev at_c : ℕ → TokenView → List Token → (ℕ → Option (List Token)) → Option (List Token)
at_c d (tk.mark tk.open_brace) ts go = go (suc d)
at_c d (tk.mark tk.close_brace) ts go = closed_c d ts go
at_c d k ts go = go d

-- after the brace that closes the first one
abbrev pub behind_c : ℕ → List Token → Option (List Token)
behind_c d [] = None
behind_c d (t ∷ ts) = at_c d t.kind ts (λ n. behind_c n ts)

abbrev at_p : Bool → TokenView → List Token → (Bool → Option (List Token)) → Option (List Token)
at_p e (tk.reserved w) ts go = if bytes_eq w (codes "algorithm") && e then Some ts else go (bytes_eq w (codes "end"))
at_p e k ts go = go false

-- after the first `end algorithm`, where the last token may be `end`
abbrev pub behind_p : Bool → List Token → Option (List Token)
behind_p e [] = None
behind_p e (t ∷ ts) = at_p e t.kind ts (λ b. behind_p b ts)

-- the first of these tokens are passed over
abbrev pub Words : Bool → List Token → List Token → Type 0
Words e us ts = (g : Bool) × (behind_p e us ≡ behind_p g ts)

-- ---- signs and fields

is_sign : (o : Op) → (q : Op) × (sign_of o ≡ tk.sign q)
is_sign op.Negate = (op.Minus, refl)
is_sign o = (o, refl)

pub sign_level : (p : Place) (o : Op) (d : ℕ) (ts : List Token) → behind_c d (sign p o ts) ≡ behind_c d ts
sign_level p o d ts = ap (λ (k : TokenView). behind_c d (token p k ∷ ts)) (is_sign o).1

pub sign_words : (p : Place) (o : Op) (e : Bool) (ts : List Token) → behind_p e (sign p o ts) ≡ behind_p false ts
sign_words p o e ts = ap (λ (k : TokenView). behind_p e (token p k ∷ ts)) (is_sign o).1

field_level : (f : Field) (d : ℕ) (ts : List Token) → behind_c d (field_token f ts) ≡ behind_c d ts
field_level f d ts = by f.is_reserved
  where
    by : (b : Bool) → behind_c d (token f.place (field_kind b f.text) ∷ ts) ≡ behind_c d ts
    by true = refl
    by false = refl

-- it is not behind `end`
field_words : (f : Field) (ts : List Token) → Words false (field_token f ts) ts
field_words f ts = by f.is_reserved
  where
    no_end : (b : Bool) (o n : Option (List Token)) → (if b && false then o else n) ≡ n
    no_end true o n = refl
    no_end false o n = refl

    by : (b : Bool) → Words false (token f.place (field_kind b f.text) ∷ ts) ts
    by true = (bytes_eq f.text (codes "end"), no_end (bytes_eq f.text (codes "algorithm")) (Some ts) (behind_p (bytes_eq f.text (codes "end")) ts))
    by false = (false, refl)

-- ---- braces

abbrev Level : Mark → Type 0
Level m = (p : Place) (d : ℕ) (ts : List Token) → behind_c d (mark p m ts) ≡ behind_c d ts

mutual
  pub levels : (a : Phrase) (d : ℕ) (ts : List Token) → behind_c d (spell a ts) ≡ behind_c d ts
  levels (number p n) d ts = refl
  levels (string p x) d ts = refl
  levels (constant p c) d ts = refl
  levels (name p x) d ts = refl
  levels (primed p x q) d ts = refl
  levels (call p x q xs r) d ts = all_levels xs d (mark r tk.close_bracket ts)
  levels (brackets p a q) d ts = levels a d (mark q tk.close_bracket ts)
  levels (no_set p q) d ts = refl
  levels (set_of p xs q) d ts = all_levels xs (suc d) (mark q tk.close_brace ts)
  levels (filter p q x r s t a u) d ts = levels s (suc d) (mark t tk.colon (spell a (mark u tk.close_brace ts))) ∙ levels a (suc d) (mark u tk.close_brace ts)
  levels (image p a q bs r) d ts = levels a (suc d) (mark q tk.colon (spell_binds bs (mark r tk.close_brace ts))) ∙ bind_levels bs (suc d) (mark r tk.close_brace ts)
  levels (no_tuple p q) d ts = refl
  levels (tuple p xs q) d ts = all_levels xs d (mark q tk.close_tuple ts)
  levels (fields p fs q) d ts = field_levels_in tk.maps (λ p d ts. refl) fs d (mark q tk.close_square ts)
  levels (records p fs q) d ts = field_levels_in tk.colon (λ p d ts. refl) fs d (mark q tk.close_square ts)
  levels (function p bs q a r) d ts = bind_levels bs d (mark q tk.maps (spell a (mark r tk.close_square ts))) ∙ levels a d (mark r tk.close_square ts)
  levels (functions p a q b r) d ts = levels a d (mark q tk.arrow (spell b (mark r tk.close_square ts))) ∙ levels b d (mark r tk.close_square ts)
  levels (except p a q ss r) d ts = levels a d (key q tk.except_key (spell_settings ss (mark r tk.close_square ts))) ∙ setting_levels ss d (mark r tk.close_square ts)
  levels (apply a p xs q) d ts = levels a d (mark p tk.open_square (spell_all xs (mark q tk.close_square ts))) ∙ all_levels xs d (mark q tk.close_square ts)
  levels (select a p f) d ts = levels a d (mark p tk.dot (field_token f ts)) ∙ field_level f d ts
  levels (list o bs) d ts = bullet_levels o bs d ts
  levels (quantified b p bs q a) d ts = bind_levels bs d (mark q tk.colon (spell a ts)) ∙ levels a d ts
  levels (if_then_else p a q b r c) d ts = levels a d (key q tk.then_key (spell b (key r tk.else_key (spell c ts)))) ∙ levels b d (key r tk.else_key (spell c ts)) ∙ levels c d ts
  levels (cases p xs) d ts = arm_levels xs d ts
  levels (local p ls q a) d ts = local_levels ls d (key q tk.in_key (spell a ts)) ∙ levels a d ts
  levels (infix_of a p o b) d ts = levels a d (sign p o (spell b ts)) ∙ sign_level p o d (spell b ts) ∙ levels b d ts
  levels (prefix_of p o a) d ts = sign_level p o d (spell a ts) ∙ levels a d ts

  pub all_levels : (a : Phrases) (d : ℕ) (ts : List Token) → behind_c d (spell_all a ts) ≡ behind_c d ts
  all_levels (last a) d ts = levels a d ts
  all_levels (more a p xs) d ts = levels a d (mark p tk.comma (spell_all xs ts)) ∙ all_levels xs d ts

  pub bind_levels : (a : Binds) (d : ℕ) (ts : List Token) → behind_c d (spell_binds a ts) ≡ behind_c d ts
  bind_levels (last_bind p x q a) d ts = levels a d ts
  bind_levels (bind p x q a r bs) d ts = levels a d (mark r tk.comma (spell_binds bs ts)) ∙ bind_levels bs d ts
  bind_levels (share p x q bs) d ts = bind_levels bs d ts

  field_levels_in : (m : Mark) → Level m → (fs : Fields) (d : ℕ) (ts : List Token) → behind_c d (spell_fields m fs ts) ≡ behind_c d ts
  field_levels_in m h (last_field f p a) d ts = field_level f d (mark p m (spell a ts)) ∙ h p d (spell a ts) ∙ levels a d ts
  field_levels_in m h (field f p a q fs) d ts = field_level f d (mark p m (spell a (mark q tk.comma (spell_fields m fs ts)))) ∙ h p d (spell a (mark q tk.comma (spell_fields m fs ts))) ∙ levels a d (mark q tk.comma (spell_fields m fs ts)) ∙ field_levels_in m h fs d ts

  pub setting_levels : (a : Settings) (d : ℕ) (ts : List Token) → behind_c d (spell_settings a ts) ≡ behind_c d ts
  setting_levels (last_setting p path q a) d ts = path_levels path d (sign q op.Equal (spell a ts)) ∙ levels a d ts
  setting_levels (setting p path q a r ss) d ts = path_levels path d (sign q op.Equal (spell a (mark r tk.comma (spell_settings ss ts)))) ∙ levels a d (mark r tk.comma (spell_settings ss ts)) ∙ setting_levels ss d ts

  pub path_levels : (a : Path) (d : ℕ) (ts : List Token) → behind_c d (spell_path a ts) ≡ behind_c d ts
  path_levels path_end d ts = refl
  path_levels (index p xs q path) d ts = all_levels xs d (mark q tk.close_square (spell_path path ts)) ∙ path_levels path d ts
  path_levels (at_field p f path) d ts = field_level f d (spell_path path ts) ∙ path_levels path d ts

  bullet_levels : (o : Op) (bs : Bullets) (d : ℕ) (ts : List Token) → behind_c d (spell_bullets o bs ts) ≡ behind_c d ts
  bullet_levels o (last_bullet p a) d ts = sign_level p o d (spell a ts) ∙ levels a d ts
  bullet_levels o (bullet p a bs) d ts = sign_level p o d (spell a (spell_bullets o bs ts)) ∙ levels a d (spell_bullets o bs ts) ∙ bullet_levels o bs d ts

  pub arm_levels : (a : Arms) (d : ℕ) (ts : List Token) → behind_c d (spell_arms a ts) ≡ behind_c d ts
  arm_levels (last_arm a p b) d ts = levels a d (mark p tk.arrow (spell b ts)) ∙ levels b d ts
  arm_levels (other_arm a p b q r s c) d ts = levels a d (mark p tk.arrow (spell b (mark q tk.box (key r tk.other_key (mark s tk.arrow (spell c ts)))))) ∙ levels b d (mark q tk.box (key r tk.other_key (mark s tk.arrow (spell c ts)))) ∙ levels c d ts
  arm_levels (arm a p b q xs) d ts = levels a d (mark p tk.arrow (spell b (mark q tk.box (spell_arms xs ts)))) ∙ levels b d (mark q tk.box (spell_arms xs ts)) ∙ arm_levels xs d ts

  pub local_levels : (a : Locals) (d : ℕ) (ts : List Token) → behind_c d (spell_locals a ts) ≡ behind_c d ts
  local_levels (last_local p x q a) d ts = levels a d ts
  local_levels (more_locals p x q a ls) d ts = levels a d (spell_locals ls ts) ∙ local_levels ls d ts

-- ---- words

abbrev Marked : Mark → Type 0
Marked m = (p : Place) (e : Bool) (ts : List Token) → behind_p e (mark p m ts) ≡ behind_p false ts

mutual
  pub words : (a : Phrase) (k : Bool) (ts : List Token) → Words k (spell a ts) ts
  words (number p n) k ts = (false, refl)
  words (string p x) k ts = (false, refl)
  words (constant p c) k ts = (false, refl)
  words (name p x) k ts = (false, refl)
  words (primed p x q) k ts = (false, refl)
  words (call p x q xs r) k ts = (let first = all_words xs false (mark r tk.close_bracket ts) in (false, first.1))
  words (brackets p a q) k ts = (let first = words a false (mark q tk.close_bracket ts) in (false, first.1))
  words (no_set p q) k ts = (false, refl)
  words (set_of p xs q) k ts = (let first = all_words xs false (mark q tk.close_brace ts) in (false, first.1))
  words (filter p q x r s t a u) k ts = (let first = words s false (mark t tk.colon (spell a (mark u tk.close_brace ts))) in let second = words a false (mark u tk.close_brace ts) in (false, first.1 ∙ second.1))
  words (image p a q bs r) k ts = (let first = words a false (mark q tk.colon (spell_binds bs (mark r tk.close_brace ts))) in let second = bind_words bs false (mark r tk.close_brace ts) in (false, first.1 ∙ second.1))
  words (no_tuple p q) k ts = (false, refl)
  words (tuple p xs q) k ts = (let first = all_words xs false (mark q tk.close_tuple ts) in (false, first.1))
  words (fields p fs q) k ts = (let first = field_words_in tk.maps (λ p e ts. refl) fs (mark q tk.close_square ts) in (false, first.1))
  words (records p fs q) k ts = (let first = field_words_in tk.colon (λ p e ts. refl) fs (mark q tk.close_square ts) in (false, first.1))
  words (function p bs q a r) k ts = (let first = bind_words bs false (mark q tk.maps (spell a (mark r tk.close_square ts))) in let second = words a false (mark r tk.close_square ts) in (false, first.1 ∙ second.1))
  words (functions p a q b r) k ts = (let first = words a false (mark q tk.arrow (spell b (mark r tk.close_square ts))) in let second = words b false (mark r tk.close_square ts) in (false, first.1 ∙ second.1))
  words (except p a q ss r) k ts = (let first = words a false (key q tk.except_key (spell_settings ss (mark r tk.close_square ts))) in let second = setting_words ss false (mark r tk.close_square ts) in (false, first.1 ∙ second.1))
  words (apply a p xs q) k ts = (let first = words a k (mark p tk.open_square (spell_all xs (mark q tk.close_square ts))) in let second = all_words xs false (mark q tk.close_square ts) in (false, first.1 ∙ second.1))
  words (select a p f) k ts = (let first = words a k (mark p tk.dot (field_token f ts)) in let second = field_words f ts in (second.0, first.1 ∙ second.1))
  words (list o bs) k ts = bullet_words o bs k ts
  words (quantified b p bs q a) k ts = (let first = bind_words bs false (mark q tk.colon (spell a ts)) in let second = words a false ts in (second.0, first.1 ∙ second.1))
  words (if_then_else p a q b r c) k ts = (let first = words a false (key q tk.then_key (spell b (key r tk.else_key (spell c ts)))) in let second = words b false (key r tk.else_key (spell c ts)) in let third = words c false ts in (third.0, first.1 ∙ second.1 ∙ third.1))
  words (cases p xs) k ts = arm_words xs false ts
  words (local p ls q a) k ts = (let first = local_words ls false (key q tk.in_key (spell a ts)) in let second = words a false ts in (second.0, first.1 ∙ second.1))
  words (infix_of a p o b) k ts = (let first = words a k (sign p o (spell b ts)) in let second = words b false ts in (second.0, first.1 ∙ sign_words p o first.0 (spell b ts) ∙ second.1))
  words (prefix_of p o a) k ts = (let first = words a false ts in (first.0, sign_words p o k (spell a ts) ∙ first.1))

  pub all_words : (a : Phrases) (k : Bool) (ts : List Token) → Words k (spell_all a ts) ts
  all_words (last a) k ts = words a k ts
  all_words (more a p xs) k ts = (let first = words a k (mark p tk.comma (spell_all xs ts)) in let second = all_words xs false ts in (second.0, first.1 ∙ second.1))

  pub bind_words : (a : Binds) (k : Bool) (ts : List Token) → Words k (spell_binds a ts) ts
  bind_words (last_bind p x q a) k ts = words a false ts
  bind_words (bind p x q a r bs) k ts = (let first = words a false (mark r tk.comma (spell_binds bs ts)) in let second = bind_words bs false ts in (second.0, first.1 ∙ second.1))
  bind_words (share p x q bs) k ts = bind_words bs false ts

  field_words_in : (m : Mark) → Marked m → (fs : Fields) (ts : List Token) → Words false (spell_fields m fs ts) ts
  field_words_in m h (last_field f p a) ts = (let first = field_words f (mark p m (spell a ts)) in let second = words a false ts in (second.0, first.1 ∙ h p first.0 (spell a ts) ∙ second.1))
  field_words_in m h (field f p a q fs) ts = (let first = field_words f (mark p m (spell a (mark q tk.comma (spell_fields m fs ts)))) in let second = words a false (mark q tk.comma (spell_fields m fs ts)) in let third = field_words_in m h fs ts in (third.0, first.1 ∙ h p first.0 (spell a (mark q tk.comma (spell_fields m fs ts))) ∙ second.1 ∙ third.1))

  pub setting_words : (a : Settings) (k : Bool) (ts : List Token) → Words k (spell_settings a ts) ts
  setting_words (last_setting p path q a) k ts = (let first = path_words path false (sign q op.Equal (spell a ts)) in let second = words a false ts in (second.0, first.1 ∙ second.1))
  setting_words (setting p path q a r ss) k ts = (let first = path_words path false (sign q op.Equal (spell a (mark r tk.comma (spell_settings ss ts)))) in let second = words a false (mark r tk.comma (spell_settings ss ts)) in let third = setting_words ss false ts in (third.0, first.1 ∙ second.1 ∙ third.1))

  pub path_words : (a : Path) (k : Bool) (ts : List Token) → Words k (spell_path a ts) ts
  path_words path_end k ts = (k, refl)
  path_words (index p xs q path) k ts = (let first = all_words xs false (mark q tk.close_square (spell_path path ts)) in let second = path_words path false ts in (second.0, first.1 ∙ second.1))
  path_words (at_field p f path) k ts = (let first = field_words f (spell_path path ts) in let second = path_words path first.0 ts in (second.0, first.1 ∙ second.1))

  bullet_words : (o : Op) (bs : Bullets) (k : Bool) (ts : List Token) → Words k (spell_bullets o bs ts) ts
  bullet_words o (last_bullet p a) k ts = (let first = words a false ts in (first.0, sign_words p o k (spell a ts) ∙ first.1))
  bullet_words o (bullet p a bs) k ts = (let first = words a false (spell_bullets o bs ts) in let second = bullet_words o bs first.0 ts in (second.0, sign_words p o k (spell a (spell_bullets o bs ts)) ∙ first.1 ∙ second.1))

  pub arm_words : (a : Arms) (k : Bool) (ts : List Token) → Words k (spell_arms a ts) ts
  arm_words (last_arm a p b) k ts = (let first = words a k (mark p tk.arrow (spell b ts)) in let second = words b false ts in (second.0, first.1 ∙ second.1))
  arm_words (other_arm a p b q r s c) k ts = (let first = words a k (mark p tk.arrow (spell b (mark q tk.box (key r tk.other_key (mark s tk.arrow (spell c ts)))))) in let second = words b false (mark q tk.box (key r tk.other_key (mark s tk.arrow (spell c ts)))) in let third = words c false ts in (third.0, first.1 ∙ second.1 ∙ third.1))
  arm_words (arm a p b q xs) k ts = (let first = words a k (mark p tk.arrow (spell b (mark q tk.box (spell_arms xs ts)))) in let second = words b false (mark q tk.box (spell_arms xs ts)) in let third = arm_words xs false ts in (third.0, first.1 ∙ second.1 ∙ third.1))

  pub local_words : (a : Locals) (k : Bool) (ts : List Token) → Words k (spell_locals a ts) ts
  local_words (last_local p x q a) k ts = words a false ts
  local_words (more_locals p x q a ls) k ts = (let first = words a false (spell_locals ls ts) in let second = local_words ls first.0 ts in (second.0, first.1 ∙ second.1))
