-- How many steps the reading of a phrase takes: at most four for each of its tokens.
use Rattle.std.proofs.Common.{ℕ, ◌+◌, ◌*◌, ◌≤◌, List, length, arith}
use Rattle.tla_tree.specs.Lexical.{Mark, Token}
use Rattle.tla_tree.specs.Lexical as tk
use Rattle.tla_tree.specs.declared.op.Op.{Op}
use Rattle.tla_tree.specs.declared.op.Op.TheVariants as op
use Rattle.tla_tree.specs.Spelling.{Phrase, call, brackets, set_of, filter, image, tuple, fields, records, function, functions, except, apply, select, list, quantified, if_then_else, cases, local, infix_of, prefix_of}
use Rattle.tla_tree.specs.Spelling.{Phrases, last, more, Binds, last_bind, bind, share, Fields, last_field, field, Settings, last_setting, setting, Path, path_end, index, at_field, Bullets, last_bullet, bullet, Arms, last_arm, other_arm, arm, Locals, last_local, more_locals}
use Rattle.tla_tree.specs.Spelling.{mark, key, sign, field_token, spell, spell_all, spell_binds, spell_fields, spell_settings, spell_path, spell_bullets, spell_arms, spell_locals}

-- besides what follows the phrase
abbrev mutual
  pub steps : Phrase → ℕ
  steps (call p x q xs r) = steps_all xs
  steps (brackets p a q) = steps a + 3
  steps (set_of p xs q) = steps_all xs
  steps (filter p q x r s t a u) = steps s + steps a + 6
  steps (image p a q bs r) = steps a + steps_binds bs + 3
  steps (tuple p xs q) = steps_all xs
  steps (fields p fs q) = steps_fields fs
  steps (records p fs q) = steps_fields fs
  steps (function p bs q a r) = steps_binds bs + steps a + 3
  steps (functions p a q b r) = steps a + steps b + 6
  steps (except p a q ss r) = steps a + steps_settings ss + 3
  steps (apply a p xs q) = steps a + steps_all xs + 1
  steps (select a p f) = steps a + 1
  steps (list o bs) = steps_bullets bs
  steps (quantified b p bs q a) = steps_binds bs + steps a + 2
  steps (if_then_else p a q b r c) = steps a + steps b + steps c + 8
  steps (cases p xs) = steps_arms xs
  steps (local p ls q a) = steps_locals ls + steps a + 2
  steps (infix_of a p o b) = steps a + steps b + 4
  steps (prefix_of p o a) = steps a + 2
  steps a = 0

  pub steps_all : Phrases → ℕ
  steps_all (last a) = steps a + 4
  steps_all (more a p xs) = steps a + steps_all xs + 4

  pub steps_binds : Binds → ℕ
  steps_binds (last_bind p x q a) = steps a + 4
  steps_binds (bind p x q a r bs) = steps a + steps_binds bs + 4
  steps_binds (share p x q bs) = steps_binds bs + 1

  pub steps_fields : Fields → ℕ
  steps_fields (last_field f p a) = steps a + 4
  steps_fields (field f p a q fs) = steps a + steps_fields fs + 4

  pub steps_settings : Settings → ℕ
  steps_settings (last_setting p path q a) = steps_path path + steps a + 4
  steps_settings (setting p path q a r ss) = steps_path path + steps a + steps_settings ss + 4

  pub steps_path : Path → ℕ
  steps_path path_end = 1
  steps_path (index p xs q path) = steps_all xs + steps_path path + 1
  steps_path (at_field p f path) = steps_path path + 1

  pub steps_bullets : Bullets → ℕ
  steps_bullets (last_bullet p a) = steps a + 4
  steps_bullets (bullet p a bs) = steps a + steps_bullets bs + 4

  pub steps_arms : Arms → ℕ
  steps_arms (last_arm a p b) = steps a + steps b + 7
  steps_arms (other_arm a p b q r s c) = steps a + steps b + steps c + 10
  steps_arms (arm a p b q xs) = steps a + steps b + steps_arms xs + 7

  pub steps_locals : Locals → ℕ
  steps_locals (last_local p x q a) = steps a + 4
  steps_locals (more_locals p x q a ls) = steps a + steps_locals ls + 4

-- ---- four for each token
abbrev Below : ℕ → List Token → List Token → Type 0
Below n us ts = n + 4 * length ts ≤ 4 * length us

mutual
  pub few : (a : Phrase) (ts : List Token) → Below (steps a + 4) (spell a ts) ts
  few (call p x q xs r) ts = omega (arith, few_all xs (mark r tk.close_bracket ts))
  few (brackets p a q) ts = omega (arith, few a (mark q tk.close_bracket ts))
  few (set_of p xs q) ts = omega (arith, few_all xs (mark q tk.close_brace ts))
  few (filter p q x r s t a u) ts = omega (arith, few s (mark t tk.colon (spell a (mark u tk.close_brace ts))), few a (mark u tk.close_brace ts))
  few (image p a q bs r) ts = omega (arith, few a (mark q tk.colon (spell_binds bs (mark r tk.close_brace ts))), few_binds bs (mark r tk.close_brace ts))
  few (tuple p xs q) ts = omega (arith, few_all xs (mark q tk.close_tuple ts))
  few (fields p fs q) ts = omega (arith, few_fields tk.maps fs (mark q tk.close_square ts))
  few (records p fs q) ts = omega (arith, few_fields tk.colon fs (mark q tk.close_square ts))
  few (function p bs q a r) ts = omega (arith, few_binds bs (mark q tk.maps (spell a (mark r tk.close_square ts))), few a (mark r tk.close_square ts))
  few (functions p a q b r) ts = omega (arith, few a (mark q tk.arrow (spell b (mark r tk.close_square ts))), few b (mark r tk.close_square ts))
  few (except p a q ss r) ts = omega (arith, few a (key q tk.except_key (spell_settings ss (mark r tk.close_square ts))), few_settings ss (mark r tk.close_square ts))
  few (apply a p xs q) ts = omega (arith, few a (mark p tk.open_square (spell_all xs (mark q tk.close_square ts))), few_all xs (mark q tk.close_square ts))
  few (select a p f) ts = omega (arith, few a (mark p tk.dot (field_token f ts)))
  few (list o bs) ts = few_bullets o bs ts
  few (quantified b p bs q a) ts = omega (arith, few_binds bs (mark q tk.colon (spell a ts)), few a ts)
  few (if_then_else p a q b r c) ts = omega (arith, few a (key q tk.then_key (spell b (key r tk.else_key (spell c ts)))), few b (key r tk.else_key (spell c ts)), few c ts)
  few (cases p xs) ts = omega (arith, few_arms xs ts)
  few (local p ls q a) ts = omega (arith, few_locals ls (key q tk.in_key (spell a ts)), few a ts)
  few (infix_of a p o b) ts = omega (arith, few a (sign p o (spell b ts)), few b ts)
  few (prefix_of p o a) ts = omega (arith, few a ts)
  few a ts = omega arith

  pub few_all : (xs : Phrases) (ts : List Token) → Below (steps_all xs) (spell_all xs ts) ts
  few_all (last a) ts = omega (arith, few a ts)
  few_all (more a p xs) ts = omega (arith, few a (mark p tk.comma (spell_all xs ts)), few_all xs ts)

  few_binds : (bs : Binds) (ts : List Token) → Below (steps_binds bs) (spell_binds bs ts) ts
  few_binds (last_bind p x q a) ts = omega (arith, few a ts)
  few_binds (bind p x q a r bs) ts = omega (arith, few a (mark r tk.comma (spell_binds bs ts)), few_binds bs ts)
  few_binds (share p x q bs) ts = omega (arith, few_binds bs ts)

  few_fields : (m : Mark) (fs : Fields) (ts : List Token) → Below (steps_fields fs) (spell_fields m fs ts) ts
  few_fields m (last_field f p a) ts = omega (arith, few a ts)
  few_fields m (field f p a q fs) ts = omega (arith, few a (mark q tk.comma (spell_fields m fs ts)), few_fields m fs ts)

  few_settings : (ss : Settings) (ts : List Token) → Below (steps_settings ss) (spell_settings ss ts) ts
  few_settings (last_setting p path q a) ts = omega (arith, few_path path (sign q op.Equal (spell a ts)), few a ts)
  few_settings (setting p path q a r ss) ts = omega (arith, few_path path (sign q op.Equal (spell a (mark r tk.comma (spell_settings ss ts)))), few a (mark r tk.comma (spell_settings ss ts)), few_settings ss ts)

  few_path : (path : Path) (ts : List Token) → steps_path path + 4 * length ts ≤ 4 * length (spell_path path ts) + 1
  few_path path_end ts = omega arith
  few_path (index p xs q path) ts = omega (arith, few_all xs (mark q tk.close_square (spell_path path ts)), few_path path ts)
  few_path (at_field p f path) ts = omega (arith, few_path path ts)

  -- a list is a phrase, and it has a bullet
  few_bullets : (o : Op) (bs : Bullets) (ts : List Token) → Below (steps_bullets bs + 4) (spell_bullets o bs ts) ts
  few_bullets o (last_bullet p a) ts = omega (arith, few a ts)
  few_bullets o (bullet p a bs) ts = omega (arith, few a (spell_bullets o bs ts), few_bullets o bs ts)

  few_arms : (xs : Arms) (ts : List Token) → Below (steps_arms xs) (spell_arms xs ts) ts
  few_arms (last_arm a p b) ts = omega (arith, few a (mark p tk.arrow (spell b ts)), few b ts)
  few_arms (other_arm a p b q r s c) ts = omega (arith, few a (mark p tk.arrow (spell b (mark q tk.box (key r tk.other_key (mark s tk.arrow (spell c ts)))))), few b (mark q tk.box (key r tk.other_key (mark s tk.arrow (spell c ts)))), few c ts)
  few_arms (arm a p b q xs) ts = omega (arith, few a (mark p tk.arrow (spell b (mark q tk.box (spell_arms xs ts)))), few b (mark q tk.box (spell_arms xs ts)), few_arms xs ts)

  few_locals : (ls : Locals) (ts : List Token) → Below (steps_locals ls) (spell_locals ls ts) ts
  few_locals (last_local p x q a) ts = omega (arith, few a ts)
  few_locals (more_locals p x q a ls) ts = omega (arith, few a (spell_locals ls ts), few_locals ls ts)
