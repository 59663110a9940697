-- Each token of a phrase has one count of the forms that are open at it.
use Rattle.std.proofs.Common.{◌≡◌, ℕ, ◌+◌, List, [], ◌∷◌, length, arith}
use Rattle.tla_tree.specs.Lexical.{Mark, Token}
use Rattle.tla_tree.specs.Lexical as tk
use Rattle.tla_tree.specs.declared.op.Op.{Op}
use Rattle.tla_tree.specs.declared.op.Op.TheVariants as op
use Rattle.tla_tree.specs.Spelling.{Phrase, number, string, constant, name, primed, call, brackets, no_set, set_of, filter, image, no_tuple, tuple, fields, records, function, functions, except, apply, select, list, quantified, if_then_else, cases, local, infix_of, prefix_of}
use Rattle.tla_tree.specs.Spelling.{Phrases, last, more, Binds, last_bind, bind, share, Fields, last_field, field, Settings, last_setting, setting, Path, path_end, index, at_field, Bullets, last_bullet, bullet, Arms, last_arm, other_arm, arm, Locals, last_local, more_locals}
use Rattle.tla_tree.specs.Spelling.{mark, key, sign, field_token, spell, spell_all, spell_binds, spell_fields, spell_settings, spell_path, spell_bullets, spell_arms, spell_locals}
use Rattle.tla_tree.specs.Nesting.{chain, links, counts, counts_all, counts_binds, counts_fields, counts_settings, counts_path, counts_bullets, counts_arms, counts_locals}

mutual
  pub count_one : (n : ℕ) (x : Phrase) (r : List ℕ) (ts : List Token) → length (counts n x r) + length ts ≡ length (spell x ts) + length r
  count_one n (number p k) r ts = omega arith
  count_one n (string p x) r ts = omega arith
  count_one n (constant p c) r ts = omega arith
  count_one n (name p x) r ts = omega arith
  count_one n (primed p x q) r ts = omega arith
  count_one n (call p x q xs t) r ts = omega (arith, count_all (n + 1) xs ((n + 1) ∷ r) (mark t tk.close_bracket ts))
  count_one n (brackets p a q) r ts = omega (arith, count_one (n + 1) a ((n + 1) ∷ r) (mark q tk.close_bracket ts))
  count_one n (no_set p q) r ts = omega arith
  count_one n (set_of p xs q) r ts = omega (arith, count_all (n + 1) xs ((n + 1) ∷ r) (mark q tk.close_brace ts))
  count_one n (filter p q x v s t a u) r ts = omega (arith, count_one (n + 1) s ((n + 1) ∷ counts (n + 1) a ((n + 1) ∷ r)) (mark t tk.colon (spell a (mark u tk.close_brace ts))), count_one (n + 1) a ((n + 1) ∷ r) (mark u tk.close_brace ts))
  count_one n (image p a q bs t) r ts = omega (arith, count_one (n + 1) a ((n + 1) ∷ counts_binds (n + 1) bs ((n + 1) ∷ r)) (mark q tk.colon (spell_binds bs (mark t tk.close_brace ts))), count_binds (n + 1) bs ((n + 1) ∷ r) (mark t tk.close_brace ts))
  count_one n (no_tuple p q) r ts = omega arith
  count_one n (tuple p xs q) r ts = omega (arith, count_all (n + 1) xs ((n + 1) ∷ r) (mark q tk.close_tuple ts))
  count_one n (fields p fs q) r ts = omega (arith, count_fields (n + 1) tk.maps fs ((n + 1) ∷ r) (mark q tk.close_square ts))
  count_one n (records p fs q) r ts = omega (arith, count_fields (n + 1) tk.colon fs ((n + 1) ∷ r) (mark q tk.close_square ts))
  count_one n (function p bs q a t) r ts = omega (arith, count_binds (n + 1) bs ((n + 1) ∷ counts (n + 1) a ((n + 1) ∷ r)) (mark q tk.maps (spell a (mark t tk.close_square ts))), count_one (n + 1) a ((n + 1) ∷ r) (mark t tk.close_square ts))
  count_one n (functions p a q b t) r ts = omega (arith, count_one (n + 1) a ((n + 1) ∷ counts (n + 1) b ((n + 1) ∷ r)) (mark q tk.arrow (spell b (mark t tk.close_square ts))), count_one (n + 1) b ((n + 1) ∷ r) (mark t tk.close_square ts))
  count_one n (except p a q ss t) r ts = omega (arith, count_one (n + 1) a ((n + 1) ∷ counts_settings (n + 1) ss ((n + 1) ∷ r)) (key q tk.except_key (spell_settings ss (mark t tk.close_square ts))), count_settings (n + 1) ss ((n + 1) ∷ r) (mark t tk.close_square ts))
  count_one n (apply a p xs q) r ts = omega (arith, count_one n a ((n + links a + 1) ∷ counts_all (n + links a + 1) xs ((n + links a + 1) ∷ r)) (mark p tk.open_square (spell_all xs (mark q tk.close_square ts))), count_all (n + links a + 1) xs ((n + links a + 1) ∷ r) (mark q tk.close_square ts))
  count_one n (select a p f) r ts = omega (arith, count_one n a ((n + links a + 1) ∷ (n + links a + 1) ∷ r) (mark p tk.dot (field_token f ts)))
  count_one n (list o bs) r ts = omega (arith, count_bullets n o bs r ts)
  count_one n (quantified b p bs q a) r ts = omega (arith, count_binds (n + 1) bs ((n + 1) ∷ counts (n + 1) a r) (mark q tk.colon (spell a ts)), count_one (n + 1) a r ts)
  count_one n (if_then_else p a q b t c) r ts = omega (arith, count_one (n + 1) a ((n + 1) ∷ counts (n + 1) b ((n + 1) ∷ counts (n + 1) c r)) (key q tk.then_key (spell b (key t tk.else_key (spell c ts)))), count_one (n + 1) b ((n + 1) ∷ counts (n + 1) c r) (key t tk.else_key (spell c ts)), count_one (n + 1) c r ts)
  count_one n (cases p xs) r ts = omega (arith, count_arms (n + 1) xs r ts)
  count_one n (local p ls q a) r ts = omega (arith, count_locals (n + 1) ls ((n + 1) ∷ counts (n + 1) a r) (key q tk.in_key (spell a ts)), count_one (n + 1) a r ts)
  count_one n (infix_of a p o b) r ts = omega (arith, count_one n a ((n + chain a + 1) ∷ counts (n + chain a + 1) b r) (sign p o (spell b ts)), count_one (n + chain a + 1) b r ts)
  count_one n (prefix_of p o a) r ts = omega (arith, count_one (n + 1) a r ts)

  pub count_all : (n : ℕ) (x : Phrases) (r : List ℕ) (ts : List Token) → length (counts_all n x r) + length ts ≡ length (spell_all x ts) + length r
  count_all n (last a) r ts = omega (arith, count_one n a r ts)
  count_all n (more a p xs) r ts = omega (arith, count_one n a (n ∷ counts_all n xs r) (mark p tk.comma (spell_all xs ts)), count_all n xs r ts)

  pub count_binds : (n : ℕ) (x : Binds) (r : List ℕ) (ts : List Token) → length (counts_binds n x r) + length ts ≡ length (spell_binds x ts) + length r
  count_binds n (last_bind p x q a) r ts = omega (arith, count_one n a r ts)
  count_binds n (bind p x q a t bs) r ts = omega (arith, count_one n a (n ∷ counts_binds n bs r) (mark t tk.comma (spell_binds bs ts)), count_binds n bs r ts)
  count_binds n (share p x q bs) r ts = omega (arith, count_binds n bs r ts)

  pub count_fields : (n : ℕ) (m : Mark) (x : Fields) (r : List ℕ) (ts : List Token) → length (counts_fields n x r) + length ts ≡ length (spell_fields m x ts) + length r
  count_fields n m (last_field f p a) r ts = omega (arith, count_one n a r ts)
  count_fields n m (field f p a q fs) r ts = omega (arith, count_one n a (n ∷ counts_fields n fs r) (mark q tk.comma (spell_fields m fs ts)), count_fields n m fs r ts)

  pub count_settings : (n : ℕ) (x : Settings) (r : List ℕ) (ts : List Token) → length (counts_settings n x r) + length ts ≡ length (spell_settings x ts) + length r
  count_settings n (last_setting p path q a) r ts = omega (arith, count_path n path (n ∷ counts n a r) (sign q op.Equal (spell a ts)), count_one n a r ts)
  count_settings n (setting p path q a t ss) r ts = omega (arith, count_path n path (n ∷ counts n a (n ∷ counts_settings n ss r)) (sign q op.Equal (spell a (mark t tk.comma (spell_settings ss ts)))), count_one n a (n ∷ counts_settings n ss r) (mark t tk.comma (spell_settings ss ts)), count_settings n ss r ts)

  pub count_path : (n : ℕ) (x : Path) (r : List ℕ) (ts : List Token) → length (counts_path n x r) + length ts ≡ length (spell_path x ts) + length r
  count_path n path_end r ts = omega arith
  count_path n (index p xs q path) r ts = omega (arith, count_all (n + 1) xs ((n + 1) ∷ counts_path n path r) (mark q tk.close_square (spell_path path ts)), count_path n path r ts)
  count_path n (at_field p f path) r ts = omega (arith, count_path n path r ts)

  pub count_bullets : (n : ℕ) (o : Op) (x : Bullets) (r : List ℕ) (ts : List Token) → length (counts_bullets n x r) + length ts ≡ length (spell_bullets o x ts) + length r
  count_bullets n o (last_bullet p a) r ts = omega (arith, count_one (n + 1) a r ts)
  count_bullets n o (bullet p a bs) r ts = omega (arith, count_one (n + 1) a (counts_bullets (n + 1) bs r) (spell_bullets o bs ts), count_bullets (n + 1) o bs r ts)

  pub count_arms : (n : ℕ) (x : Arms) (r : List ℕ) (ts : List Token) → length (counts_arms n x r) + length ts ≡ length (spell_arms x ts) + length r
  count_arms n (last_arm a p b) r ts = omega (arith, count_one n a (n ∷ counts n b r) (mark p tk.arrow (spell b ts)), count_one n b r ts)
  count_arms n (other_arm a p b q s t c) r ts = omega (arith, count_one n a (n ∷ counts n b (n ∷ n ∷ n ∷ counts n c r)) (mark p tk.arrow (spell b (mark q tk.box (key s tk.other_key (mark t tk.arrow (spell c ts)))))), count_one n b (n ∷ n ∷ n ∷ counts n c r) (mark q tk.box (key s tk.other_key (mark t tk.arrow (spell c ts)))), count_one n c r ts)
  count_arms n (arm a p b q xs) r ts = omega (arith, count_one n a (n ∷ counts n b (n ∷ counts_arms n xs r)) (mark p tk.arrow (spell b (mark q tk.box (spell_arms xs ts)))), count_one n b (n ∷ counts_arms n xs r) (mark q tk.box (spell_arms xs ts)), count_arms n xs r ts)

  pub count_locals : (n : ℕ) (x : Locals) (r : List ℕ) (ts : List Token) → length (counts_locals n x r) + length ts ≡ length (spell_locals x ts) + length r
  count_locals n (last_local p x q a) r ts = omega (arith, count_one n a r ts)
  count_locals n (more_locals p x q a ls) r ts = omega (arith, count_one n a (counts_locals n ls r) (spell_locals ls ts), count_locals n ls r ts)

pub as_many_counts : (n : ℕ) (a : Phrase) → length (counts n a []) ≡ length (spell a [])
as_many_counts n a = omega (arith, count_one n a [] [])
