-- The forms that are open rest on no place: a phrase in other places has the same counts.
use Rattle.std.proofs.Common.{◌≡◌, ℕ, ◌+◌, List, [], ◌∷◌, refl, sym, ap, ◌∙◌}
use Rattle.tla_token.specs.declared.place.Place.{Place}
use Rattle.tla_tree.specs.Spelling.{Phrase, number, string, constant, name, primed, call, brackets, no_set, set_of, filter, image, no_tuple, tuple, fields, records, function, functions, except, apply, select, list, quantified, if_then_else, cases, local, infix_of, prefix_of}
use Rattle.tla_tree.specs.Spelling.{Phrases, last, more, Binds, last_bind, bind, share, Fields, last_field, field, Settings, last_setting, setting, Path, path_end, index, at_field, Bullets, last_bullet, bullet, Arms, last_arm, other_arm, arm, Locals, last_local, more_locals}
use Rattle.tla_tree.specs.Nesting.{chain, links, counts, counts_all, counts_binds, counts_fields, counts_settings, counts_path, counts_bullets, counts_arms, counts_locals}
use Rattle.tla_tree.specs.laws.Columns.{moved, moved_all, moved_binds, moved_fields, moved_settings, moved_path, moved_bullets, moved_arms, moved_locals, column_of, lineless}

moved_links : (v : Place → ℕ) (a : Phrase) → links (moved v a) ≡ links a
moved_links v (apply a p xs q) = ap (λ (n : ℕ). n + 1) (moved_links v a)
moved_links v (select a p f) = ap (λ (n : ℕ). n + 1) (moved_links v a)
moved_links v a = refl

moved_chain : (v : Place → ℕ) (a : Phrase) → chain (moved v a) ≡ chain a
moved_chain v (infix_of a p o b) = ap (λ (n : ℕ). n + 1) (moved_chain v a)
moved_chain v a = refl

mutual
  pub moved_counts : (v : Place → ℕ) (n : ℕ) (y : Phrase) (r : List ℕ) → counts n (moved v y) r ≡ counts n y r
  moved_counts v n (number p k) r = refl
  moved_counts v n (string p x) r = refl
  moved_counts v n (constant p c) r = refl
  moved_counts v n (name p x) r = refl
  moved_counts v n (primed p x q) r = refl
  moved_counts v n (call p x q xs t) r = ap (λ (z : List ℕ). n ∷ z) (ap (λ (z : List ℕ). (n + 1) ∷ z) (same_all v (n + 1) xs ((n + 1) ∷ r)))
  moved_counts v n (brackets p a q) r = ap (λ (z : List ℕ). (n + 1) ∷ z) (moved_counts v (n + 1) a ((n + 1) ∷ r))
  moved_counts v n (no_set p q) r = refl
  moved_counts v n (set_of p xs q) r = ap (λ (z : List ℕ). (n + 1) ∷ z) (same_all v (n + 1) xs ((n + 1) ∷ r))
  moved_counts v n (filter p q x w s t a u) r = ap (λ (z : List ℕ). (n + 1) ∷ z) (ap (λ (z : List ℕ). (n + 1) ∷ z) (ap (λ (z : List ℕ). (n + 1) ∷ z) (ap (counts (n + 1) (moved v s)) (ap (λ (z : List ℕ). (n + 1) ∷ z) (moved_counts v (n + 1) a ((n + 1) ∷ r))) ∙ moved_counts v (n + 1) s ((n + 1) ∷ (counts (n + 1) a ((n + 1) ∷ r))))))
  moved_counts v n (image p a q bs t) r = ap (λ (z : List ℕ). (n + 1) ∷ z) (ap (counts (n + 1) (moved v a)) (ap (λ (z : List ℕ). (n + 1) ∷ z) (same_binds v (n + 1) bs ((n + 1) ∷ r))) ∙ moved_counts v (n + 1) a ((n + 1) ∷ (counts_binds (n + 1) bs ((n + 1) ∷ r))))
  moved_counts v n (no_tuple p q) r = refl
  moved_counts v n (tuple p xs q) r = ap (λ (z : List ℕ). (n + 1) ∷ z) (same_all v (n + 1) xs ((n + 1) ∷ r))
  moved_counts v n (fields p fs q) r = ap (λ (z : List ℕ). (n + 1) ∷ z) (same_fields v (n + 1) fs ((n + 1) ∷ r))
  moved_counts v n (records p fs q) r = ap (λ (z : List ℕ). (n + 1) ∷ z) (same_fields v (n + 1) fs ((n + 1) ∷ r))
  moved_counts v n (function p bs q a t) r = ap (λ (z : List ℕ). (n + 1) ∷ z) (ap (counts_binds (n + 1) (moved_binds v bs)) (ap (λ (z : List ℕ). (n + 1) ∷ z) (moved_counts v (n + 1) a ((n + 1) ∷ r))) ∙ same_binds v (n + 1) bs ((n + 1) ∷ (counts (n + 1) a ((n + 1) ∷ r))))
  moved_counts v n (functions p a q b t) r = ap (λ (z : List ℕ). (n + 1) ∷ z) (ap (counts (n + 1) (moved v a)) (ap (λ (z : List ℕ). (n + 1) ∷ z) (moved_counts v (n + 1) b ((n + 1) ∷ r))) ∙ moved_counts v (n + 1) a ((n + 1) ∷ (counts (n + 1) b ((n + 1) ∷ r))))
  moved_counts v n (except p a q ss t) r = ap (λ (z : List ℕ). (n + 1) ∷ z) (ap (counts (n + 1) (moved v a)) (ap (λ (z : List ℕ). (n + 1) ∷ z) (same_settings v (n + 1) ss ((n + 1) ∷ r))) ∙ moved_counts v (n + 1) a ((n + 1) ∷ (counts_settings (n + 1) ss ((n + 1) ∷ r))))
  moved_counts v n (apply a p xs q) r = rw (moved_links v a) (ap (counts n (moved v a)) (ap (λ (z : List ℕ). (n + links a + 1) ∷ z) (same_all v (n + links a + 1) xs ((n + links a + 1) ∷ r))) ∙ moved_counts v n a ((n + links a + 1) ∷ (counts_all (n + links a + 1) xs ((n + links a + 1) ∷ r))))
  moved_counts v n (select a p f) r = rw (moved_links v a) (moved_counts v n a ((n + links a + 1) ∷ ((n + links a + 1) ∷ r)))
  moved_counts v n (list o bs) r = same_bullets v n bs r
  moved_counts v n (quantified b p bs q a) r = ap (λ (z : List ℕ). (n + 1) ∷ z) (ap (counts_binds (n + 1) (moved_binds v bs)) (ap (λ (z : List ℕ). (n + 1) ∷ z) (moved_counts v (n + 1) a r)) ∙ same_binds v (n + 1) bs ((n + 1) ∷ (counts (n + 1) a r)))
  moved_counts v n (if_then_else p a q b t c) r = ap (λ (z : List ℕ). (n + 1) ∷ z) (ap (counts (n + 1) (moved v a)) (ap (λ (z : List ℕ). (n + 1) ∷ z) (ap (counts (n + 1) (moved v b)) (ap (λ (z : List ℕ). (n + 1) ∷ z) (moved_counts v (n + 1) c r)) ∙ moved_counts v (n + 1) b ((n + 1) ∷ (counts (n + 1) c r)))) ∙ moved_counts v (n + 1) a ((n + 1) ∷ (counts (n + 1) b ((n + 1) ∷ (counts (n + 1) c r)))))
  moved_counts v n (cases p xs) r = ap (λ (z : List ℕ). (n + 1) ∷ z) (same_arms v (n + 1) xs r)
  moved_counts v n (local p ls q a) r = ap (λ (z : List ℕ). (n + 1) ∷ z) (ap (counts_locals (n + 1) (moved_locals v ls)) (ap (λ (z : List ℕ). (n + 1) ∷ z) (moved_counts v (n + 1) a r)) ∙ same_locals v (n + 1) ls ((n + 1) ∷ (counts (n + 1) a r)))
  moved_counts v n (infix_of a p o b) r = rw (moved_chain v a) (ap (counts n (moved v a)) (ap (λ (z : List ℕ). (n + chain a + 1) ∷ z) (moved_counts v (n + chain a + 1) b r)) ∙ moved_counts v n a ((n + chain a + 1) ∷ (counts (n + chain a + 1) b r)))
  moved_counts v n (prefix_of p o a) r = ap (λ (z : List ℕ). (n + 1) ∷ z) (moved_counts v (n + 1) a r)

  pub same_all : (v : Place → ℕ) (n : ℕ) (y : Phrases) (r : List ℕ) → counts_all n (moved_all v y) r ≡ counts_all n y r
  same_all v n (last a) r = moved_counts v n a r
  same_all v n (more a p xs) r = ap (counts n (moved v a)) (ap (λ (z : List ℕ). n ∷ z) (same_all v n xs r)) ∙ moved_counts v n a (n ∷ (counts_all n xs r))

  pub same_binds : (v : Place → ℕ) (n : ℕ) (y : Binds) (r : List ℕ) → counts_binds n (moved_binds v y) r ≡ counts_binds n y r
  same_binds v n (last_bind p x q a) r = ap (λ (z : List ℕ). n ∷ z) (ap (λ (z : List ℕ). n ∷ z) (moved_counts v n a r))
  same_binds v n (bind p x q a t bs) r = ap (λ (z : List ℕ). n ∷ z) (ap (λ (z : List ℕ). n ∷ z) (ap (counts n (moved v a)) (ap (λ (z : List ℕ). n ∷ z) (same_binds v n bs r)) ∙ moved_counts v n a (n ∷ (counts_binds n bs r))))
  same_binds v n (share p x q bs) r = ap (λ (z : List ℕ). n ∷ z) (ap (λ (z : List ℕ). n ∷ z) (same_binds v n bs r))

  pub same_fields : (v : Place → ℕ) (n : ℕ) (y : Fields) (r : List ℕ) → counts_fields n (moved_fields v y) r ≡ counts_fields n y r
  same_fields v n (last_field f p a) r = ap (λ (z : List ℕ). n ∷ z) (ap (λ (z : List ℕ). n ∷ z) (moved_counts v n a r))
  same_fields v n (field f p a q fs) r = ap (λ (z : List ℕ). n ∷ z) (ap (λ (z : List ℕ). n ∷ z) (ap (counts n (moved v a)) (ap (λ (z : List ℕ). n ∷ z) (same_fields v n fs r)) ∙ moved_counts v n a (n ∷ (counts_fields n fs r))))

  pub same_settings : (v : Place → ℕ) (n : ℕ) (y : Settings) (r : List ℕ) → counts_settings n (moved_settings v y) r ≡ counts_settings n y r
  same_settings v n (last_setting p path q a) r = ap (λ (z : List ℕ). n ∷ z) (ap (counts_path n (moved_path v path)) (ap (λ (z : List ℕ). n ∷ z) (moved_counts v n a r)) ∙ same_path v n path (n ∷ (counts n a r)))
  same_settings v n (setting p path q a t ss) r = ap (λ (z : List ℕ). n ∷ z) (ap (counts_path n (moved_path v path)) (ap (λ (z : List ℕ). n ∷ z) (ap (counts n (moved v a)) (ap (λ (z : List ℕ). n ∷ z) (same_settings v n ss r)) ∙ moved_counts v n a (n ∷ (counts_settings n ss r)))) ∙ same_path v n path (n ∷ (counts n a (n ∷ (counts_settings n ss r)))))

  pub same_path : (v : Place → ℕ) (n : ℕ) (y : Path) (r : List ℕ) → counts_path n (moved_path v y) r ≡ counts_path n y r
  same_path v n path_end r = refl
  same_path v n (index p xs q path) r = ap (λ (z : List ℕ). (n + 1) ∷ z) (ap (counts_all (n + 1) (moved_all v xs)) (ap (λ (z : List ℕ). (n + 1) ∷ z) (same_path v n path r)) ∙ same_all v (n + 1) xs ((n + 1) ∷ (counts_path n path r)))
  same_path v n (at_field p f path) r = ap (λ (z : List ℕ). n ∷ z) (ap (λ (z : List ℕ). n ∷ z) (same_path v n path r))

  pub same_bullets : (v : Place → ℕ) (n : ℕ) (y : Bullets) (r : List ℕ) → counts_bullets n (moved_bullets v y) r ≡ counts_bullets n y r
  same_bullets v n (last_bullet p a) r = ap (λ (z : List ℕ). (n + 1) ∷ z) (moved_counts v (n + 1) a r)
  same_bullets v n (bullet p a bs) r = ap (λ (z : List ℕ). (n + 1) ∷ z) (ap (counts (n + 1) (moved v a)) (same_bullets v (n + 1) bs r) ∙ moved_counts v (n + 1) a (counts_bullets (n + 1) bs r))

  pub same_arms : (v : Place → ℕ) (n : ℕ) (y : Arms) (r : List ℕ) → counts_arms n (moved_arms v y) r ≡ counts_arms n y r
  same_arms v n (last_arm a p b) r = ap (counts n (moved v a)) (ap (λ (z : List ℕ). n ∷ z) (moved_counts v n b r)) ∙ moved_counts v n a (n ∷ (counts n b r))
  same_arms v n (other_arm a p b q s t c) r = ap (counts n (moved v a)) (ap (λ (z : List ℕ). n ∷ z) (ap (counts n (moved v b)) (ap (λ (z : List ℕ). n ∷ z) (ap (λ (z : List ℕ). n ∷ z) (ap (λ (z : List ℕ). n ∷ z) (moved_counts v n c r)))) ∙ moved_counts v n b (n ∷ (n ∷ (n ∷ (counts n c r)))))) ∙ moved_counts v n a (n ∷ (counts n b (n ∷ (n ∷ (n ∷ (counts n c r))))))
  same_arms v n (arm a p b q xs) r = ap (counts n (moved v a)) (ap (λ (z : List ℕ). n ∷ z) (ap (counts n (moved v b)) (ap (λ (z : List ℕ). n ∷ z) (same_arms v n xs r)) ∙ moved_counts v n b (n ∷ (counts_arms n xs r)))) ∙ moved_counts v n a (n ∷ (counts n b (n ∷ (counts_arms n xs r))))

  pub same_locals : (v : Place → ℕ) (n : ℕ) (y : Locals) (r : List ℕ) → counts_locals n (moved_locals v y) r ≡ counts_locals n y r
  same_locals v n (last_local p x q a) r = ap (λ (z : List ℕ). n ∷ z) (ap (λ (z : List ℕ). n ∷ z) (moved_counts v n a r))
  same_locals v n (more_locals p x q a ls) r = ap (λ (z : List ℕ). n ∷ z) (ap (λ (z : List ℕ). n ∷ z) (ap (counts n (moved v a)) (same_locals v n ls r) ∙ moved_counts v n a (counts_locals n ls r)))

pub same_counts : (n : ℕ) (a b : Phrase) → lineless a ≡ lineless b → counts n a [] ≡ counts n b []
same_counts n a b e = sym (moved_counts column_of n a []) ∙ ap (λ (c : Phrase). counts n c []) e ∙ moved_counts column_of n b []
