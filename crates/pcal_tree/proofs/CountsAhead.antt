-- The counts of a phrase stand before those that come, whatever these are.
use Rattle.std.proofs.Common.{◌≡◌, ℕ, ◌+◌, List, ◌∷◌, ◌++◌, refl, ap, ◌∙◌}
use Rattle.tla_tree.specs.Spelling.{Phrase, number, string, constant, name, primed, call, brackets, no_set, set_of, filter, image, no_tuple, tuple, fields, records, function, functions, except, apply, select, list, quantified, if_then_else, cases, local, infix_of, prefix_of}
use Rattle.tla_tree.specs.Spelling.{Phrases, last, more, Binds, last_bind, bind, share, Fields, last_field, field, Settings, last_setting, setting, Path, path_end, index, at_field, Bullets, last_bullet, bullet, Arms, last_arm, other_arm, arm, Locals, last_local, more_locals}
use Rattle.tla_tree.specs.Nesting.{chain, links, counts, counts_all, counts_binds, counts_fields, counts_settings, counts_path, counts_bullets, counts_arms, counts_locals}

-- counts are put before those that come
pub record Ahead (x : List ℕ → List ℕ) : Type 0 where
  pub is : (r s : List ℕ) → x (r ++ s) ≡ x r ++ s

held : Ahead (λ r. r)
held = record { is = λ r s. refl }

put : {n : ℕ} {x : List ℕ → List ℕ} → Ahead x → Ahead (λ r. n ∷ x r)
put {n} {x} h = record { is = λ r s. ap (λ (ns : List ℕ). n ∷ ns) (h.is r s) }

after : {f x : List ℕ → List ℕ} → Ahead f → Ahead x → Ahead (λ r. f (x r))
after {f} {x} g h = record { is = λ r s. ap f (h.is r s) ∙ g.is (x r) s }

mutual
  pub ahead : (a : Phrase) (n : ℕ) → Ahead (counts n a)
  ahead (number p k) n = put held
  ahead (string p x) n = put held
  ahead (constant p c) n = put held
  ahead (name p x) n = put held
  ahead (primed p x q) n = put (put held)
  ahead (call p x q xs t) n = put (put (after (ahead_all xs (n + 1)) (put held)))
  ahead (brackets p a q) n = put (after (ahead a (n + 1)) (put held))
  ahead (no_set p q) n = put (put held)
  ahead (set_of p xs q) n = put (after (ahead_all xs (n + 1)) (put held))
  ahead (filter p q x v s t a u) n = put (put (put (after (ahead s (n + 1)) (put (after (ahead a (n + 1)) (put held))))))
  ahead (image p a q bs t) n = put (after (ahead a (n + 1)) (put (after (ahead_binds bs (n + 1)) (put held))))
  ahead (no_tuple p q) n = put (put held)
  ahead (tuple p xs q) n = put (after (ahead_all xs (n + 1)) (put held))
  ahead (fields p fs q) n = put (after (ahead_fields fs (n + 1)) (put held))
  ahead (records p fs q) n = put (after (ahead_fields fs (n + 1)) (put held))
  ahead (function p bs q a t) n = put (after (ahead_binds bs (n + 1)) (put (after (ahead a (n + 1)) (put held))))
  ahead (functions p a q b t) n = put (after (ahead a (n + 1)) (put (after (ahead b (n + 1)) (put held))))
  ahead (except p a q ss t) n = put (after (ahead a (n + 1)) (put (after (ahead_settings ss (n + 1)) (put held))))
  ahead (apply a p xs q) n = after (ahead a n) (put (after (ahead_all xs (n + links a + 1)) (put held)))
  ahead (select a p f) n = after (ahead a n) (put (put held))
  ahead (list o bs) n = after (ahead_bullets bs n) held
  ahead (quantified b p bs q a) n = put (after (ahead_binds bs (n + 1)) (put (after (ahead a (n + 1)) held)))
  ahead (if_then_else p a q b t c) n = put (after (ahead a (n + 1)) (put (after (ahead b (n + 1)) (put (after (ahead c (n + 1)) held)))))
  ahead (cases p xs) n = put (after (ahead_arms xs (n + 1)) held)
  ahead (local p ls q a) n = put (after (ahead_locals ls (n + 1)) (put (after (ahead a (n + 1)) held)))
  ahead (infix_of a p o b) n = after (ahead a n) (put (after (ahead b (n + chain a + 1)) held))
  ahead (prefix_of p o a) n = put (after (ahead a (n + 1)) held)

  pub ahead_all : (xs : Phrases) (n : ℕ) → Ahead (counts_all n xs)
  ahead_all (last a) n = after (ahead a n) held
  ahead_all (more a p xs) n = after (ahead a n) (put (after (ahead_all xs n) held))

  ahead_binds : (bs : Binds) (n : ℕ) → Ahead (counts_binds n bs)
  ahead_binds (last_bind p x q a) n = put (put (after (ahead a n) held))
  ahead_binds (bind p x q a t bs) n = put (put (after (ahead a n) (put (after (ahead_binds bs n) held))))
  ahead_binds (share p x q bs) n = put (put (after (ahead_binds bs n) held))

  ahead_fields : (fs : Fields) (n : ℕ) → Ahead (counts_fields n fs)
  ahead_fields (last_field f p a) n = put (put (after (ahead a n) held))
  ahead_fields (field f p a q fs) n = put (put (after (ahead a n) (put (after (ahead_fields fs n) held))))

  ahead_settings : (ss : Settings) (n : ℕ) → Ahead (counts_settings n ss)
  ahead_settings (last_setting p path q a) n = put (after (ahead_path path n) (put (after (ahead a n) held)))
  ahead_settings (setting p path q a t ss) n = put (after (ahead_path path n) (put (after (ahead a n) (put (after (ahead_settings ss n) held)))))

  ahead_path : (path : Path) (n : ℕ) → Ahead (counts_path n path)
  ahead_path path_end n = held
  ahead_path (index p xs q path) n = put (after (ahead_all xs (n + 1)) (put (after ((ahead_path path n)) held)))
  ahead_path (at_field p f path) n = put (put (after (ahead_path path n) held))

  ahead_bullets : (bs : Bullets) (n : ℕ) → Ahead (counts_bullets n bs)
  ahead_bullets (last_bullet p a) n = put (after (ahead a (n + 1)) held)
  ahead_bullets (bullet p a bs) n = put (after (ahead a (n + 1)) (after (ahead_bullets bs (n + 1)) held))

  ahead_arms : (xs : Arms) (n : ℕ) → Ahead (counts_arms n xs)
  ahead_arms (last_arm a p b) n = after (ahead a n) (put (after (ahead b n) held))
  ahead_arms (other_arm a p b q s t c) n = after (ahead a n) (put (after (ahead b n) (put (put (put (after (ahead c n) held))))))
  ahead_arms (arm a p b q xs) n = after (ahead a n) (put (after (ahead b n) (put (after (ahead_arms xs n) held))))

  ahead_locals : (ls : Locals) (n : ℕ) → Ahead (counts_locals n ls)
  ahead_locals (last_local p x q a) n = put (put (after (ahead a n) held))
  ahead_locals (more_locals p x q a ls) n = put (put (after (ahead a n) (after (ahead_locals ls n) held)))
