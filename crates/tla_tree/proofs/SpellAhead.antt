-- The tokens of a phrase stand before those that come: what spells them gives its tokens before the rest, whatever that is.
use Rattle.std.proofs.Common.{◌≡◌, List, ◌∷◌, ◌++◌, refl, ap, ◌∙◌}
use Rattle.tla_tree.specs.declared.op.Op.{Op}
use Rattle.tla_tree.specs.Lexical.{Mark}
use Rattle.tla_tree.specs.Lexical as tk
use Rattle.tla_tree.specs.Spelling.{Phrase, number, string, constant, name, primed, call, brackets, no_set, set_of, filter, image, no_tuple, tuple, fields, records, function, functions, except, apply, select, list, quantified, if_then_else, cases, local, infix_of, prefix_of}
use Rattle.tla_tree.specs.Spelling.{Phrases, last, more, Binds, last_bind, bind, share, Fields, last_field, field, Settings, last_setting, setting, Path, path_end, index, at_field, Bullets, last_bullet, bullet, Arms, last_arm, other_arm, arm, Locals, last_local, more_locals}
use Rattle.tla_tree.specs.Spelling.{spell, spell_all, spell_binds, spell_fields, spell_settings, spell_path, spell_bullets, spell_arms, spell_locals}

-- tokens are put before those that come
pub record Ahead {A : Type 0} (x : List A → List A) : Type 0 where
  pub is : (v w : List A) → x (v ++ w) ≡ x v ++ w

pub held : {A : Type 0} → Ahead (λ (v : List A). v)
held = record { is = λ v w. refl }

pub put_ahead : {A : Type 0} {t : A} {x : List A → List A} → Ahead x → Ahead (λ v. t ∷ x v)
put_ahead {A} {t} {x} h = record { is = λ v w. ap (λ (u : List A). t ∷ u) (h.is v w) }

pub then_ahead : {A : Type 0} {f x : List A → List A} → Ahead f → Ahead x → Ahead (λ v. f (x v))
then_ahead {A} {f} {x} g h = record { is = λ v w. ap f (h.is v w) ∙ g.is (x v) w }

mutual
  pub ahead : (a : Phrase) → Ahead (spell a)
  ahead (number p n) = put_ahead held
  ahead (string p x) = put_ahead held
  ahead (constant p c) = put_ahead held
  ahead (name p x) = put_ahead held
  ahead (primed p x q) = put_ahead (put_ahead held)
  ahead (call p x q xs r) = put_ahead (put_ahead (then_ahead (ahead_all xs) (put_ahead held)))
  ahead (brackets p a q) = put_ahead (then_ahead (ahead a) (put_ahead held))
  ahead (no_set p q) = put_ahead (put_ahead held)
  ahead (set_of p xs q) = put_ahead (then_ahead (ahead_all xs) (put_ahead held))
  ahead (filter p q x r s t a u) = put_ahead (put_ahead (put_ahead (then_ahead (ahead s) (put_ahead (then_ahead (ahead a) (put_ahead held))))))
  ahead (image p a q bs r) = put_ahead (then_ahead (ahead a) (put_ahead (then_ahead (ahead_binds bs) (put_ahead held))))
  ahead (no_tuple p q) = put_ahead (put_ahead held)
  ahead (tuple p xs q) = put_ahead (then_ahead (ahead_all xs) (put_ahead held))
  ahead (fields p fs q) = put_ahead (then_ahead (ahead_fields tk.maps fs) (put_ahead held))
  ahead (records p fs q) = put_ahead (then_ahead (ahead_fields tk.colon fs) (put_ahead held))
  ahead (function p bs q a r) = put_ahead (then_ahead (ahead_binds bs) (put_ahead (then_ahead (ahead a) (put_ahead held))))
  ahead (functions p a q b r) = put_ahead (then_ahead (ahead a) (put_ahead (then_ahead (ahead b) (put_ahead held))))
  ahead (except p a q ss r) = put_ahead (then_ahead (ahead a) (put_ahead (then_ahead (ahead_settings ss) (put_ahead held))))
  ahead (apply a p xs q) = then_ahead (ahead a) (put_ahead (then_ahead (ahead_all xs) (put_ahead held)))
  ahead (select a p f) = then_ahead (ahead a) (put_ahead (put_ahead held))
  ahead (list o bs) = then_ahead (ahead_bullets o bs) held
  ahead (quantified b p bs q a) = put_ahead (then_ahead (ahead_binds bs) (put_ahead (then_ahead (ahead a) held)))
  ahead (if_then_else p a q b r c) = put_ahead (then_ahead (ahead a) (put_ahead (then_ahead (ahead b) (put_ahead (then_ahead (ahead c) held)))))
  ahead (cases p xs) = put_ahead (then_ahead (ahead_arms xs) held)
  ahead (local p ls q a) = put_ahead (then_ahead (ahead_locals ls) (put_ahead (then_ahead (ahead a) held)))
  ahead (infix_of a p o b) = then_ahead (ahead a) (put_ahead (then_ahead (ahead b) held))
  ahead (prefix_of p o a) = put_ahead (then_ahead (ahead a) held)

  pub ahead_all : (xs : Phrases) → Ahead (spell_all xs)
  ahead_all (last a) = then_ahead (ahead a) held
  ahead_all (more a p xs) = then_ahead (ahead a) (put_ahead (then_ahead (ahead_all xs) held))

  pub ahead_binds : (bs : Binds) → Ahead (spell_binds bs)
  ahead_binds (last_bind p x q a) = put_ahead (put_ahead (then_ahead (ahead a) held))
  ahead_binds (bind p x q a r bs) = put_ahead (put_ahead (then_ahead (ahead a) (put_ahead (then_ahead (ahead_binds bs) held))))
  ahead_binds (share p x q bs) = put_ahead (put_ahead (then_ahead (ahead_binds bs) held))

  pub ahead_fields : (m : Mark) (fs : Fields) → Ahead (spell_fields m fs)
  ahead_fields m (last_field f p a) = put_ahead (put_ahead (then_ahead (ahead a) held))
  ahead_fields m (field f p a q fs) = put_ahead (put_ahead (then_ahead (ahead a) (put_ahead (then_ahead (ahead_fields m fs) held))))

  pub ahead_settings : (ss : Settings) → Ahead (spell_settings ss)
  ahead_settings (last_setting p path q a) = put_ahead (then_ahead (ahead_path path) (put_ahead (then_ahead (ahead a) held)))
  ahead_settings (setting p path q a r ss) = put_ahead (then_ahead (ahead_path path) (put_ahead (then_ahead (ahead a) (put_ahead (then_ahead (ahead_settings ss) held)))))

  pub ahead_path : (path : Path) → Ahead (spell_path path)
  ahead_path path_end = held
  ahead_path (index p xs q path) = put_ahead (then_ahead (ahead_all xs) (put_ahead (then_ahead (ahead_path path) held)))
  ahead_path (at_field p f path) = put_ahead (put_ahead (then_ahead (ahead_path path) held))

  pub ahead_bullets : (o : Op) (bs : Bullets) → Ahead (spell_bullets o bs)
  ahead_bullets o (last_bullet p a) = put_ahead (then_ahead (ahead a) held)
  ahead_bullets o (bullet p a bs) = put_ahead (then_ahead (ahead a) (then_ahead (ahead_bullets o bs) held))

  pub ahead_arms : (xs : Arms) → Ahead (spell_arms xs)
  ahead_arms (last_arm a p b) = then_ahead (ahead a) (put_ahead (then_ahead (ahead b) held))
  ahead_arms (other_arm a p b q r s c) = then_ahead (ahead a) (put_ahead (then_ahead (ahead b) (put_ahead (put_ahead (put_ahead (then_ahead (ahead c) held))))))
  ahead_arms (arm a p b q xs) = then_ahead (ahead a) (put_ahead (then_ahead (ahead b) (put_ahead (then_ahead (ahead_arms xs) held))))

  pub ahead_locals : (ls : Locals) → Ahead (spell_locals ls)
  ahead_locals (last_local p x q a) = put_ahead (put_ahead (then_ahead (ahead a) held))
  ahead_locals (more_locals p x q a ls) = put_ahead (put_ahead (then_ahead (ahead a) (then_ahead (ahead_locals ls) held)))
