-- No expression holds a word of TLA+ or a sign that is left out, and `!` stands before a path alone.
use Rattle.std.proofs.Common.{◌≡◌, ℕ, Bool, true, false, List, [], ◌∷◌, refl}
use Rattle.tla_tree.specs.declared.op.Op.{Op}
use Rattle.tla_tree.specs.declared.op.Op.TheVariants as op
use Rattle.tla_tree.specs.Lexical.{Mark, TokenView, Token, sign_of, field_kind}
use Rattle.tla_tree.specs.Lexical as tk
use Rattle.tla_tree.specs.Spelling.{Good, GoodAll, GoodBinds, GoodFields, GoodSettings, GoodPath, GoodBullets, GoodArms, GoodLocals, is_some_path, first_bullet, Field, Phrase, Phrases, Binds, Fields, Settings, Path, Bullets, Arms, Locals, number, string, constant, name, primed, call, brackets, no_set, set_of, filter, image, no_tuple, tuple, fields, records, function, functions, except, apply, select, list, quantified, if_then_else, cases, local, infix_of, prefix_of, last, more, last_bind, bind, share, last_field, field, last_setting, setting, path_end, index, at_field, last_bullet, bullet, last_arm, other_arm, arm, last_local, more_locals, mark, key, sign, word, field_token, spell, spell_all, spell_binds, spell_fields, spell_settings, spell_path, spell_bullets, spell_arms, spell_locals}

-- ---- tokens that may stand in an algorithm

abbrev at_path : TokenView → Bool
at_path (tk.mark tk.open_square) = true
at_path (tk.mark tk.dot) = true
at_path k = false

abbrev pub is_path : List Token → Bool
is_path [] = false
is_path (t ∷ ts) = at_path t.kind

-- before others
abbrev pub Fits : TokenView → List Token → Type 0
Fits (tk.other w) ts = ⊥
Fits (tk.mark tk.bang) ts = is_path ts ≡ true
Fits k ts = Unit {0}

abbrev pub Clean : List Token → Type 0
Clean [] = Unit {0}
Clean (t ∷ ts) = Fits t.kind ts × Clean ts

pub sign_fits : (o : Op) (ts : List Token) → Fits (sign_of o) ts
sign_fits op.Negate ts = tt
sign_fits o ts = tt

field_fits : (f : Field) (ts : List Token) → Fits (field_kind f.is_reserved f.text) ts
field_fits f ts = by f.is_reserved
  where
    by : (b : Bool) → Fits (field_kind b f.text) ts
    by true = tt
    by false = tt

path_fits : (x : Path) → is_some_path x ≡ true → (ts : List Token) → is_path (spell_path x ts) ≡ true
path_fits path_end h ts = absurd cc
path_fits (index p xs q path) h ts = refl
path_fits (at_field p f path) h ts = refl

-- ---- expressions

mutual
  pub clean : (e : ℕ) (a : Phrase) (ts : List Token) → Good e a → Clean ts → Clean (spell a ts)
  clean e (number p n) ts g k = (tt, k)
  clean e (string p x) ts g k = (tt, k)
  clean e (constant p c) ts g k = (tt, k)
  clean e (name p x) ts g k = (tt, k)
  clean e (primed p x q) ts g k = (tt, (tt, k))
  clean e (call p x q xs r) ts g k = (tt, (tt, all_clean e xs (mark r tk.close_bracket ts) g.2 (tt, k)))
  clean e (brackets p a q) ts g k = (tt, clean e a (mark q tk.close_bracket ts) g.1 (tt, k))
  clean e (no_set p q) ts g k = (tt, (tt, k))
  clean e (set_of p xs q) ts g k = (tt, all_clean e xs (mark q tk.close_brace ts) g.1 (tt, k))
  clean e (filter p q x r s t a u) ts g k = (tt, (tt, (tt, clean e s (mark t tk.colon (spell a (mark u tk.close_brace ts))) g.3 (tt, clean e a (mark u tk.close_brace ts) g.5 (tt, k)))))
  clean e (image p a q bs r) ts g k = (tt, clean e a (mark q tk.colon (spell_binds bs (mark r tk.close_brace ts))) g.1 (tt, bind_clean e bs (mark r tk.close_brace ts) g.3 (tt, k)))
  clean e (no_tuple p q) ts g k = (tt, (tt, k))
  clean e (tuple p xs q) ts g k = (tt, all_clean e xs (mark q tk.close_tuple ts) g.1 (tt, k))
  clean e (fields p fs q) ts g k = (tt, field_clean e tk.maps (λ ts. tt) fs (mark q tk.close_square ts) g.1 (tt, k))
  clean e (records p fs q) ts g k = (tt, field_clean e tk.colon (λ ts. tt) fs (mark q tk.close_square ts) g.1 (tt, k))
  clean e (function p bs q a r) ts g k = (tt, bind_clean e bs (mark q tk.maps (spell a (mark r tk.close_square ts))) g.1 (tt, clean e a (mark r tk.close_square ts) g.3 (tt, k)))
  clean e (functions p a q b r) ts g k = (tt, clean e a (mark q tk.arrow (spell b (mark r tk.close_square ts))) g.1 (tt, clean e b (mark r tk.close_square ts) g.3 (tt, k)))
  clean e (except p a q ss r) ts g k = (tt, clean e a (key q tk.except_key (spell_settings ss (mark r tk.close_square ts))) g.1 (tt, setting_clean e ss (mark r tk.close_square ts) g.3 (tt, k)))
  clean e (apply a p xs q) ts g k = clean e a (mark p tk.open_square (spell_all xs (mark q tk.close_square ts))) g.0 (tt, all_clean e xs (mark q tk.close_square ts) g.3 (tt, k))
  clean e (select a p f) ts g k = clean e a (mark p tk.dot (field_token f ts)) g.0 (tt, (field_fits f ts, k))
  clean e (list o bs) ts g k = bullet_clean (first_bullet bs).col o bs ts g.2 k
  clean e (quantified b p bs q a) ts g k = (tt, bind_clean e bs (mark q tk.colon (spell a ts)) g.1 (tt, clean e a ts g.3 k))
  clean e (if_then_else p a q b r c) ts g k = (tt, clean e a (key q tk.then_key (spell b (key r tk.else_key (spell c ts)))) g.1 (tt, clean e b (key r tk.else_key (spell c ts)) g.3 (tt, clean e c ts g.5 k)))
  clean e (cases p xs) ts g k = (tt, arm_clean e xs ts g.1 k)
  clean e (local p ls q a) ts g k = (tt, local_clean e ls (key q tk.in_key (spell a ts)) g.1 (tt, clean e a ts g.3 k))
  clean e (infix_of a p o b) ts g k = clean e a (sign p o (spell b ts)) g.3 (sign_fits o (spell b ts), clean e b ts g.5 k)
  clean e (prefix_of p o a) ts g k = (sign_fits o (spell a ts), clean e a ts g.3 k)

  pub all_clean : (e : ℕ) (a : Phrases) (ts : List Token) → GoodAll e a → Clean ts → Clean (spell_all a ts)
  all_clean e (last a) ts g k = clean e a ts g k
  all_clean e (more a p xs) ts g k = clean e a (mark p tk.comma (spell_all xs ts)) g.0 (tt, all_clean e xs ts g.2 k)

  bind_clean : (e : ℕ) (a : Binds) (ts : List Token) → GoodBinds e a → Clean ts → Clean (spell_binds a ts)
  bind_clean e (last_bind p x q a) ts g k = (tt, (tt, clean e a ts g.2 k))
  bind_clean e (bind p x q a r bs) ts g k = (tt, (tt, clean e a (mark r tk.comma (spell_binds bs ts)) g.2 (tt, bind_clean e bs ts g.4 k)))
  bind_clean e (share p x q bs) ts g k = (tt, (tt, bind_clean e bs ts g.2 k))

  field_clean : (e : ℕ) (m : Mark) → ((ts : List Token) → Fits (tk.mark m) ts) → (a : Fields) (ts : List Token) → GoodFields e a → Clean ts → Clean (spell_fields m a ts)
  field_clean e m w (last_field f p a) ts g k = (field_fits f (mark p m (spell a ts)), (w (spell a ts), clean e a ts g.2 k))
  field_clean e m w (field f p a q fs) ts g k = (field_fits f (mark p m (spell a (mark q tk.comma (spell_fields m fs ts)))), (w (spell a (mark q tk.comma (spell_fields m fs ts))), clean e a (mark q tk.comma (spell_fields m fs ts)) g.2 (tt, field_clean e m w fs ts g.4 k)))

  setting_clean : (e : ℕ) (a : Settings) (ts : List Token) → GoodSettings e a → Clean ts → Clean (spell_settings a ts)
  setting_clean e (last_setting p path q a) ts g k = (path_fits path g.1 (sign q op.Equal (spell a ts)), path_clean e path (sign q op.Equal (spell a ts)) g.2 (tt, clean e a ts g.4 k))
  setting_clean e (setting p path q a r ss) ts g k = (path_fits path g.1 (sign q op.Equal (spell a (mark r tk.comma (spell_settings ss ts)))), path_clean e path (sign q op.Equal (spell a (mark r tk.comma (spell_settings ss ts)))) g.2 (tt, clean e a (mark r tk.comma (spell_settings ss ts)) g.4 (tt, setting_clean e ss ts g.6 k)))

  path_clean : (e : ℕ) (a : Path) (ts : List Token) → GoodPath e a → Clean ts → Clean (spell_path a ts)
  path_clean e path_end ts g k = k
  path_clean e (index p xs q path) ts g k = (tt, all_clean e xs (mark q tk.close_square (spell_path path ts)) g.1 (tt, path_clean e path ts g.3 k))
  path_clean e (at_field p f path) ts g k = (tt, (field_fits f (spell_path path ts), path_clean e path ts g.2 k))

  bullet_clean : (c : ℕ) (o : Op) (a : Bullets) (ts : List Token) → GoodBullets c a → Clean ts → Clean (spell_bullets o a ts)
  bullet_clean c o (last_bullet p a) ts g k = (sign_fits o (spell a ts), clean c a ts g.1 k)
  bullet_clean c o (bullet p a bs) ts g k = (sign_fits o (spell a (spell_bullets o bs ts)), clean c a (spell_bullets o bs ts) g.1 (bullet_clean c o bs ts g.2 k))

  arm_clean : (e : ℕ) (a : Arms) (ts : List Token) → GoodArms e a → Clean ts → Clean (spell_arms a ts)
  arm_clean e (last_arm a p b) ts g k = clean e a (mark p tk.arrow (spell b ts)) g.0 (tt, clean e b ts g.2 k)
  arm_clean e (other_arm a p b q r s c) ts g k = clean e a (mark p tk.arrow (spell b (mark q tk.box (key r tk.other_key (mark s tk.arrow (spell c ts)))))) g.0 (tt, clean e b (mark q tk.box (key r tk.other_key (mark s tk.arrow (spell c ts)))) g.2 (tt, (tt, (tt, clean e c ts g.7 k))))
  arm_clean e (arm a p b q xs) ts g k = clean e a (mark p tk.arrow (spell b (mark q tk.box (spell_arms xs ts)))) g.0 (tt, clean e b (mark q tk.box (spell_arms xs ts)) g.2 (tt, arm_clean e xs ts g.5 k))

  local_clean : (e : ℕ) (a : Locals) (ts : List Token) → GoodLocals e a → Clean ts → Clean (spell_locals a ts)
  local_clean e (last_local p x q a) ts g k = (tt, (tt, clean e a ts g.2 k))
  local_clean e (more_locals p x q a ls) ts g k = (tt, (tt, clean e a (spell_locals ls ts) g.2 (local_clean e ls ts g.3 k)))
