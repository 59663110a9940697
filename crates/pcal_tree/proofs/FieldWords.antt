-- In an expression a reserved word is the name of a field alone, right behind a dot, a comma or an open square bracket, and none of these three is its last token.
use Rattle.std.proofs.Common.{◌≡◌, Bool, true, false, List, [], ◌∷◌, refl, sym, subst}
use Rattle.tla_token.specs.declared.place.Place.{Place}
use Rattle.tla_tree.specs.declared.op.Op.{Op}
use Rattle.tla_tree.specs.declared.op.Op.TheVariants as op
use Rattle.tla_tree.specs.Lexical.{Mark, TokenView, Token, token, sign_of, field_kind}
use Rattle.tla_tree.specs.Lexical as tk
use Rattle.tla_tree.specs.Spelling.{Field, Phrase, number, string, constant, name, primed, call, brackets, no_set, set_of, filter, image, no_tuple, tuple, fields, records, function, functions, except, apply, select, list, quantified, if_then_else, cases, local, infix_of, prefix_of}
use Rattle.tla_tree.specs.Spelling.{Phrases, last, more, Binds, last_bind, bind, share, Fields, last_field, field, Settings, last_setting, setting, Path, path_end, index, at_field, Bullets, last_bullet, bullet, Arms, last_arm, other_arm, arm, Locals, last_local, more_locals}
use Rattle.tla_tree.specs.Spelling.{spell, spell_all, spell_binds, spell_fields, spell_settings, spell_path, spell_bullets, spell_arms, spell_locals}

-- the name of a field may come right after it
abbrev pub introduces : TokenView → Bool
introduces (tk.mark tk.dot) = true
introduces (tk.mark tk.comma) = true
introduces (tk.mark tk.open_square) = true
introduces k = false

-- right after such a token, with true, it may stand
abbrev pub fits : TokenView → Bool → Bool
fits (tk.reserved w) b = b
fits k b = true

abbrev pub Named : Bool → List Token → Type 0
Named b [] = b ≡ false
Named b (t ∷ ts) = (fits t.kind b ≡ true) × Named (introduces t.kind) ts

-- these tokens, put before those that come, are named so
pub record Names (b : Bool) (x : List Token → List Token) : Type 0 where
  pub named : (ts : List Token) → Named false ts → Named b (x ts)

held : Names false (λ v. v)
held = record { named = λ ts h. h }

put : {b : Bool} {t : Token} {x : List Token → List Token} → fits t.kind b ≡ true → Names (introduces t.kind) x → Names b (λ v. t ∷ x v)
put e k = record { named = λ ts h. (e, k.named ts h) }

both : {b : Bool} {f x : List Token → List Token} → Names b f → Names false x → Names b (λ v. f (x v))
both {x} k m = record { named = λ ts h. k.named (x ts) (m.named ts h) }

sign_fits : (o : Op) (b : Bool) → fits (sign_of o) b ≡ true
sign_fits op.Negate b = refl
sign_fits o b = refl

sign_introduces : (o : Op) → introduces (sign_of o) ≡ false
sign_introduces op.Negate = refl
sign_introduces o = refl

field_fits : (b : Bool) (f : Field) → fits (field_kind b f.text) true ≡ true
field_fits true f = refl
field_fits false f = refl

field_introduces : (b : Bool) (f : Field) → introduces (field_kind b f.text) ≡ false
field_introduces true f = refl
field_introduces false f = refl

put_sign : {b : Bool} {p : Place} {x : List Token → List Token} → (o : Op) → Names false x → Names b (λ v. token p (sign_of o) ∷ x v)
put_sign {b} {x} o k = record { named = λ ts h. (sign_fits o b, subst (λ (c : Bool). Named c (x ts)) (sym (sign_introduces o)) (k.named ts h)) }

put_field : {x : List Token → List Token} → (f : Field) → Names false x → Names true (λ v. token f.place (field_kind f.is_reserved f.text) ∷ x v)
put_field {x} f k = record { named = λ ts h. (field_fits f.is_reserved f, subst (λ (c : Bool). Named c (x ts)) (sym (field_introduces f.is_reserved f)) (k.named ts h)) }

mutual
  pub named_one : {b : Bool} → (a : Phrase) → Names b (spell a)
  named_one (number p n) = put refl held
  named_one (string p x) = put refl held
  named_one (constant p c) = put refl held
  named_one (name p x) = put refl held
  named_one (primed p x q) = put refl (put refl held)
  named_one (call p x q xs r) = put refl (put refl (both (named_all xs) (put refl held)))
  named_one (brackets p a q) = put refl (both (named_one a) (put refl held))
  named_one (no_set p q) = put refl (put refl held)
  named_one (set_of p xs q) = put refl (both (named_all xs) (put refl held))
  named_one (filter p q x r s t a u) = put refl (put refl (put refl (both (named_one s) (put refl (both (named_one a) (put refl held))))))
  named_one (image p a q bs r) = put refl (both (named_one a) (put refl (both (named_binds bs) (put refl held))))
  named_one (no_tuple p q) = put refl (put refl held)
  named_one (tuple p xs q) = put refl (both (named_all xs) (put refl held))
  named_one (fields p fs q) = put refl (both (named_fields tk.maps fs) (put refl held))
  named_one (records p fs q) = put refl (both (named_fields tk.colon fs) (put refl held))
  named_one (function p bs q a r) = put refl (both (named_binds bs) (put refl (both (named_one a) (put refl held))))
  named_one (functions p a q b r) = put refl (both (named_one a) (put refl (both (named_one b) (put refl held))))
  named_one (except p a q ss r) = put refl (both (named_one a) (put refl (both (named_settings ss) (put refl held))))
  named_one (apply a p xs q) = both (named_one a) (put refl (both (named_all xs) (put refl held)))
  named_one (select a p f) = both (named_one a) (put refl (put_field f held))
  named_one (list o bs) = both (named_bullets o bs) held
  named_one (quantified b p bs q a) = put refl (both (named_binds bs) (put refl (both (named_one a) held)))
  named_one (if_then_else p a q b r c) = put refl (both (named_one a) (put refl (both (named_one b) (put refl (both (named_one c) held)))))
  named_one (cases p xs) = put refl (both (named_arms xs) held)
  named_one (local p ls q a) = put refl (both (named_locals ls) (put refl (both (named_one a) held)))
  named_one (infix_of a p o b) = both (named_one a) (put_sign o (both (named_one b) held))
  named_one (prefix_of p o a) = put_sign o (both (named_one a) held)

  pub named_all : {b : Bool} → (xs : Phrases) → Names b (spell_all xs)
  named_all (last a) = both (named_one a) held
  named_all (more a p xs) = both (named_one a) (put refl (both (named_all xs) held))

  named_binds : {b : Bool} → (bs : Binds) → Names b (spell_binds bs)
  named_binds (last_bind p x q a) = put refl (put refl (both (named_one a) held))
  named_binds (bind p x q a r bs) = put refl (put refl (both (named_one a) (put refl (both (named_binds bs) held))))
  named_binds (share p x q bs) = put refl (put refl (both (named_binds bs) held))

  named_fields : (m : Mark) (fs : Fields) → Names true (spell_fields m fs)
  named_fields m (last_field f p a) = put_field f (put refl (both (named_one a) held))
  named_fields m (field f p a q fs) = put_field f (put refl (both (named_one a) (put refl (both (named_fields m fs) held))))

  named_settings : {b : Bool} → (ss : Settings) → Names b (spell_settings ss)
  named_settings (last_setting p path q a) = put refl (both (named_path path) (put refl (both (named_one a) held)))
  named_settings (setting p path q a r ss) = put refl (both (named_path path) (put refl (both (named_one a) (put refl (both (named_settings ss) held)))))

  named_path : (path : Path) → Names false (spell_path path)
  named_path path_end = held
  named_path (index p xs q path) = put refl (both (named_all xs) (put refl (both (named_path path) held)))
  named_path (at_field p f path) = put refl (put_field f (both (named_path path) held))

  named_bullets : {b : Bool} → (o : Op) (bs : Bullets) → Names b (spell_bullets o bs)
  named_bullets o (last_bullet p a) = put_sign o (both (named_one a) held)
  named_bullets o (bullet p a bs) = put_sign o (both (named_one a) (both (named_bullets o bs) held))

  named_arms : {b : Bool} → (xs : Arms) → Names b (spell_arms xs)
  named_arms (last_arm a p b) = both (named_one a) (put refl (both (named_one b) held))
  named_arms (other_arm a p b q r s c) = both (named_one a) (put refl (both (named_one b) (put refl (put refl (put refl (both (named_one c) held))))))
  named_arms (arm a p b q xs) = both (named_one a) (put refl (both (named_one b) (put refl (both (named_arms xs) held))))

  named_locals : {b : Bool} → (ls : Locals) → Names b (spell_locals ls)
  named_locals (last_local p x q a) = put refl (put refl (both (named_one a) held))
  named_locals (more_locals p x q a ls) = put refl (put refl (both (named_one a) (both (named_locals ls) held)))
