-- What an expression keeps of the tokens after it: any property that each of its tokens keeps, given that an operand comes after a sign and after a colon.
use Rattle.std.proofs.Common.{◌≡◌, Bool, true, false, List, [], ◌∷◌, refl}
use Rattle.tla_tree.specs.declared.op.Op.{Op}
use Rattle.tla_tree.specs.declared.op.Op.TheVariants as op
use Rattle.tla_tree.specs.Lexical.{Mark, TokenView, Token, sign_of}
use Rattle.tla_tree.specs.Lexical as tk
use Rattle.tla_tree.specs.Spelling.{Field, Phrase, number, string, constant, name, primed, call, brackets, no_set, set_of, filter, image, no_tuple, tuple, fields, records, function, functions, except, apply, select, list, quantified, if_then_else, cases, local, infix_of, prefix_of}
use Rattle.tla_tree.specs.Spelling.{Phrases, last, more, Binds, last_bind, bind, share, Fields, last_field, field, Settings, last_setting, setting, Path, path_end, index, at_field, Bullets, last_bullet, bullet, Arms, last_arm, other_arm, arm, Locals, last_local, more_locals}
use Rattle.tla_tree.specs.Spelling.{mark, sign, field_token, spell, spell_all, spell_binds, spell_fields, spell_settings, spell_path, spell_bullets, spell_arms, spell_locals}

-- in no expression it comes before a semicolon or a reserved word
abbrev pub needs : TokenView → Bool
needs (tk.sign o) = true
needs (tk.mark tk.assigns) = true
needs (tk.mark tk.colon) = true
needs k = false

-- a phrase can begin with it
abbrev pub is_first : TokenView → Bool
is_first (tk.mark tk.semicolon) = false
is_first (tk.reserved w) = false
is_first k = true

abbrev pub begins_phrase : List Token → Bool
begins_phrase [] = true
begins_phrase (t ∷ ts) = is_first t.kind

-- the property H is kept by the tokens of expressions
pub record Kept (H : List Token → Type 0) : Type 0 where
  pub plain : (t : Token) (ts : List Token) → needs t.kind ≡ false → H ts → H (t ∷ ts)
  pub before_phrase : (t : Token) (ts : List Token) → begins_phrase ts ≡ true → H ts → H (t ∷ ts)

-- these tokens, put before those that come, keep it
pub record Keeps (H : List Token → Type 0) (x : List Token → List Token) : Type 0 where
  pub keeps : (ts : List Token) → H ts → H (x ts)

sign_begins : (o : Op) → is_first (sign_of o) ≡ true
sign_begins op.Negate = refl
sign_begins o = refl

field_plain : (f : Field) → needs (tk.field_kind f.is_reserved f.text) ≡ false
field_plain f = by f.is_reserved
  where
    by : (b : Bool) → needs (tk.field_kind b f.text) ≡ false
    by true = refl
    by false = refl

mutual
  pub phrase_begins : (x : Phrase) (ts : List Token) → begins_phrase (spell x ts) ≡ true
  phrase_begins (number p n) ts = refl
  phrase_begins (string p x) ts = refl
  phrase_begins (constant p c) ts = refl
  phrase_begins (name p x) ts = refl
  phrase_begins (primed p x q) ts = refl
  phrase_begins (call p x q xs r) ts = refl
  phrase_begins (brackets p a q) ts = refl
  phrase_begins (no_set p q) ts = refl
  phrase_begins (set_of p xs q) ts = refl
  phrase_begins (filter p q x r s t a u) ts = refl
  phrase_begins (image p a q bs r) ts = refl
  phrase_begins (no_tuple p q) ts = refl
  phrase_begins (tuple p xs q) ts = refl
  phrase_begins (fields p fs q) ts = refl
  phrase_begins (records p fs q) ts = refl
  phrase_begins (function p bs q a r) ts = refl
  phrase_begins (functions p a q b r) ts = refl
  phrase_begins (except p a q ss r) ts = refl
  phrase_begins (apply a p xs q) ts = phrase_begins a (mark p tk.open_square (spell_all xs (mark q tk.close_square ts)))
  phrase_begins (select a p f) ts = phrase_begins a (mark p tk.dot (field_token f ts))
  phrase_begins (list o bs) ts = bullets_begin o bs ts
  phrase_begins (quantified b p bs q a) ts = refl
  phrase_begins (if_then_else p a q b r c) ts = refl
  phrase_begins (cases p xs) ts = refl
  phrase_begins (local p ls q a) ts = refl
  phrase_begins (infix_of a p o b) ts = phrase_begins a (sign p o (spell b ts))
  phrase_begins (prefix_of p o a) ts = sign_begins o

  pub binds_begin : (x : Binds) (ts : List Token) → begins_phrase (spell_binds x ts) ≡ true
  binds_begin (last_bind p x q a) ts = refl
  binds_begin (bind p x q a r bs) ts = refl
  binds_begin (share p x q bs) ts = refl

  pub bullets_begin : (o : Op) (x : Bullets) (ts : List Token) → begins_phrase (spell_bullets o x ts) ≡ true
  bullets_begin o (last_bullet p a) ts = sign_begins o
  bullets_begin o (bullet p a bs) ts = sign_begins o

pub held : {H : List Token → Type 0} → Keeps H (λ v. v)
held = record { keeps = λ ts h. h }

pub put : {H : List Token → Type 0} {t : Token} {x : List Token → List Token} → Kept H → needs t.kind ≡ false → Keeps H x → Keeps H (λ v. t ∷ x v)
put {t} {x} l e k = record { keeps = λ ts h. l.plain t (x ts) e (k.keeps ts h) }

pub both : {H : List Token → Type 0} {f x : List Token → List Token} → Keeps H f → Keeps H x → Keeps H (λ v. f (x v))
both {x} k m = record { keeps = λ ts h. k.keeps (x ts) (m.keeps ts h) }

pub operand : {H : List Token → Type 0} {t : Token} {x : List Token → List Token} → Kept H → (a : Phrase) → Keeps H (spell a) → Keeps H x → Keeps H (λ v. t ∷ spell a (x v))
operand {t} {x} l a k m = record { keeps = λ ts h. l.before_phrase t (spell a (x ts)) (phrase_begins a (x ts)) (k.keeps (x ts) (m.keeps ts h)) }

binds_after : {H : List Token → Type 0} {t : Token} {x : List Token → List Token} → Kept H → (bs : Binds) → Keeps H (spell_binds bs) → Keeps H x → Keeps H (λ v. t ∷ spell_binds bs (x v))
binds_after {t} {x} l bs k m = record { keeps = λ ts h. l.before_phrase t (spell_binds bs (x ts)) (binds_begin bs (x ts)) (k.keeps (x ts) (m.keeps ts h)) }

mutual
  pub keep : {H : List Token → Type 0} → Kept H → (a : Phrase) → Keeps H (spell a)
  keep l (number p n) = put l refl held
  keep l (string p x) = put l refl held
  keep l (constant p c) = put l refl held
  keep l (name p x) = put l refl held
  keep l (primed p x q) = put l refl (put l refl held)
  keep l (call p x q xs r) = put l refl (put l refl (both (keep_all l xs) (put l refl held)))
  keep l (brackets p a q) = put l refl (both (keep l a) (put l refl held))
  keep l (no_set p q) = put l refl (put l refl held)
  keep l (set_of p xs q) = put l refl (both (keep_all l xs) (put l refl held))
  keep l (filter p q x r s t a u) = put l refl (put l refl (operand l s (keep l s) (operand l a (keep l a) (put l refl held))))
  keep l (image p a q bs r) = put l refl (both (keep l a) (binds_after l bs (keep_binds l bs) (put l refl held)))
  keep l (no_tuple p q) = put l refl (put l refl held)
  keep l (tuple p xs q) = put l refl (both (keep_all l xs) (put l refl held))
  keep l (fields p fs q) = put l refl (both (keep_fields l tk.maps fs) (put l refl held))
  keep l (records p fs q) = put l refl (both (keep_fields l tk.colon fs) (put l refl held))
  keep l (function p bs q a r) = put l refl (both (keep_binds l bs) (put l refl (both (keep l a) (put l refl held))))
  keep l (functions p a q b r) = put l refl (both (keep l a) (put l refl (both (keep l b) (put l refl held))))
  keep l (except p a q ss r) = put l refl (both (keep l a) (put l refl (both (keep_settings l ss) (put l refl held))))
  keep l (apply a p xs q) = both (keep l a) (put l refl (both (keep_all l xs) (put l refl held)))
  keep l (select a p f) = both (keep l a) (put l refl (put l (field_plain f) held))
  keep l (list o bs) = both (keep_bullets l o bs) held
  keep l (quantified b p bs q a) = put l refl (both (keep_binds l bs) (operand l a (keep l a) held))
  keep l (if_then_else p a q b r c) = put l refl (both (keep l a) (put l refl (both (keep l b) (put l refl (both (keep l c) held)))))
  keep l (cases p xs) = put l refl (both (keep_arms l xs) held)
  keep l (local p ls q a) = put l refl (both (keep_locals l ls) (put l refl (both (keep l a) held)))
  keep l (infix_of a p o b) = both (keep l a) (operand l b (keep l b) held)
  keep l (prefix_of p o a) = operand l a (keep l a) held

  pub keep_all : {H : List Token → Type 0} → Kept H → (xs : Phrases) → Keeps H (spell_all xs)
  keep_all l (last a) = both (keep l a) held
  keep_all l (more a p xs) = both (keep l a) (put l refl (both (keep_all l xs) held))

  pub keep_binds : {H : List Token → Type 0} → Kept H → (bs : Binds) → Keeps H (spell_binds bs)
  keep_binds l (last_bind p x q a) = put l refl (operand l a (keep l a) held)
  keep_binds l (bind p x q a r bs) = put l refl (operand l a (keep l a) (put l refl (both (keep_binds l bs) held)))
  keep_binds l (share p x q bs) = put l refl (put l refl (both (keep_binds l bs) held))

  pub keep_fields : {H : List Token → Type 0} → Kept H → (m : Mark) (fs : Fields) → Keeps H (spell_fields m fs)
  keep_fields l m (last_field f p a) = put l (field_plain f) (operand l a (keep l a) held)
  keep_fields l m (field f p a q fs) = put l (field_plain f) (operand l a (keep l a) (put l refl (both (keep_fields l m fs) held)))

  pub keep_settings : {H : List Token → Type 0} → Kept H → (ss : Settings) → Keeps H (spell_settings ss)
  keep_settings l (last_setting p path q a) = put l refl (both (keep_path l path) (operand l a (keep l a) held))
  keep_settings l (setting p path q a r ss) = put l refl (both (keep_path l path) (operand l a (keep l a) (put l refl (both (keep_settings l ss) held))))

  pub keep_path : {H : List Token → Type 0} → Kept H → (path : Path) → Keeps H (spell_path path)
  keep_path l path_end = held
  keep_path l (index p xs q path) = put l refl (both (keep_all l xs) (put l refl (both (keep_path l path) held)))
  keep_path l (at_field p f path) = put l refl (put l (field_plain f) (both (keep_path l path) held))

  pub keep_bullets : {H : List Token → Type 0} → Kept H → (o : Op) (bs : Bullets) → Keeps H (spell_bullets o bs)
  keep_bullets l o (last_bullet p a) = operand l a (keep l a) held
  keep_bullets l o (bullet p a bs) = operand l a (keep l a) (both (keep_bullets l o bs) held)

  pub keep_arms : {H : List Token → Type 0} → Kept H → (xs : Arms) → Keeps H (spell_arms xs)
  keep_arms l (last_arm a p b) = both (keep l a) (put l refl (both (keep l b) held))
  keep_arms l (other_arm a p b q r s c) = both (keep l a) (put l refl (both (keep l b) (put l refl (put l refl (put l refl (both (keep l c) held))))))
  keep_arms l (arm a p b q xs) = both (keep l a) (put l refl (both (keep l b) (put l refl (both (keep_arms l xs) held))))

  pub keep_locals : {H : List Token → Type 0} → Kept H → (ls : Locals) → Keeps H (spell_locals ls)
  keep_locals l (last_local p x q a) = put l refl (put l refl (both (keep l a) held))
  keep_locals l (more_locals p x q a ls) = put l refl (put l refl (both (keep l a) (both (keep_locals l ls) held)))
