-- What is read is spelled: lists of all kinds, and all readers together.
use Rattle.std.proofs.Common.{◌≡◌, ℕ, zero, suc, ◌*◌, length, nat_eq, Bool, true, false, not, ◌&&◌, List, ◌∷◌, Ok, refl, sym, ap, ◌∙◌, None}
use Rattle.std.proofs.lemmas.Bool.{and_parts, eqb-true}
use Rattle.tla_token.specs.declared.place.Place.{Place}
use Rattle.tla_tree.specs.declared.op.Op.{Op}
use Rattle.tla_tree.specs.declared.op.Op.TheVariants as op
use Rattle.tla_tree.specs.Tree.{Word}
use Rattle.tla_tree.specs.Rank.{is_bullet}
use Rattle.tla_tree.specs.Lexical.{Mark, TokenView, Token, token}
use Rattle.tla_tree.specs.Lexical as tk
use Rattle.tla_tree.specs.Spelling.{Field, Phrase}
use Rattle.tla_tree.specs.Spelling.{Phrases, Binds, Fields, Settings, Path, Bullets, Arms, arm, Locals}
use Rattle.tla_tree.specs.Spelling.{mark, sign, word, field_token, spell, spell_all, spell_fields, spell_settings, spell_path, spell_bullets, spell_arms, spell_locals, Right, Good, GoodAll, GoodFields, GoodSettings, GoodPath, GoodBullets, GoodArms, GoodLocals, first_bullet, is_some_path, takes_box}
use Rattle.tla_tree.specs.Reader.{any, ◌>>=◌, gives, next, tail, take, is_sign, bullet_of, free, Readers, one_step, readers, readers_in, read, phrases_by, binds_by, fields_by, settings_by, setting_if, path_by, bullets_if, arms_other, arms_if, arms_by, locals_by}
use Rattle.tla_tree.specs.Reader as rd
use Rattle.tla_tree.proofs.SoundTokens.{then_ok, given, seen, taken, take_ok, if_some, sign_is, mark_ok, sign_ok, word_ok, field_ok}
use Rattle.tla_tree.proofs.SoundPhrases.{IsGroup, Sound}
use Rattle.tla_tree.proofs.SoundBraces.{bind_rest_sound}
use Rattle.tla_tree.proofs.SoundForms.{bullet_sign, operand_sound, short_sound, postfix_sound, climb_sound}

abbrev IsList : ℕ → List Token → Phrases → List Token → Type 0
IsList e ts xs us = GoodAll e xs × (spell_all xs us ≡ ts)

abbrev AreFields : ℕ → Mark → List Token → Fields → List Token → Type 0
AreFields e m ts fs us = GoodFields e fs × (spell_fields m fs us ≡ ts)

abbrev AreSettings : ℕ → List Token → Settings → List Token → Type 0
AreSettings e ts ss us = GoodSettings e ss × (spell_settings ss us ≡ ts)

abbrev IsPath : ℕ → List Token → Path → List Token → Type 0
IsPath e ts path us = GoodPath e path × (spell_path path us ≡ ts)

abbrev AreBullets : ℕ → Op → ℕ → List Token → Bullets → List Token → Type 0
AreBullets e o c ts bs us = GoodBullets c bs × Right e (first_bullet bs) × (spell_bullets o bs us ≡ ts)

abbrev AreArms : ℕ → List Token → Arms → List Token → Type 0
AreArms e ts xs us = GoodArms e xs × (spell_arms xs us ≡ ts)

abbrev AreLocals : ℕ → List Token → Locals → List Token → Type 0
AreLocals e ts ls us = GoodLocals e ls × (spell_locals ls us ≡ ts)

module _ (r : Readers) (h : Sound r) where
  phrases_sound : (e : ℕ) (a : Phrase) → Good e a → (p : Place) (k : TokenView) (ts : List Token) (xs : Phrases) (us : List Token) → next e ts ≡ token p k → phrases_by r e a p k ts ≡ Ok (xs, us) → IsList e (spell a ts) xs us
  phrases_sound e a g p (tk.mark tk.comma) ts xs us s o =
      let n = seen e ts p (tk.mark tk.comma) s refl in
      let v = then_ok o in
      let w = h.phrases e (tail ts) v.0 v.1 v.2 in
      given (λ d vs. IsList e (spell a ts) d vs) v.3 ((g, n.0, w.0), rw (w.1, n.1) refl)
  phrases_sound e a g p k ts xs us s o = given (λ d vs. IsList e (spell a ts) d vs) o (g, refl)

  binds_sound : (e : ℕ) (p : Place) (x : Word) → Right e p → (q : Place) (k : TokenView) (ts : List Token) (bs : Binds) (us : List Token) → next e ts ≡ token q k → binds_by r e p x q k ts ≡ Ok (bs, us) → IsGroup e (word p x ts) bs us
  binds_sound e p x g q (tk.sign op.In) ts bs us s o =
      let n = seen e ts q (tk.sign op.In) s refl in
      let v = then_ok o in
      let w = h.expr e free (tail ts) v.0 v.1 v.2 in
      let z = bind_rest_sound r h e p x q g n.0 v.0 w.0 (next e v.1).place (next e v.1).kind v.1 bs us refl v.3 in
      (z.0, z.1 ∙ rw (w.2, n.1) refl)
  binds_sound e p x g q (tk.mark tk.comma) ts bs us s o =
      let n = seen e ts q (tk.mark tk.comma) s refl in
      let v = then_ok o in
      let w = word_ok e (tail ts) v.0 v.1 v.2 in
      let u = then_ok v.3 in
      let i = h.binds e v.0.0 v.0.1 w.0 v.1 u.0 u.1 u.2 in
      given (λ d vs. IsGroup e (word p x ts) d vs) u.3 ((g, n.0, i.0), rw (i.1, w.1, n.1) refl)
  binds_sound e p x g q k ts bs us s o = absurd cc

  fields_sound : (e : ℕ) (m : Mark) (f : Field) → Right e f.place → (p : Place) → Right e p → (a : Phrase) → Good e a → (q : Place) (k : TokenView) (ts : List Token) (fs : Fields) (us : List Token) → next e ts ≡ token q k → fields_by r e m f p a q k ts ≡ Ok (fs, us) → AreFields e m (field_token f (mark p m (spell a ts))) fs us
  fields_sound e m f gf p gp a g q (tk.mark tk.comma) ts fs us s o =
      let n = seen e ts q (tk.mark tk.comma) s refl in
      let v = then_ok o in
      let w = field_ok e (tail ts) v.0 v.1 v.2 in
      let u = then_ok v.3 in
      let i = h.fields e m v.0 w.0 v.1 u.0 u.1 u.2 in
      given (λ d vs. AreFields e m (field_token f (mark p m (spell a ts))) d vs) u.3 ((gf, gp, g, n.0, i.0), rw (i.1, w.1, n.1) refl)
  fields_sound e m f gf p gp a g q k ts fs us s o = given (λ d vs. AreFields e m (field_token f (mark p m (spell a ts))) d vs) o ((gf, gp, g), refl)

  settings_sound : (e : ℕ) (p : Place) → Right e p → (path : Path) → is_some_path path ≡ true → GoodPath e path → (q : Place) → Right e q → (a : Phrase) → Good e a → (j : Place) (k : TokenView) (ts : List Token) (ss : Settings) (us : List Token) → next e ts ≡ token j k → settings_by r e p path q a j k ts ≡ Ok (ss, us) → AreSettings e (mark p tk.bang (spell_path path (sign q op.Equal (spell a ts)))) ss us
  settings_sound e p gp path some gpath q gq a g j (tk.mark tk.comma) ts ss us s o =
      let n = seen e ts j (tk.mark tk.comma) s refl in
      let v = then_ok o in
      let w = h.settings e (tail ts) v.0 v.1 v.2 in
      given (λ d vs. AreSettings e (mark p tk.bang (spell_path path (sign q op.Equal (spell a ts)))) d vs) v.3 ((gp, some, gpath, gq, g, n.0, w.0), rw (w.1, n.1) refl)
  settings_sound e p gp path some gpath q gq a g j k ts ss us s o = given (λ d vs. AreSettings e (mark p tk.bang (spell_path path (sign q op.Equal (spell a ts)))) d vs) o ((gp, some, gpath, gq, g), refl)

  setting_sound : (e : ℕ) (p : Place) → Right e p → (path : Path) → GoodPath e path → (ts : List Token) (ss : Settings) (us : List Token) → setting_if (is_some_path path) r e p path ts ≡ Ok (ss, us) → AreSettings e (mark p tk.bang (spell_path path ts)) ss us
  setting_sound e p gp path gpath ts ss us o = by (is_some_path path) refl o
    where
      by : (b : Bool) → is_some_path path ≡ b → setting_if b r e p path ts ≡ Ok (ss, us) → AreSettings e (mark p tk.bang (spell_path path ts)) ss us
      by true some o =
          let v = then_ok o in
          let m = sign_ok e op.Equal ts v.0 v.1 v.2 in
          let u = then_ok v.3 in
          let w = h.expr e free v.1 u.0 u.1 u.2 in
          let z = settings_sound e p gp path some gpath v.0 m.0 u.0 w.0 (next e u.1).place (next e u.1).kind u.1 ss us refl u.3 in
          (z.0, z.1 ∙ rw (w.2, m.1) refl)
      by false some o = absurd cc

  path_sound : (e : ℕ) (p : Place) (k : TokenView) (ts : List Token) (path : Path) (us : List Token) → next e ts ≡ token p k → path_by (any r) r e p k ts ≡ Ok (path, us) → IsPath e ts path us
  path_sound e p (tk.mark tk.open_square) ts path us s o =
      let n = seen e ts p (tk.mark tk.open_square) s refl in
      let v = then_ok o in
      let w = h.phrases e (tail ts) v.0 v.1 v.2 in
      let u = then_ok v.3 in
      let m = mark_ok e tk.close_square v.1 u.0 u.1 u.2 in
      let z = then_ok u.3 in
      let i = h.path e u.1 z.0 z.1 z.2 in
      given (λ d vs. IsPath e ts d vs) z.3 ((n.0, w.0, m.0, i.0), rw (i.1, m.1, w.1, n.1) refl)
  path_sound e p (tk.mark tk.dot) ts path us s o =
      let n = seen e ts p (tk.mark tk.dot) s refl in
      let v = then_ok o in
      let w = field_ok e (tail ts) v.0 v.1 v.2 in
      let z = then_ok v.3 in
      let i = h.path e v.1 z.0 z.1 z.2 in
      given (λ d vs. IsPath e ts d vs) z.3 ((n.0, w.0, i.0), rw (i.1, w.1, n.1) refl)
  path_sound e p k ts path us s o = given (λ d vs. IsPath e ts d vs) o (tt, refl)

  pub bullet_sound : (e : ℕ) (o : Op) (c : ℕ) (ts : List Token) (p : Place) (us : List Token) → take e (bullet_of o c) ts ≡ Ok (p, us) → Right e p × (p.col ≡ c) × (token p (tk.sign o) ∷ us ≡ ts)
  bullet_sound e o c ts p us i =
      let w = take_ok e (bullet_of o c) ts p us i in
      let v = if_some (is_sign o (next e ts).kind && nat_eq c (next e ts).place.col) (next e ts).place p w.0 in
      let x = and_parts (is_sign o (next e ts).kind) (nat_eq c (next e ts).place.col) v.0 in
      let z = taken e ts p (tk.sign o) us (λ j. token (v.1 j) (sign_is o (next e ts).kind x.0 j)) refl w.1 in
      (z.0, ap (λ (q : Place). q.col) (sym v.1) ∙ sym (eqb-true c (next e ts).place.col x.1), z.1)

  bullets_sound : (e : ℕ) (o : Op) (c : ℕ) → is_bullet o ≡ true → (p : Place) → Right e p → p.col ≡ c → (a : Phrase) → Good c a → (b : Bool) (ts : List Token) (bs : Bullets) (us : List Token) → bullets_if b r e o c p a ts ≡ Ok (bs, us) → AreBullets e o c (sign p o (spell a ts)) bs us
  bullets_sound e o c ob p gp pc a g true ts bs us i =
      let v = then_ok i in
      let w = h.bullets e o c ob ts v.0 v.1 v.2 in
      given (λ d vs. AreBullets e o c (sign p o (spell a ts)) d vs) v.3 ((pc, g, w.0), gp, rw w.2 refl)
  bullets_sound e o c ob p gp pc a g false ts bs us i = given (λ d vs. AreBullets e o c (sign p o (spell a ts)) d vs) i ((pc, g), gp, refl)

  arms_other_sound : (e : ℕ) (a : Phrase) → Good e a → (p : Place) → Right e p → (b : Phrase) → Good e b → (q : Place) → not (takes_box q.col b) ≡ true → Right e q → (j : Place) (k : TokenView) (ts : List Token) (xs : Arms) (us : List Token) → next e ts ≡ token j k → arms_other r e a p b q j k ts ≡ Ok (xs, us) → AreArms e (spell a (mark p tk.arrow (spell b (mark q tk.box ts)))) xs us
  arms_other_sound e a ga p gp b gb q t gq j (tk.key tk.other_key) ts xs us s o =
      let n = seen e ts j (tk.key tk.other_key) s refl in
      let v = then_ok o in
      let m = mark_ok e tk.arrow (tail ts) v.0 v.1 v.2 in
      let u = then_ok v.3 in
      let w = h.expr e free v.1 u.0 u.1 u.2 in
      given (λ d vs. AreArms e (spell a (mark p tk.arrow (spell b (mark q tk.box ts)))) d vs) u.3 ((ga, gp, gb, t, gq, n.0, m.0, w.0), rw (w.2, m.1, n.1) refl)
  arms_other_sound e a ga p gp b gb q t gq j k ts xs us s o = arms_more e a ga p gp b gb q t gq ts xs us o
    where
      arms_more : (e : ℕ) (a : Phrase) → Good e a → (p : Place) → Right e p → (b : Phrase) → Good e b → (q : Place) → not (takes_box q.col b) ≡ true → Right e q → (ts : List Token) (xs : Arms) (us : List Token) → (r.arms e >>= λ xs. gives (arm a p b q xs)) ts ≡ Ok (xs, us) → AreArms e (spell a (mark p tk.arrow (spell b (mark q tk.box ts)))) xs us
      arms_more e a ga p gp b gb q t gq ts xs us o =
          let v = then_ok o in
          let w = h.arms e ts v.0 v.1 v.2 in
          given (λ d vs. AreArms e (spell a (mark p tk.arrow (spell b (mark q tk.box ts)))) d vs) v.3 ((ga, gp, gb, t, gq, w.0), rw w.1 refl)

  arms_sound : (e : ℕ) (a : Phrase) → Good e a → (p : Place) → Right e p → (b : Phrase) → Good e b → (q : Place) (k : TokenView) (ts : List Token) (xs : Arms) (us : List Token) → next e ts ≡ token q k → arms_by r e a p b q k ts ≡ Ok (xs, us) → AreArms e (spell a (mark p tk.arrow (spell b ts))) xs us
  arms_sound e a ga p gp b gb q (tk.mark tk.box) ts xs us s o = by (takes_box q.col b) refl o
    where
      by : (m : Bool) → takes_box q.col b ≡ m → arms_if m r e a p b q ts ≡ Ok (xs, us) → AreArms e (spell a (mark p tk.arrow (spell b ts))) xs us
      by true m o = given (λ d vs. AreArms e (spell a (mark p tk.arrow (spell b ts))) d vs) o ((ga, gp, gb), refl)
      by false m o =
          let n = seen e ts q (tk.mark tk.box) s refl in
          let z = arms_other_sound e a ga p gp b gb q (ap not m) n.0 (next e (tail ts)).place (next e (tail ts)).kind (tail ts) xs us refl o in
          (z.0, z.1 ∙ rw n.1 refl)
  arms_sound e a ga p gp b gb q k ts xs us s o = given (λ d vs. AreArms e (spell a (mark p tk.arrow (spell b ts))) d vs) o ((ga, gp, gb), refl)

  locals_sound : (e : ℕ) (p : Place) (x : Word) → Right e p → (q : Place) → Right e q → (a : Phrase) → Good e a → (j : Place) (k : TokenView) (ts : List Token) (ls : Locals) (us : List Token) → locals_by r e p x q a j k ts ≡ Ok (ls, us) → AreLocals e (word p x (mark q tk.defines (spell a ts))) ls us
  locals_sound e p x gp q gq a g j (tk.word y) ts ls us o =
      let v = then_ok o in
      let w = h.locals e ts v.0 v.1 v.2 in
      given (λ d vs. AreLocals e (word p x (mark q tk.defines (spell a ts))) d vs) v.3 ((gp, gq, g, w.0), rw w.1 refl)
  locals_sound e p x gp q gq a g j k ts ls us o = given (λ d vs. AreLocals e (word p x (mark q tk.defines (spell a ts))) d vs) o ((gp, gq, g), refl)

  -- ---- one step more
  step_sound : Sound (one_step (any r) r)
  step_sound = record {
    expr = λ e c ts a us o.
        (let v = then_ok o in
        let w = operand_sound r h e c (next e ts).place (next e ts).kind ts v.0 v.1 refl v.2 in
        let z = h.climb e c v.0 w.0 w.1 v.1 a us v.3 in
        (z.0, z.1, z.2 ∙ w.2));
    short = λ e ts a us o. short_sound r h e (next e ts).place (next e ts).kind ts a us refl o;
    postfix = λ e b g f ts a us o. postfix_sound r h e b g f (next e ts).place (next e ts).kind ts a us refl o;
    climb = λ e c b g f ts a us o. climb_sound r h e c b g f (next e ts).place (next e ts).kind ts a us refl o;
    phrases = λ e ts xs us o.
        (let v = then_ok o in
        let w = h.expr e free ts v.0 v.1 v.2 in
        let z = phrases_sound e v.0 w.0 (next e v.1).place (next e v.1).kind v.1 xs us refl v.3 in
        (z.0, z.1 ∙ w.2));
    binds = λ e p x g ts bs us o. binds_sound e p x g (next e ts).place (next e ts).kind ts bs us refl o;
    fields = λ e m f g ts fs us o.
        (let v = then_ok o in
        let n = mark_ok e m ts v.0 v.1 v.2 in
        let u = then_ok v.3 in
        let w = h.expr e free v.1 u.0 u.1 u.2 in
        let z = fields_sound e m f g v.0 n.0 u.0 w.0 (next e u.1).place (next e u.1).kind u.1 fs us refl u.3 in
        (z.0, z.1 ∙ rw (w.2, n.1) refl));
    settings = λ e ts ss us o.
        (let v = then_ok o in
        let n = mark_ok e tk.bang ts v.0 v.1 v.2 in
        let u = then_ok v.3 in
        let w = h.path e v.1 u.0 u.1 u.2 in
        let z = setting_sound e v.0 n.0 u.0 w.0 u.1 ss us u.3 in
        (z.0, z.1 ∙ rw (w.1, n.1) refl));
    path = λ e ts path us o. path_sound e (next e ts).place (next e ts).kind ts path us refl o;
    bullets = λ e o c ob ts bs us i.
        (let v = then_ok i in
        let n = bullet_sound e o c ts v.0 v.1 v.2 in
        let u = then_ok v.3 in
        let w = h.expr c free v.1 u.0 u.1 u.2 in
        let z = bullets_sound e o c ob v.0 n.0 n.1 u.0 w.0 (is_sign o (next e u.1).kind && nat_eq c (next e u.1).place.col) u.1 bs us u.3 in
        (z.0, z.1, z.2 ∙ rw (w.2, bullet_sign o ob, n.2) refl));
    arms = λ e ts xs us o.
        (let v = then_ok o in
        let w = h.expr e free ts v.0 v.1 v.2 in
        let u = then_ok v.3 in
        let n = mark_ok e tk.arrow v.1 u.0 u.1 u.2 in
        let x = then_ok u.3 in
        let i = h.expr e free u.1 x.0 x.1 x.2 in
        let z = arms_sound e v.0 w.0 u.0 n.0 x.0 i.0 (next e x.1).place (next e x.1).kind x.1 xs us refl x.3 in
        (z.0, z.1 ∙ rw (i.2, n.1, w.2) refl));
    locals = λ e ts ls us o.
        (let v = then_ok o in
        let w = word_ok e ts v.0 v.1 v.2 in
        let u = then_ok v.3 in
        let n = mark_ok e tk.defines v.1 u.0 u.1 u.2 in
        let x = then_ok u.3 in
        let i = h.expr e free u.1 x.0 x.1 x.2 in
        let z = locals_sound e v.0.0 v.0.1 w.0 u.0 n.0 x.0 i.0 (next e x.1).place (next e x.1).kind x.1 ls us x.3 in
        (z.0, z.1 ∙ rw (i.2, n.1, w.1) refl));
  }

no_steps_sound : Sound rd.no_steps
no_steps_sound = record {
  expr = λ e c ts a us o. absurd cc;
  short = λ e ts a us o. absurd cc;
  postfix = λ e b g f ts a us o. absurd cc;
  climb = λ e c b g f ts a us o. absurd cc;
  phrases = λ e ts xs us o. absurd cc;
  binds = λ e p x g ts bs us o. absurd cc;
  fields = λ e m f g ts fs us o. absurd cc;
  settings = λ e ts ss us o. absurd cc;
  path = λ e ts path us o. absurd cc;
  bullets = λ e o c ob ts bs us i. absurd cc;
  arms = λ e ts xs us o. absurd cc;
  locals = λ e ts ls us o. absurd cc;
}

pub sound : (n : ℕ) → Sound (readers n None)
unfolding readers_in
sound zero = no_steps_sound
sound (suc n) = step_sound (readers n None) (sound n)

pub read_is_spelled : (e : ℕ) (ts us : List Token) (a : Phrase) → read e ts ≡ Ok (a, us) → Good e a × (ts ≡ spell a us)
read_is_spelled e ts us a o = (let w = (sound (4 * length ts)).expr e free ts a us o in (w.0, sym w.2))
