-- What is read is spelled: the claim for all readers, names, braces and square brackets.
use Rattle.std.proofs.Common.{◌≡◌, ℕ, Bool, true, false, List, Option, Some, None, Ok, if◌then◌else◌, refl, sym, ap, ◌∙◌}
use Rattle.std.proofs.lemmas.Bool.{both_ways}
use Rattle.tla_token.specs.declared.place.Place.{Place}
use Rattle.tla_tree.specs.declared.op.Op.{Op}
use Rattle.tla_tree.specs.declared.op.Op.TheVariants as op
use Rattle.tla_tree.specs.Tree.{Word}
use Rattle.tla_tree.specs.Rank.{is_bullet}
use Rattle.tla_tree.specs.Lexical.{Mark, TokenView, Token, token}
use Rattle.tla_tree.specs.Lexical as tk
use Rattle.tla_tree.specs.Spelling.{Field, Phrase, name, call, infix_of}
use Rattle.tla_tree.specs.Spelling.{Phrases, Binds, Fields, Settings, Path, Bullets, Arms, Locals}
use Rattle.tla_tree.specs.Spelling.{sign, word, field_token, spell, spell_all, spell_binds, spell_fields, spell_settings, spell_path, spell_bullets, spell_arms, spell_locals, Right, Good, GoodAll, GoodBinds, GoodFields, GoodSettings, GoodPath, GoodBullets, GoodArms, GoodLocals, head, is_primary, is_short, first_bullet, can_be_left, can_be_right, is_word, is_in}
use Rattle.tla_tree.specs.Reader.{any, next, tail, Context, fits, Readers, on_left, element, named, from_name}
use Rattle.tla_tree.proofs.ReadMembers.{is_member, member}
use Rattle.tla_tree.proofs.SoundTokens.{then_ok, ok_is, seen, ended_ok}

-- ---- the claim
-- what was read from ts on, to us
abbrev pub Fitting : Context → ℕ → List Token → Phrase → List Token → Type 0
Fitting c e ts a us = Good e a × (fits c a ≡ true) × (spell a us ≡ ts)

abbrev pub IsPrime : ℕ → List Token → Phrase → List Token → Type 0
IsPrime e ts a us = Good e a × (is_primary (head a) ≡ true) × (spell a us ≡ ts)

abbrev pub IsGroup : ℕ → List Token → Binds → List Token → Type 0
IsGroup e ts bs us = GoodBinds e bs × (spell_binds bs us ≡ ts)

pub record Sound (r : Readers) : Type 0 where
  pub expr : (e : ℕ) (c : Context) (ts : List Token) (a : Phrase) (us : List Token) → r.expr e c ts ≡ Ok (a, us) → Fitting c e ts a us
  pub short : (e : ℕ) (ts : List Token) (a : Phrase) (us : List Token) → r.short e ts ≡ Ok (a, us) → Good e a × (is_short a ≡ true) × (spell a us ≡ ts)
  pub postfix : (e : ℕ) (b : Phrase) → Good e b → is_primary (head b) ≡ true → (ts : List Token) (a : Phrase) (us : List Token) → r.postfix e b ts ≡ Ok (a, us) → IsPrime e (spell b ts) a us
  pub climb : (e : ℕ) (c : Context) (b : Phrase) → Good e b → fits c b ≡ true → (ts : List Token) (a : Phrase) (us : List Token) → r.climb e c b ts ≡ Ok (a, us) → Fitting c e (spell b ts) a us
  pub phrases : (e : ℕ) (ts : List Token) (xs : Phrases) (us : List Token) → r.phrases e ts ≡ Ok (xs, us) → GoodAll e xs × (spell_all xs us ≡ ts)
  pub binds : (e : ℕ) (p : Place) (x : Word) → Right e p → (ts : List Token) (bs : Binds) (us : List Token) → r.binds e p x ts ≡ Ok (bs, us) → GoodBinds e bs × (spell_binds bs us ≡ word p x ts)
  pub fields : (e : ℕ) (m : Mark) (f : Field) → Right e f.place → (ts : List Token) (fs : Fields) (us : List Token) → r.fields e m f ts ≡ Ok (fs, us) → GoodFields e fs × (spell_fields m fs us ≡ field_token f ts)
  pub settings : (e : ℕ) (ts : List Token) (ss : Settings) (us : List Token) → r.settings e ts ≡ Ok (ss, us) → GoodSettings e ss × (spell_settings ss us ≡ ts)
  pub path : (e : ℕ) (ts : List Token) (path : Path) (us : List Token) → r.path e ts ≡ Ok (path, us) → GoodPath e path × (spell_path path us ≡ ts)
  pub bullets : (e : ℕ) (o : Op) (c : ℕ) → is_bullet o ≡ true → (ts : List Token) (bs : Bullets) (us : List Token) → r.bullets e o c ts ≡ Ok (bs, us) → GoodBullets c bs × Right e (first_bullet bs) × (spell_bullets o bs us ≡ ts)
  pub arms : (e : ℕ) (ts : List Token) (xs : Arms) (us : List Token) → r.arms e ts ≡ Ok (xs, us) → GoodArms e xs × (spell_arms xs us ≡ ts)
  pub locals : (e : ℕ) (ts : List Token) (ls : Locals) (us : List Token) → r.locals e ts ≡ Ok (ls, us) → GoodLocals e ls × (spell_locals ls us ≡ ts)

-- ---- phrases that begin with a name and `\in`
-- the tokens of such a phrase tell it
member_word : (e : ℕ) (a : Phrase) → Good e a → is_member a ≡ true → (ts us : List Token) → spell a us ≡ ts → is_word (next e ts).kind ≡ true
member_word e a g m ts us s =
    let v = member e a g m in
    let same : word v.place v.word_of (tail (spell a us)) ≡ ts = rw (v.same_as us) (sym (v.same_as us) ∙ s) in
    rw (sym same, v.right) refl

member_in : (e : ℕ) (a : Phrase) → Good e a → is_member a ≡ true → (p : Place) (x : Word) (ts us : List Token) → spell a us ≡ word p x ts → is_in (next e ts).kind ≡ true
member_in e a g m p x ts us s =
    let v = member e a g m in
    let same : tail (spell a us) ≡ ts = ap tail s in
    rw (sym same, v.same_as us, v.right_in) refl

pub no_word : (e : ℕ) (a : Phrase) → Good e a → (ts us : List Token) → spell a us ≡ ts → is_word (next e ts).kind ≡ false → is_member a ≡ false
no_word e a g ts us s w = by (is_member a) refl
  where
    by : (b : Bool) → is_member a ≡ b → is_member a ≡ false
    by false m = m
    by true m = absurd (both_ways (is_word (next e ts).kind) w (member_word e a g m ts us s))

pub no_in : (e : ℕ) (a : Phrase) → Good e a → (p : Place) (x : Word) (ts us : List Token) → spell a us ≡ word p x ts → is_in (next e ts).kind ≡ false → is_member a ≡ false
no_in e a g p x ts us s w = by (is_member a) refl
  where
    by : (b : Bool) → is_member a ≡ b → is_member a ≡ false
    by false m = m
    by true m = absurd (both_ways (is_in (next e ts).kind) w (member_in e a g m p x ts us s))

-- the element that is put together from a name, `\in` and what is after
abbrev pub IsElement : ℕ → Place → Word → Place → Phrase → Phrase → Type 0
IsElement e p x q a b = Good e b × ((ts : List Token) → spell b ts ≡ word p x (sign q op.In (spell a ts)))

whole_element : (e : ℕ) (p : Place) (x : Word) (q : Place) (a b : Phrase) → Right e p → Right e q → Good e a
    → (if can_be_right op.In a then Some (infix_of (name p x) q op.In a) else None) ≡ Some b → IsElement e p x q a b
whole_element e p x q a b gp gq ga h = by (can_be_right op.In a) refl h
  where
    by : (k : Bool) → can_be_right op.In a ≡ k → (if k then Some (infix_of (name p x) q op.In a) else None) ≡ Some b → IsElement e p x q a b
    by true k h = (let it : infix_of (name p x) q op.In a ≡ b = cc in rw (sym it) ((refl, refl, k, gp, gq, ga), λ ts. refl))
    by false k h = absurd cc

pub element_is : (e : ℕ) (p : Place) (x : Word) (q : Place) → Right e p → Right e q → (a b : Phrase) → Good e a → element p x q a ≡ Some b → IsElement e p x q a b
element_is e p x q gp gq (infix_of a r o d) b g h = by (can_be_right op.In (infix_of a r o d)) refl h (λ c i. element_is e p x q gp gq a c g.3 i)
  where
    on : (m : Option Phrase) → ((c : Phrase) → m ≡ Some c → IsElement e p x q a c) → on_left m r o d ≡ Some b → IsElement e p x q (infix_of a r o d) b
    on None i h = absurd cc
    on (Some c) i h = at (can_be_left c r o) refl h
      where
        at : (k : Bool) → can_be_left c r o ≡ k → (if k then Some (infix_of c r o d) else None) ≡ Some b → IsElement e p x q (infix_of a r o d) b
        at true k h = (let it : infix_of c r o d ≡ b = cc in let w = i c refl in rw (sym it) ((g.0, k, g.2, w.0, g.4, g.5), λ ts. w.1 (sign r o (spell d ts))))
        at false k h = absurd cc

    by : (k : Bool) → can_be_right op.In (infix_of a r o d) ≡ k → (if k then Some (infix_of (name p x) q op.In (infix_of a r o d)) else on_left (element p x q a) r o d) ≡ Some b → ((c : Phrase) → element p x q a ≡ Some c → IsElement e p x q a c) → IsElement e p x q (infix_of a r o d) b
    by true k h inner = (let it : infix_of (name p x) q op.In (infix_of a r o d) ≡ b = cc in rw (sym it) ((refl, refl, k, gp, gq, g), λ ts. refl))
    by false k h inner = on (element p x q a) inner h
element_is e p x q gp gq a b g h = whole_element e p x q a b gp gq g h

module _ (r : Readers) (h : Sound r) where
  -- ---- names
  pub named_sound : (e : ℕ) (p : Place) (x : Word) → Right e p → (q : Place) (k : TokenView) (ts : List Token) (a : Phrase) (us : List Token) → next e ts ≡ token q k → named (any r) e p x q k ts ≡ Ok (a, us) → IsPrime e (word p x ts) a us
  named_sound e p x g q (tk.mark tk.open_bracket) ts a us s o =
      let n = seen e ts q (tk.mark tk.open_bracket) s refl in
      let v = then_ok o in
      let w = h.phrases e (tail ts) v.0 v.1 v.2 in
      let z = ended_ok e tk.close_bracket (λ i. call p x q v.0 i) v.3 in
      rw (sym z.3) ((g, n.0, w.0, z.1), refl, rw (z.2, w.1, n.1) refl)
  named_sound e p x g q (tk.mark tk.prime) ts a us s o =
      let n = seen e ts q (tk.mark tk.prime) s refl in
      let w = ok_is o in
      rw (sym w.0, sym w.1) ((g, n.0), refl, rw n.1 refl)
  named_sound e p x g q k ts a us s o = (let w = ok_is o in rw (sym w.0, sym w.1) (g, refl, refl))

  pub from_name_sound : (e : ℕ) (p : Place) (x : Word) → Right e p → (ts : List Token) (a : Phrase) (us : List Token) → from_name (any r) r e p x ts ≡ Ok (a, us) → IsPrime e (word p x ts) a us
  from_name_sound e p x g ts a us o =
      let v = then_ok o in
      let w = named_sound e p x g (next e ts).place (next e ts).kind ts v.0 v.1 refl v.2 in
      let z = h.postfix e v.0 w.0 w.1 v.1 a us v.3 in
      (z.0, z.1, z.2 ∙ w.2)
