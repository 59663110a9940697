-- What is read is spelled: primaries, open forms, operators, and lists of all kinds.
use Rattle.std.proofs.Common.{◌≡◌, ℕ, nat_lt, Bool, true, false, not, ◌&&◌, ◌||◌, List, Option, Some, None, Ok, Err, refl, sym, ◌∙◌, inl, inr}
use Rattle.std.proofs.lemmas.Bool.{and_parts, or_cases, not-true}
use Rattle.tla_token.specs.declared.place.Place.{Place}
use Rattle.tla_tree.specs.declared.op.Op.{Op}
use Rattle.tla_tree.specs.declared.op.Op.TheVariants as op
use Rattle.tla_tree.specs.Rank.{rank, is_prefix, is_bullet, same_op}
use Rattle.tla_tree.specs.Lexical.{Key, TokenView, Token, token, sign_of}
use Rattle.tla_tree.specs.Lexical as tk
use Rattle.tla_tree.specs.Spelling.{Phrase, number, string, constant, brackets, apply, select, list, infix_of, prefix_of}
use Rattle.tla_tree.specs.Spelling.{mark, key, sign, word, spell, Right, Good, GoodBullets, Head, primary, applied, open_form, head, is_primary, is_open, is_above, is_applied, is_short, first_bullet, can_be_left, can_be_under, can_be_head}
use Rattle.tla_tree.specs.Spelling as sp
use Rattle.tla_tree.specs.Reader.{any, ◌>>=◌, gives, next, tail, Context, free, right_of, under, behind, bound, fits, is_free, prefix_by, goes_on, Readers, list_if, keyed, under_by, signed, operand, short_signed, short_by, apply_if, select_if, postfix_by, climb_if, climb_by}
use Rattle.tla_tree.specs.Reader as rd
use Rattle.tla_tree.proofs.ReadStops.{sign_infix}
use Rattle.tla_tree.proofs.ReadLists.{first_column}
use Rattle.tla_tree.proofs.SoundTokens.{then_ok, given, seen, mark_ok, key_ok, word_ok, field_ok}
use Rattle.tla_tree.proofs.SoundPhrases.{Fitting, IsPrime, Sound, from_name_sound}
use Rattle.tla_tree.proofs.SoundBraces.{braces_sound, tuples_sound, squares_sound}

-- ---- where a phrase may be
pub or_true : (x : Bool) → (x || true) ≡ true
or_true true = refl
or_true false = refl

pub above_all : (o : Op) (h : Head) → is_primary h ≡ true → is_above o h ≡ true
above_all o primary k = refl
above_all o (applied q) k = absurd cc
above_all o open_form k = absurd cc

pub prime_fits : (c : Context) (a : Phrase) → is_primary (head a) ≡ true → fits c a ≡ true
prime_fits free a k = refl
prime_fits (behind s x t) a k = refl
prime_fits (right_of o) a k = rw (above_all o (head a) k) refl
prime_fits (under o) a k = rw (above_all o (head a) k) refl

pub prime_short : (a : Phrase) → is_primary (head a) ≡ true → is_short a ≡ true
prime_short (prefix_of p o a) k = absurd cc
prime_short a k = k

pub open_fits : (c : Context) (a : Phrase) → is_open (head a) ≡ true → fits c a ≡ true
open_fits free a k = refl
open_fits (behind s x t) a k = refl
open_fits (right_of o) a k = rw k (or_true (is_above o (head a)))
open_fits (under o) a k = rw (k, or_true (is_applied o (head a))) (or_true (is_above o (head a)))

pub short_under : (o : Op) (a : Phrase) → is_short a ≡ true → can_be_under o a ≡ true
short_under o a k = rw (k, or_true (is_open (head a)), or_true (is_applied o (head a))) (or_true (is_above o (head a)))

-- a prefix operator, with a short form or in a place where it is free
pub short_fits : (c : Context) (p : Place) (q : Op) (a : Phrase) → is_short a ≡ true → fits c (prefix_of p q a) ≡ true
short_fits free p q a k = refl
short_fits (behind s x t) p q a k = refl
short_fits (right_of o) p q a k = rw k (or_true (is_above o (applied q)))
short_fits (under o) p q a k = rw (k, or_true (same_op o q)) (or_true (is_above o (applied q)))

pub free_fits : (c : Context) (p : Place) (q : Op) (a : Phrase) → is_free c q ≡ true → fits c (prefix_of p q a) ≡ true
free_fits free p q a k = refl
free_fits (behind s x t) p q a k = refl
free_fits (right_of o) p q a k = rw k refl
free_fits (under o) p q a k = elim (or_cases (nat_lt (rank o).1 (rank q).0) (same_op o q) k) [ inl i ↦ rw i refl | inr i ↦ rw i (or_true (nat_lt (rank o).1 (rank q).0)) ]

pub infix_fits : (c : Context) (a : Phrase) (p : Place) (o : Op) (d : Phrase) → nat_lt (bound c) (rank o).0 ≡ true → fits c (infix_of a p o d) ≡ true
infix_fits free a p o d k = refl
infix_fits (behind s x t) a p o d k = refl
infix_fits (right_of q) a p o d k = rw k refl
infix_fits (under q) a p o d k = rw k refl

-- the prefix operator of a sign
pub prefix_is : (o q : Op) → prefix_by o ≡ Some q → (is_prefix q ≡ true) × (sign_of q ≡ tk.sign o)
prefix_is op.Minus q h = (let it : op.Negate ≡ q = cc in rw (sym it) (refl, refl))
prefix_is op.Not q h = (let it : op.Not ≡ q = cc in rw (sym it) (refl, refl))
prefix_is op.Subset q h = (let it : op.Subset ≡ q = cc in rw (sym it) (refl, refl))
prefix_is op.Union q h = (let it : op.Union ≡ q = cc in rw (sym it) (refl, refl))
prefix_is op.Domain q h = (let it : op.Domain ≡ q = cc in rw (sym it) (refl, refl))
prefix_is o q h = absurd cc

pub bullet_sign : (o : Op) → is_bullet o ≡ true → sign_of o ≡ tk.sign o
bullet_sign op.And h = refl
bullet_sign op.Or h = refl
bullet_sign o h = absurd cc

abbrev pub is_infix : Phrase → Bool
is_infix (infix_of a p o b) = true
is_infix a = false

pub prime_plain : (a : Phrase) → is_primary (head a) ≡ true → is_infix a ≡ false
prime_plain (infix_of a p o b) h = absurd cc
prime_plain a h = refl

open_plain : (a : Phrase) → is_open (head a) ≡ true → is_infix a ≡ false
open_plain (infix_of a p o b) h = absurd cc
open_plain a h = refl

abbrev IsOpen : ℕ → List Token → Phrase → List Token → Type 0
IsOpen e ts a us = Good e a × (is_open (head a) ≡ true) × (spell a us ≡ ts)

module _ (r : Readers) (h : Sound r) where
  -- ---- primaries
  list_sound : (e : ℕ) (p : Place) (o : Op) (ts : List Token) (a : Phrase) (us : List Token) → list_if (is_bullet o) r e p o ts ≡ Ok (a, us) → IsPrime e ts a us
  list_sound e p o ts a us i = by (is_bullet o) refl i
    where
      by : (b : Bool) → is_bullet o ≡ b → list_if b r e p o ts ≡ Ok (a, us) → IsPrime e ts a us
      by true b i =
          let v = then_ok i in
          let w = h.bullets e o p.col b ts v.0 v.1 v.2 in
          let same_items : GoodBullets (first_bullet v.0).col v.0 = rw (first_column p.col v.0 w.0) w.0 in
          let z = h.postfix e (list o v.0) (b, w.1, same_items) refl v.1 a us v.3 in
          (z.0, z.1, z.2 ∙ w.2)
      by false b i = absurd cc

  pub primary_sound : (e : ℕ) (p : Place) (k : TokenView) (ts : List Token) (a : Phrase) (us : List Token) → next e ts ≡ token p k → rd.primary (any r) r e p k ts ≡ Ok (a, us) → IsPrime e ts a us
  primary_sound e p (tk.number n) ts a us s o =
      let m = seen e ts p (tk.number n) s refl in
      let z = h.postfix e (number p n) m.0 refl (tail ts) a us o in
      (z.0, z.1, z.2 ∙ m.1)
  primary_sound e p (tk.string x) ts a us s o =
      let m = seen e ts p (tk.string x) s refl in
      let z = h.postfix e (string p x) m.0 refl (tail ts) a us o in
      (z.0, z.1, z.2 ∙ m.1)
  primary_sound e p (tk.constant c) ts a us s o =
      let m = seen e ts p (tk.constant c) s refl in
      let z = h.postfix e (constant p c) m.0 refl (tail ts) a us o in
      (z.0, z.1, z.2 ∙ m.1)
  primary_sound e p (tk.word x) ts a us s o =
      let m = seen e ts p (tk.word x) s refl in
      let z = from_name_sound r h e p x m.0 (tail ts) a us o in
      (z.0, z.1, z.2 ∙ m.1)
  primary_sound e p (tk.mark tk.open_bracket) ts a us s o =
      let n = seen e ts p (tk.mark tk.open_bracket) s refl in
      let v = then_ok o in
      let i = h.expr e free (tail ts) v.0 v.1 v.2 in
      let u = then_ok v.3 in
      let m = mark_ok e tk.close_bracket v.1 u.0 u.1 u.2 in
      let z = h.postfix e (brackets p v.0 u.0) (n.0, i.0, m.0) refl u.1 a us u.3 in
      (z.0, z.1, z.2 ∙ rw (m.1, i.2, n.1) refl)
  primary_sound e p (tk.mark tk.open_brace) ts a us s o =
      let n = seen e ts p (tk.mark tk.open_brace) s refl in
      let v = then_ok o in
      let i = braces_sound r h e p n.0 (next e (tail ts)).place (next e (tail ts)).kind (tail ts) v.0 v.1 refl v.2 in
      let z = h.postfix e v.0 i.0 i.1 v.1 a us v.3 in
      (z.0, z.1, z.2 ∙ i.2 ∙ n.1)
  primary_sound e p (tk.mark tk.open_tuple) ts a us s o =
      let n = seen e ts p (tk.mark tk.open_tuple) s refl in
      let v = then_ok o in
      let i = tuples_sound r h e p n.0 (next e (tail ts)).place (next e (tail ts)).kind (tail ts) v.0 v.1 refl v.2 in
      let z = h.postfix e v.0 i.0 i.1 v.1 a us v.3 in
      (z.0, z.1, z.2 ∙ i.2 ∙ n.1)
  primary_sound e p (tk.mark tk.open_square) ts a us s o =
      let n = seen e ts p (tk.mark tk.open_square) s refl in
      let v = then_ok o in
      let i = squares_sound r h e p n.0 (next e (tail ts)).place (next e (tail ts)).kind (tail ts) v.0 v.1 refl v.2 in
      let z = h.postfix e v.0 i.0 i.1 v.1 a us v.3 in
      (z.0, z.1, z.2 ∙ i.2 ∙ n.1)
  primary_sound e p (tk.sign o) ts a us s i = list_sound e p o ts a us i
  primary_sound e p k ts a us s o = absurd cc

  -- ---- open forms
  quantifier_sound : (e : ℕ) (b : Bool) (p : Place) → Right e p → (ts : List Token) (a : Phrase) (us : List Token) → rd.quantifier r e b p ts ≡ Ok (a, us) → IsOpen e (key p (sp.quantifier b) ts) a us
  quantifier_sound e b p g ts a us o =
      let x = then_ok o in
      let w = word_ok e ts x.0 x.1 x.2 in
      let v = then_ok x.3 in
      let i = h.binds e x.0.0 x.0.1 w.0 x.1 v.0 v.1 v.2 in
      let u = then_ok v.3 in
      let m = mark_ok e tk.colon v.1 u.0 u.1 u.2 in
      let z = then_ok u.3 in
      let j = h.expr e free u.1 z.0 z.1 z.2 in
      given (λ d vs. IsOpen e (key p (sp.quantifier b) ts) d vs) z.3 ((g, i.0, m.0, j.0), refl, rw (j.2, m.1, i.1, w.1) refl)

  choice_sound : (e : ℕ) (p : Place) → Right e p → (ts : List Token) (a : Phrase) (us : List Token) → rd.choice_from r e p ts ≡ Ok (a, us) → IsOpen e (key p tk.if_key ts) a us
  choice_sound e p g ts a us o =
      let x = then_ok o in
      let i = h.expr e free ts x.0 x.1 x.2 in
      let v = then_ok x.3 in
      let m = key_ok e tk.then_key x.1 v.0 v.1 v.2 in
      let y = then_ok v.3 in
      let j = h.expr e free v.1 y.0 y.1 y.2 in
      let u = then_ok y.3 in
      let n = key_ok e tk.else_key y.1 u.0 u.1 u.2 in
      let z = then_ok u.3 in
      let k = h.expr e free u.1 z.0 z.1 z.2 in
      given (λ d vs. IsOpen e (key p tk.if_key ts) d vs) z.3 ((g, i.0, m.0, j.0, n.0, k.0), refl, rw (k.2, n.1, j.2, m.1, i.2) refl)

  keyed_sound : (e : ℕ) (p : Place) (k : Key) (ts : List Token) (a : Phrase) (us : List Token) → next e ts ≡ token p (tk.key k) → keyed (any r) e p k ts ≡ Ok (a, us) → IsOpen e ts a us
  keyed_sound e p tk.if_key ts a us s o =
      let n = seen e ts p (tk.key tk.if_key) s refl in
      let z = choice_sound e p n.0 (tail ts) a us o in
      (z.0, z.1, z.2 ∙ n.1)
  keyed_sound e p tk.case_key ts a us s o =
      let n = seen e ts p (tk.key tk.case_key) s refl in
      let v = then_ok o in
      let w = h.arms e (tail ts) v.0 v.1 v.2 in
      given (λ d vs. IsOpen e ts d vs) v.3 ((n.0, w.0), refl, rw (w.1, n.1) refl)
  keyed_sound e p tk.let_key ts a us s o =
      let n = seen e ts p (tk.key tk.let_key) s refl in
      let v = then_ok o in
      let w = h.locals e (tail ts) v.0 v.1 v.2 in
      let u = then_ok v.3 in
      let m = key_ok e tk.in_key v.1 u.0 u.1 u.2 in
      let z = then_ok u.3 in
      let j = h.expr e free u.1 z.0 z.1 z.2 in
      given (λ d vs. IsOpen e ts d vs) z.3 ((n.0, w.0, m.0, j.0), refl, rw (j.2, m.1, w.1, n.1) refl)
  keyed_sound e p tk.for_all_key ts a us s o =
      let n = seen e ts p (tk.key tk.for_all_key) s refl in
      let z = quantifier_sound e true p n.0 (tail ts) a us o in
      (z.0, z.1, z.2 ∙ n.1)
  keyed_sound e p tk.exists_key ts a us s o =
      let n = seen e ts p (tk.key tk.exists_key) s refl in
      let z = quantifier_sound e false p n.0 (tail ts) a us o in
      (z.0, z.1, z.2 ∙ n.1)
  keyed_sound e p k ts a us s o = absurd cc

  -- ---- operands
  prefix_sound : (e : ℕ) (c : Context) (p : Place) (o q : Op) → prefix_by o ≡ Some q → (ts : List Token) (a : Phrase) (us : List Token) → next e ts ≡ token p (tk.sign o)
      → (under_by (is_free c q) r e q >>= λ a. gives (prefix_of p q a)) (tail ts) ≡ Ok (a, us) → Fitting c e ts a us
  prefix_sound e c p o q m ts a us s i =
      let n = seen e ts p (tk.sign o) s refl in
      let w = prefix_is o q m in
      let v = then_ok i in
      let z = by (is_free c q) refl v.0 v.1 v.2 in
      given (λ d vs. Fitting c e ts d vs) v.3 ((w.0, z.1, n.0, z.0), z.2, rw (w.1, z.3, n.1) refl)
    where
      by : (b : Bool) → is_free c q ≡ b → (d : Phrase) (vs : List Token) → under_by b r e q (tail ts) ≡ Ok (d, vs) → Good e d × (can_be_under q d ≡ true) × (fits c (prefix_of p q d) ≡ true) × (spell d vs ≡ tail ts)
      by true f d vs i = (let w = h.expr e (under q) (tail ts) d vs i in (w.0, w.1, free_fits c p q d f, w.2))
      by false f d vs i = (let w = h.short e (tail ts) d vs i in (w.0, short_under q d w.1, short_fits c p q d w.1, w.2))

  signed_sound : (e : ℕ) (c : Context) (p : Place) (o : Op) (ts : List Token) (a : Phrase) (us : List Token) → next e ts ≡ token p (tk.sign o) → signed (any r) r e c p o (prefix_by o) ts ≡ Ok (a, us) → Fitting c e ts a us
  signed_sound e c p o ts a us s i = by (prefix_by o) refl i
    where
      by : (m : Option Op) → prefix_by o ≡ m → signed (any r) r e c p o m ts ≡ Ok (a, us) → Fitting c e ts a us
      by (Some q) m i = prefix_sound e c p o q m ts a us s i
      by None m i = (let z = list_sound e p o ts a us i in (z.0, prime_fits c a z.1, z.2))

  pub operand_sound : (e : ℕ) (c : Context) (p : Place) (k : TokenView) (ts : List Token) (a : Phrase) (us : List Token) → next e ts ≡ token p k → operand (any r) r e c p k ts ≡ Ok (a, us) → Fitting c e ts a us
  operand_sound e c p (tk.key k) ts a us s o = (let z = keyed_sound e p k ts a us s o in (z.0, open_fits c a z.1, z.2))
  operand_sound e c p (tk.sign o) ts a us s i = signed_sound e c p o ts a us s i
  operand_sound e c p k ts a us s o = (let z = primary_sound e p k ts a us s o in (z.0, prime_fits c a z.1, z.2))

  -- an operand is no infix form
  prefix_plain : (p : Place) (q : Op) (o : rd.Out Phrase) (a : Phrase) (us : List Token) → rd.then_read o (λ d. gives (prefix_of p q d)) ≡ Ok (a, us) → is_infix a ≡ false
  prefix_plain p q (Ok x) a us i = given (λ d vs. is_infix d ≡ false) {x = prefix_of p q x.0} {u = x.1} i refl
  prefix_plain p q (Err x) a us i = absurd cc

  signed_plain : (e : ℕ) (c : Context) (p : Place) (o : Op) (s : Option Op) (ts : List Token) (a : Phrase) (us : List Token) → next e ts ≡ token p (tk.sign o) → signed (any r) r e c p o s ts ≡ Ok (a, us) → is_infix a ≡ false
  signed_plain e c p o (Some q) ts a us s i = prefix_plain p q (under_by (is_free c q) r e q (tail ts)) a us i
  signed_plain e c p o None ts a us s i = prime_plain a (list_sound e p o ts a us i).1

  pub operand_plain : (e : ℕ) (c : Context) (p : Place) (k : TokenView) (ts : List Token) (a : Phrase) (us : List Token) → next e ts ≡ token p k → operand (any r) r e c p k ts ≡ Ok (a, us) → is_infix a ≡ false
  operand_plain e c p (tk.key k) ts a us s o = open_plain a (keyed_sound e p k ts a us s o).1
  operand_plain e c p (tk.sign o) ts a us s i = signed_plain e c p o (prefix_by o) ts a us s i
  operand_plain e c p k ts a us s o = prime_plain a (primary_sound e p k ts a us s o).1

  pub short_sound : (e : ℕ) (p : Place) (k : TokenView) (ts : List Token) (a : Phrase) (us : List Token) → next e ts ≡ token p k → short_by (any r) r e p k ts ≡ Ok (a, us) → Good e a × (is_short a ≡ true) × (spell a us ≡ ts)
  short_sound e p (tk.sign o) ts a us s i = by (prefix_by o) refl i
    where
      by : (m : Option Op) → prefix_by o ≡ m → short_signed (any r) r e p o m ts ≡ Ok (a, us) → Good e a × (is_short a ≡ true) × (spell a us ≡ ts)
      by (Some q) m i =
          let n = seen e ts p (tk.sign o) s refl in
          let w = prefix_is o q m in
          let v = then_ok i in
          let z = h.short e (tail ts) v.0 v.1 v.2 in
          given (λ d vs. Good e d × (is_short d ≡ true) × (spell d vs ≡ ts)) v.3 ((w.0, short_under q v.0 z.1, n.0, z.0), z.1, rw (w.1, z.2, n.1) refl)
      by None m i = (let z = list_sound e p o ts a us i in (z.0, prime_short a z.1, z.2))
  short_sound e p k ts a us s o = (let z = primary_sound e p k ts a us s o in (z.0, prime_short a z.1, z.2))

  -- ---- loops
  pub postfix_sound : (e : ℕ) (b : Phrase) → Good e b → is_primary (head b) ≡ true → (p : Place) (k : TokenView) (ts : List Token) (a : Phrase) (us : List Token) → next e ts ≡ token p k → postfix_by (any r) r e b p k ts ≡ Ok (a, us) → IsPrime e (spell b ts) a us
  postfix_sound e b g f p (tk.mark tk.open_square) ts a us s o = by (can_be_head b p) refl o
    where
      by : (m : Bool) → can_be_head b p ≡ m → apply_if m (any r) r e b p ts ≡ Ok (a, us) → IsPrime e (spell b ts) a us
      by true m o =
          let n = seen e ts p (tk.mark tk.open_square) s refl in
          let v = then_ok o in
          let w = h.phrases e (tail ts) v.0 v.1 v.2 in
          let u = then_ok v.3 in
          let i = mark_ok e tk.close_square v.1 u.0 u.1 u.2 in
          let z = h.postfix e (apply b p v.0 u.0) (g, m, n.0, w.0, i.0) refl u.1 a us u.3 in
          (z.0, z.1, z.2 ∙ rw (i.1, w.1, n.1) refl)
      by false m o = given (λ d vs. IsPrime e (spell b ts) d vs) o (g, f, refl)
  postfix_sound e b g f p (tk.mark tk.dot) ts a us s o = by (can_be_head b p) refl o
    where
      by : (m : Bool) → can_be_head b p ≡ m → select_if m (any r) r e b p ts ≡ Ok (a, us) → IsPrime e (spell b ts) a us
      by true m o =
          let n = seen e ts p (tk.mark tk.dot) s refl in
          let v = then_ok o in
          let w = field_ok e (tail ts) v.0 v.1 v.2 in
          let z = h.postfix e (select b p v.0) (g, m, n.0, w.0) refl v.1 a us v.3 in
          (z.0, z.1, z.2 ∙ rw (w.1, n.1) refl)
      by false m o = given (λ d vs. IsPrime e (spell b ts) d vs) o (g, f, refl)
  postfix_sound e b g f p k ts a us s o = given (λ d vs. IsPrime e (spell b ts) d vs) o (g, f, refl)

  pub climb_sound : (e : ℕ) (c : Context) (b : Phrase) → Good e b → fits c b ≡ true → (p : Place) (k : TokenView) (ts : List Token) (a : Phrase) (us : List Token) → next e ts ≡ token p k → climb_by (any r) r e c b p k ts ≡ Ok (a, us) → Fitting c e (spell b ts) a us
  climb_sound e c b g f p (tk.sign o) ts a us s i = by (goes_on (bound c) b p o) refl i
    where
      by : (m : Bool) → goes_on (bound c) b p o ≡ m → climb_if m (any r) r e c b p o ts ≡ Ok (a, us) → Fitting c e (spell b ts) a us
      by true m i =
          let n = seen e ts p (tk.sign o) s refl in
          let w = and_parts (not (is_prefix o)) (nat_lt (bound c) (rank o).0 && can_be_left b p o) m in
          let x = and_parts (nat_lt (bound c) (rank o).0) (can_be_left b p o) w.1 in
          let v = then_ok i in
          let j = h.expr e (right_of o) (tail ts) v.0 v.1 v.2 in
          let z = h.climb e c (infix_of b p o v.0) (w.0, x.1, j.1, g, n.0, j.0) (infix_fits c b p o v.0 x.0) v.1 a us v.3 in
          (z.0, z.1, z.2 ∙ rw (sign_infix o (not-true (is_prefix o) w.0), j.2, n.1) refl)
      by false m i = given (λ d vs. Fitting c e (spell b ts) d vs) i (g, f, refl)
  climb_sound e c b g f p k ts a us s o = given (λ d vs. Fitting c e (spell b ts) d vs) o (g, f, refl)
