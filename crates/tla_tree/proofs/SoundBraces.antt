-- What is read is spelled: after braces and square brackets.
use Rattle.std.proofs.Common.{◌≡◌, ℕ, true, false, not, List, [], Option, Some, None, Ok, refl, sym, ap, ◌∙◌}
use Rattle.tla_token.specs.declared.place.Place.{Place}
use Rattle.tla_tree.specs.declared.op.Op.TheVariants as op
use Rattle.tla_tree.specs.Tree.{Word}
use Rattle.tla_tree.specs.Lexical.{TokenView, Token, token}
use Rattle.tla_tree.specs.Lexical as tk
use Rattle.tla_tree.specs.Spelling.{Field, Phrase, set_of, filter, image, tuple, fields, records, function, functions, except}
use Rattle.tla_tree.specs.Spelling.{last, more, Binds, last_bind}
use Rattle.tla_tree.specs.Spelling.{mark, sign, word, field_token, spell, spell_binds, Right, Good, GoodBinds, is_word, is_in}
use Rattle.tla_tree.specs.Reader.{any, next, tail, free, behind, Readers, element, set_rest, brace_rest, set_from, member_rest, brace_name, braces, tuples, field_rest, function_rest, square_rest, square_from, bind_rest, square_member, plain_field, square_name, squares}
use Rattle.tla_tree.proofs.ReadMembers.{is_member, bind_member}
use Rattle.tla_tree.proofs.SoundTokens.{then_ok, ok_is, given, seen, mark_ok, word_ok, ended_ok}
use Rattle.tla_tree.proofs.SoundPhrases.{IsPrime, IsGroup, Sound, no_word, no_in, element_is, from_name_sound}

moved : (e : ℕ) (a : Phrase) (us : List Token) {ts vs : List Token} → IsPrime e ts a us → ts ≡ vs → IsPrime e vs a us
moved e a us w s = (w.0, w.1, w.2 ∙ s)

module _ (r : Readers) (h : Sound r) where
  -- ---- braces
  set_rest_sound : (e : ℕ) (p : Place) → Right e p → (b : Phrase) → Good e b → (q : Place) (k : TokenView) (ts : List Token) (a : Phrase) (us : List Token) → next e ts ≡ token q k → set_rest r e p b q k ts ≡ Ok (a, us) → IsPrime e (mark p tk.open_brace (spell b ts)) a us
  set_rest_sound e p g b gb q (tk.mark tk.comma) ts a us s o =
      let n = seen e ts q (tk.mark tk.comma) s refl in
      let v = then_ok o in
      let w = h.phrases e (tail ts) v.0 v.1 v.2 in
      let z = ended_ok e tk.close_brace (λ i. set_of p (more b q v.0) i) v.3 in
      rw (sym z.3) ((g, (gb, n.0, w.0), z.1), refl, rw (z.2, w.1, n.1) refl)
  set_rest_sound e p g b gb q k ts a us s o =
      let z = ended_ok e tk.close_brace (λ i. set_of p (last b) i) o in
      rw (sym z.3) ((g, gb, z.1), refl, rw z.2 refl)

  brace_rest_sound : (e : ℕ) (p : Place) → Right e p → (b : Phrase) → Good e b → is_member b ≡ false → (q : Place) (k : TokenView) (ts : List Token) (a : Phrase) (us : List Token) → next e ts ≡ token q k → brace_rest r e p b q k ts ≡ Ok (a, us) → IsPrime e (mark p tk.open_brace (spell b ts)) a us
  brace_rest_sound e p g b gb m q (tk.mark tk.colon) ts a us s o =
      let n = seen e ts q (tk.mark tk.colon) s refl in
      let v = then_ok o in
      let w = word_ok e (tail ts) v.0 v.1 v.2 in
      let u = then_ok v.3 in
      let i = h.binds e v.0.0 v.0.1 w.0 v.1 u.0 u.1 u.2 in
      let z = ended_ok e tk.close_brace (λ j. image p b q u.0 j) u.3 in
      rw (sym z.3) ((g, gb, n.0, i.0, z.1, ap not (bind_member e b gb ∙ m)), refl, rw (z.2, i.1, w.1, n.1) refl)
  brace_rest_sound e p g b gb m q k ts a us s o = set_rest_sound e p g b gb q k ts a us s o

  set_from_sound : (e : ℕ) (p : Place) → Right e p → (q : Place) (x : Word) (t : Place) → Right e q → Right e t → (b : Phrase) → Good e b → (ts : List Token) (a : Phrase) (us : List Token) → set_from (any r) r e p (element q x t b) ts ≡ Ok (a, us) → IsPrime e (mark p tk.open_brace (word q x (sign t op.In (spell b ts)))) a us
  set_from_sound e p g q x t gq gt b gb ts a us o = by (element q x t b) refl o
    where
      by : (m : Option Phrase) → element q x t b ≡ m → set_from (any r) r e p m ts ≡ Ok (a, us) → IsPrime e (mark p tk.open_brace (word q x (sign t op.In (spell b ts)))) a us
      by (Some c) i o = (let w = element_is e q x t gq gt b c gb i in moved e a us (set_rest_sound e p g c w.0 (next e ts).place (next e ts).kind ts a us refl o) (ap (λ (vs : List Token). mark p tk.open_brace vs) (w.1 ts)))
      by None i o = absurd cc

  member_rest_sound : (e : ℕ) (p : Place) → Right e p → (q : Place) (x : Word) (t : Place) → Right e q → Right e t → (b : Phrase) → Good e b → (j : Place) (k : TokenView) (ts : List Token) (a : Phrase) (us : List Token) → next e ts ≡ token j k → member_rest (any r) r e p q x t b j k ts ≡ Ok (a, us) → IsPrime e (mark p tk.open_brace (word q x (sign t op.In (spell b ts)))) a us
  member_rest_sound e p g q x t gq gt b gb j (tk.mark tk.colon) ts a us s o =
      let n = seen e ts j (tk.mark tk.colon) s refl in
      let v = then_ok o in
      let w = h.expr e free (tail ts) v.0 v.1 v.2 in
      let z = ended_ok e tk.close_brace (λ i. filter p q x t b j v.0 i) v.3 in
      rw (sym z.3) ((g, gq, gt, gb, n.0, w.0, z.1), refl, rw (z.2, w.2, n.1) refl)
  member_rest_sound e p g q x t gq gt b gb j k ts a us s o = set_from_sound e p g q x t gq gt b gb ts a us o

  brace_name_other : (e : ℕ) (p : Place) → Right e p → (q : Place) (x : Word) → Right e q → (ts : List Token) (a : Phrase) (us : List Token) → is_in (next e ts).kind ≡ false → brace_name (any r) r e p q x (next e ts).place (tk.other []) ts ≡ Ok (a, us) → IsPrime e (mark p tk.open_brace (word q x ts)) a us
  brace_name_other e p g q x gq ts a us i o =
      let v = then_ok o in
      let f = from_name_sound r h e q x gq ts v.0 v.1 v.2 in
      let u = then_ok v.3 in
      let c = h.climb e free v.0 f.0 refl v.1 u.0 u.1 u.2 in
      let m = no_in e u.0 c.0 q x ts u.1 (c.2 ∙ f.2) i in
      moved e a us (brace_rest_sound e p g u.0 c.0 m (next e u.1).place (next e u.1).kind u.1 a us refl u.3) (ap (λ (vs : List Token). mark p tk.open_brace vs) (c.2 ∙ f.2))

  brace_name_sound : (e : ℕ) (p : Place) → Right e p → (q : Place) (x : Word) → Right e q → (t : Place) (k : TokenView) (ts : List Token) (a : Phrase) (us : List Token) → next e ts ≡ token t k → brace_name (any r) r e p q x t k ts ≡ Ok (a, us) → IsPrime e (mark p tk.open_brace (word q x ts)) a us
  brace_name_sound e p g q x gq t (tk.sign op.In) ts a us s o =
      let n = seen e ts t (tk.sign op.In) s refl in
      let v = then_ok o in
      let w = h.expr e (behind q x t) (tail ts) v.0 v.1 v.2 in
      moved e a us (member_rest_sound e p g q x t gq n.0 v.0 w.0 (next e v.1).place (next e v.1).kind v.1 a us refl v.3) (rw (w.2, n.1) refl)
  brace_name_sound e p g q x gq t k ts a us s o = brace_name_other e p g q x gq ts a us (ap (λ (i : Token). is_in i.kind) s) o

  braces_other : (e : ℕ) (p : Place) → Right e p → (ts : List Token) (a : Phrase) (us : List Token) → is_word (next e ts).kind ≡ false → braces (any r) r e p (next e ts).place (tk.other []) ts ≡ Ok (a, us) → IsPrime e (mark p tk.open_brace ts) a us
  braces_other e p g ts a us i o =
      let v = then_ok o in
      let w = h.expr e free ts v.0 v.1 v.2 in
      let m = no_word e v.0 w.0 ts v.1 w.2 i in
      moved e a us (brace_rest_sound e p g v.0 w.0 m (next e v.1).place (next e v.1).kind v.1 a us refl v.3) (ap (λ (vs : List Token). mark p tk.open_brace vs) w.2)

  pub braces_sound : (e : ℕ) (p : Place) → Right e p → (q : Place) (k : TokenView) (ts : List Token) (a : Phrase) (us : List Token) → next e ts ≡ token q k → braces (any r) r e p q k ts ≡ Ok (a, us) → IsPrime e (mark p tk.open_brace ts) a us
  braces_sound e p g q (tk.mark tk.close_brace) ts a us s o =
      let n = seen e ts q (tk.mark tk.close_brace) s refl in
      let w = ok_is o in
      rw (sym w.0, sym w.1) ((g, n.0), refl, rw n.1 refl)
  braces_sound e p g q (tk.word x) ts a us s o =
      let n = seen e ts q (tk.word x) s refl in
      moved e a us (brace_name_sound e p g q x n.0 (next e (tail ts)).place (next e (tail ts)).kind (tail ts) a us refl o) (rw n.1 refl)
  braces_sound e p g q k ts a us s o = braces_other e p g ts a us (ap (λ (i : Token). is_word i.kind) s) o

  -- ---- tuples
  tuples_other : (e : ℕ) (p : Place) → Right e p → (q : Place) (ts : List Token) (a : Phrase) (us : List Token) → tuples r e p q (tk.other []) ts ≡ Ok (a, us) → IsPrime e (mark p tk.open_tuple ts) a us
  tuples_other e p g q ts a us o =
      let v = then_ok o in
      let w = h.phrases e ts v.0 v.1 v.2 in
      let z = ended_ok e tk.close_tuple (λ i. tuple p v.0 i) v.3 in
      rw (sym z.3) ((g, w.0, z.1), refl, rw (z.2, w.1) refl)

  pub tuples_sound : (e : ℕ) (p : Place) → Right e p → (q : Place) (k : TokenView) (ts : List Token) (a : Phrase) (us : List Token) → next e ts ≡ token q k → tuples r e p q k ts ≡ Ok (a, us) → IsPrime e (mark p tk.open_tuple ts) a us
  tuples_sound e p g q (tk.mark tk.close_tuple) ts a us s o =
      let n = seen e ts q (tk.mark tk.close_tuple) s refl in
      let w = ok_is o in
      rw (sym w.0, sym w.1) ((g, n.0), refl, rw n.1 refl)
  tuples_sound e p g q k ts a us s o = tuples_other e p g q ts a us o

  -- ---- square brackets
  field_rest_sound : (e : ℕ) (p : Place) → Right e p → (f : Field) → Right e f.place → (q : Place) (k : TokenView) (ts : List Token) (a : Phrase) (us : List Token) → field_rest r e p f q k ts ≡ Ok (a, us) → IsPrime e (mark p tk.open_square (field_token f ts)) a us
  field_rest_sound e p g f gf q (tk.mark tk.maps) ts a us o =
      let v = then_ok o in
      let w = h.fields e tk.maps f gf ts v.0 v.1 v.2 in
      let z = ended_ok e tk.close_square (λ i. fields p v.0 i) v.3 in
      rw (sym z.3) ((g, w.0, z.1), refl, rw (z.2, w.1) refl)
  field_rest_sound e p g f gf q (tk.mark tk.colon) ts a us o =
      let v = then_ok o in
      let w = h.fields e tk.colon f gf ts v.0 v.1 v.2 in
      let z = ended_ok e tk.close_square (λ i. records p v.0 i) v.3 in
      rw (sym z.3) ((g, w.0, z.1), refl, rw (z.2, w.1) refl)
  field_rest_sound e p g f gf q k ts a us o = absurd cc

  function_rest_sound : (e : ℕ) (p : Place) → Right e p → (bs : Binds) → GoodBinds e bs → (ts : List Token) (a : Phrase) (us : List Token) → function_rest r e p bs ts ≡ Ok (a, us) → IsPrime e (mark p tk.open_square (spell_binds bs ts)) a us
  function_rest_sound e p g bs gb ts a us o =
      let v = then_ok o in
      let m = mark_ok e tk.maps ts v.0 v.1 v.2 in
      let u = then_ok v.3 in
      let w = h.expr e free v.1 u.0 u.1 u.2 in
      let z = ended_ok e tk.close_square (λ i. function p bs v.0 u.0 i) u.3 in
      rw (sym z.3) ((g, gb, m.0, w.0, z.1), refl, rw (z.2, w.2, m.1) refl)

  square_rest_sound : (e : ℕ) (p : Place) → Right e p → (b : Phrase) → Good e b → (q : Place) (k : TokenView) (ts : List Token) (a : Phrase) (us : List Token) → next e ts ≡ token q k → square_rest r e p b q k ts ≡ Ok (a, us) → IsPrime e (mark p tk.open_square (spell b ts)) a us
  square_rest_sound e p g b gb q (tk.mark tk.arrow) ts a us s o =
      let n = seen e ts q (tk.mark tk.arrow) s refl in
      let v = then_ok o in
      let w = h.expr e free (tail ts) v.0 v.1 v.2 in
      let z = ended_ok e tk.close_square (λ i. functions p b q v.0 i) v.3 in
      rw (sym z.3) ((g, gb, n.0, w.0, z.1), refl, rw (z.2, w.2, n.1) refl)
  square_rest_sound e p g b gb q (tk.key tk.except_key) ts a us s o =
      let n = seen e ts q (tk.key tk.except_key) s refl in
      let v = then_ok o in
      let w = h.settings e (tail ts) v.0 v.1 v.2 in
      let z = ended_ok e tk.close_square (λ i. except p b q v.0 i) v.3 in
      rw (sym z.3) ((g, gb, n.0, w.0, z.1), refl, rw (z.2, w.1, n.1) refl)
  square_rest_sound e p g b gb q k ts a us s o = absurd cc

  square_from_sound : (e : ℕ) (p : Place) → Right e p → (q : Place) (x : Word) (t : Place) → Right e q → Right e t → (b : Phrase) → Good e b → (ts : List Token) (a : Phrase) (us : List Token) → square_from (any r) r e p (element q x t b) ts ≡ Ok (a, us) → IsPrime e (mark p tk.open_square (word q x (sign t op.In (spell b ts)))) a us
  square_from_sound e p g q x t gq gt b gb ts a us o = by (element q x t b) refl o
    where
      by : (m : Option Phrase) → element q x t b ≡ m → square_from (any r) r e p m ts ≡ Ok (a, us) → IsPrime e (mark p tk.open_square (word q x (sign t op.In (spell b ts)))) a us
      by (Some c) i o = (let w = element_is e q x t gq gt b c gb i in moved e a us (square_rest_sound e p g c w.0 (next e ts).place (next e ts).kind ts a us refl o) (ap (λ (vs : List Token). mark p tk.open_square vs) (w.1 ts)))
      by None i o = absurd cc

  pub bind_rest_sound : (e : ℕ) (q : Place) (x : Word) (t : Place) → Right e q → Right e t → (b : Phrase) → Good e b → (j : Place) (k : TokenView) (ts : List Token) (bs : Binds) (us : List Token) → next e ts ≡ token j k → bind_rest r e q x t b j k ts ≡ Ok (bs, us) → IsGroup e (word q x (sign t op.In (spell b ts))) bs us
  bind_rest_sound e q x t gq gt b gb j (tk.mark tk.comma) ts bs us s o =
      let n = seen e ts j (tk.mark tk.comma) s refl in
      let v = then_ok o in
      let w = word_ok e (tail ts) v.0 v.1 v.2 in
      let u = then_ok v.3 in
      let i = h.binds e v.0.0 v.0.1 w.0 v.1 u.0 u.1 u.2 in
      given (λ ds vs. IsGroup e (word q x (sign t op.In (spell b ts))) ds vs) u.3 ((gq, gt, gb, n.0, i.0), rw (i.1, w.1, n.1) refl)
  bind_rest_sound e q x t gq gt b gb j k ts bs us s o = (let z = ok_is o in rw (sym z.0, sym z.1) ((gq, gt, gb), refl))

  square_member_sound : (e : ℕ) (p : Place) → Right e p → (q : Place) (x : Word) (t : Place) → Right e q → Right e t → (b : Phrase) → Good e b → (j : Place) (k : TokenView) (ts : List Token) (a : Phrase) (us : List Token) → next e ts ≡ token j k → square_member (any r) r e p q x t b j k ts ≡ Ok (a, us) → IsPrime e (mark p tk.open_square (word q x (sign t op.In (spell b ts)))) a us
  square_member_sound e p g q x t gq gt b gb j (tk.mark tk.maps) ts a us s o = function_rest_sound e p g (last_bind q x t b) (gq, gt, gb) ts a us o
  square_member_sound e p g q x t gq gt b gb j (tk.mark tk.comma) ts a us s o =
      let v = then_ok o in
      let w = bind_rest_sound e q x t gq gt b gb (next e ts).place (next e ts).kind ts v.0 v.1 refl v.2 in
      moved e a us (function_rest_sound e p g v.0 w.0 v.1 a us v.3) (ap (λ (vs : List Token). mark p tk.open_square vs) w.1)
  square_member_sound e p g q x t gq gt b gb j k ts a us s o = square_from_sound e p g q x t gq gt b gb ts a us o

  square_name_other : (e : ℕ) (p : Place) → Right e p → (q : Place) (x : Word) → Right e q → (t : Place) (ts : List Token) (a : Phrase) (us : List Token) → square_name (any r) r e p q x t (tk.other []) ts ≡ Ok (a, us) → IsPrime e (mark p tk.open_square (word q x ts)) a us
  square_name_other e p g q x gq t ts a us o =
      let v = then_ok o in
      let f = from_name_sound r h e q x gq ts v.0 v.1 v.2 in
      let u = then_ok v.3 in
      let c = h.climb e free v.0 f.0 refl v.1 u.0 u.1 u.2 in
      moved e a us (square_rest_sound e p g u.0 c.0 (next e u.1).place (next e u.1).kind u.1 a us refl u.3) (ap (λ (vs : List Token). mark p tk.open_square vs) (c.2 ∙ f.2))

  square_name_sound : (e : ℕ) (p : Place) → Right e p → (q : Place) (x : Word) → Right e q → (t : Place) (k : TokenView) (ts : List Token) (a : Phrase) (us : List Token) → next e ts ≡ token t k → square_name (any r) r e p q x t k ts ≡ Ok (a, us) → IsPrime e (mark p tk.open_square (word q x ts)) a us
  square_name_sound e p g q x gq t (tk.mark tk.maps) ts a us s o = field_rest_sound e p g (plain_field q x) gq t (tk.mark tk.maps) ts a us o
  square_name_sound e p g q x gq t (tk.mark tk.colon) ts a us s o = field_rest_sound e p g (plain_field q x) gq t (tk.mark tk.colon) ts a us o
  square_name_sound e p g q x gq t (tk.mark tk.comma) ts a us s o =
      let v = then_ok o in
      let w = h.binds e q x gq ts v.0 v.1 v.2 in
      moved e a us (function_rest_sound e p g v.0 w.0 v.1 a us v.3) (ap (λ (vs : List Token). mark p tk.open_square vs) w.1)
  square_name_sound e p g q x gq t (tk.sign op.In) ts a us s o =
      let n = seen e ts t (tk.sign op.In) s refl in
      let v = then_ok o in
      let w = h.expr e (behind q x t) (tail ts) v.0 v.1 v.2 in
      moved e a us (square_member_sound e p g q x t gq n.0 v.0 w.0 (next e v.1).place (next e v.1).kind v.1 a us refl v.3) (rw (w.2, n.1) refl)
  square_name_sound e p g q x gq t k ts a us s o = square_name_other e p g q x gq t ts a us o

  squares_other : (e : ℕ) (p : Place) → Right e p → (q : Place) (ts : List Token) (a : Phrase) (us : List Token) → squares (any r) r e p q (tk.other []) ts ≡ Ok (a, us) → IsPrime e (mark p tk.open_square ts) a us
  squares_other e p g q ts a us o =
      let v = then_ok o in
      let w = h.expr e free ts v.0 v.1 v.2 in
      moved e a us (square_rest_sound e p g v.0 w.0 (next e v.1).place (next e v.1).kind v.1 a us refl v.3) (ap (λ (vs : List Token). mark p tk.open_square vs) w.2)

  pub squares_sound : (e : ℕ) (p : Place) → Right e p → (q : Place) (k : TokenView) (ts : List Token) (a : Phrase) (us : List Token) → next e ts ≡ token q k → squares (any r) r e p q k ts ≡ Ok (a, us) → IsPrime e (mark p tk.open_square ts) a us
  squares_sound e p g q (tk.reserved x) ts a us s o =
      let n = seen e ts q (tk.reserved x) s refl in
      moved e a us (field_rest_sound e p g (record { place = q; is_reserved = true; text = x }) n.0 (next e (tail ts)).place (next e (tail ts)).kind (tail ts) a us o) (rw n.1 refl)
  squares_sound e p g q (tk.word x) ts a us s o =
      let n = seen e ts q (tk.word x) s refl in
      moved e a us (square_name_sound e p g q x n.0 (next e (tail ts)).place (next e (tail ts)).kind (tail ts) a us refl o) (rw n.1 refl)
  squares_sound e p g q k ts a us s o = squares_other e p g q ts a us o
