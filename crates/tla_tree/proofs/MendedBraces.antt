-- What stands before a refused token can be gone on with: names, braces, tuples and square brackets.
use Rattle.std.proofs.Common.{◌≡◌, ℕ, ◌+◌, ◌≤◌, Bool, true, false, ◌||◌, not, List, [], ◌∷◌, Option, Some, None, Err, inl, inr, refl, sym, ap, ◌∙◌, arith}
use Rattle.tla_token.specs.declared.place.Place.{Place}
use Rattle.tla_tree.specs.declared.op.Op.TheVariants as op
use Rattle.tla_tree.specs.Tree.{Word}
use Rattle.tla_tree.specs.Lexical.{TokenView, Token, token}
use Rattle.tla_tree.specs.Lexical as tk
use Rattle.tla_tree.specs.Spelling.{Field, Phrase, name, call, set_of, filter, image, tuple, fields, records, function, functions, except}
use Rattle.tla_tree.specs.Spelling.{last, more, Binds, last_bind, bind, last_field}
use Rattle.tla_tree.specs.Spelling.{mark, key, sign, word, field_token, spell, spell_all, spell_binds, spell_fields, spell_settings, Right, Good, GoodBinds, is_word, is_in}
use Rattle.tla_tree.specs.Wanted.{after, mark_at, sign_at, number_at, word_at, Wants, around, need_fit}
use Rattle.tla_tree.specs.Needs.{Needs, need_call, need_named, need_name, need_bind, need_set, need_brace, a_filter, need_element, need_set_from, need_condition, need_member, need_brace_name, need_braces, need_tuples, a_value, an_arrow, need_field, need_function, need_square, need_left, need_square_from, need_arguments, need_argument, need_square_name, need_squares}
use Rattle.tla_tree.proofs.DeepCounts as cnt
use Rattle.tla_tree.proofs.SpellAhead.{held, put_ahead, then_ahead, ahead, ahead_all, ahead_binds, ahead_fields, ahead_settings}
use Rattle.tla_tree.proofs.MendedCounts.{Few, cut_inside, cut_missing}
use Rattle.tla_tree.proofs.Mended.{FewBoth, right_after, some, some_bind, Mend, inside, missing, onto, regive, not_both, left_is, broken, refused_part, AliveFirst, alive_first, mark_err, word_err, gives_err, ended_err, Fits, Prime, Mends, MendsRoom, opened_err, deep_is}
use Rattle.tla_tree.specs.Nesting.{counts, counts_all, counts_binds, counts_fields, counts_settings}
use Rattle.tla_tree.specs.Reader.{Stop, Room, ◌>>=◌, ended, skip, peek, if_fits, is_mark, is_key, next, tail, free, Readers, element, named, from_name, set_rest, brace_rest, set_from, member_rest, brace_name, braces, tuples, field_rest, function_rest, square_rest, square_from, bind_rest, square_member, plain_field, square_name, squares}
use Rattle.tla_tree.proofs.ReadMembers.{is_member, bind_member}
use Rattle.tla_tree.proofs.SoundTokens.{seen, mark_ok, word_ok}
use Rattle.tla_tree.proofs.SoundPhrases.{Sound, no_word, no_in, element_is}
use Rattle.tla_tree.proofs.LimitedRooms.{Alive, AreLimited, PhraseFits, IsRoom}
use Rattle.tla_tree.proofs.ReadWithin.{Small, Read, are_read, named_read, from_read, bind_rest_read}

-- a phrase alone in braces, or before an arrow
module _ (lim : Bool) (most base : ℕ) (low : lim ≡ true → base + 1 ≤ most) (e : ℕ) (p : Place) (g : Right e p) {ts us u : List Token} {ws : Wants} where
  in_braces : Mend lim ws (Small lim most (counts (base + 1))) (Few counts 1) (Prime e) spell us u → ts ≡ mark p tk.open_brace us → Mend lim (around ws (mark_at e tk.close_brace ∷ [])) (Small lim most (counts base)) (Few counts 1) (Prime e) spell ts u
  in_braces m s = inside (λ v. mark p tk.open_brace v) (put_ahead held) (mark_at e tk.close_brace ∷ []) m (set_of p (last m.whole) (after e)) ((g, m.good.0, right_after e), refl) (λ z c i. search (low, m.fits)) (λ k n. cut_inside (λ u. ((n + 1) ∷ u)) (put_ahead held) (λ u. ((n + 1) ∷ u)) (mark_at e tk.close_brace ∷ []) (λ u. refl) (λ u. omega arith) (inr ((n + 1), λ u. refl, omega arith)) (omega arith) m.fix (k (n + 1))) (λ v. refl) s

  fits_in_braces : Mend lim ws (Small lim most (counts (base + 1))) (Few counts 1) (Fits free e) spell us u → ts ≡ mark p tk.open_brace us → Mend lim (around ws (mark_at e tk.close_brace ∷ [])) (Small lim most (counts base)) (Few counts 1) (Prime e) spell ts u
  fits_in_braces m s = inside (λ v. mark p tk.open_brace v) (put_ahead held) (mark_at e tk.close_brace ∷ []) m (set_of p (last m.whole) (after e)) ((g, m.good.0, right_after e), refl) (λ z c i. search (low, m.fits)) (λ k n. cut_inside (λ u. ((n + 1) ∷ u)) (put_ahead held) (λ u. ((n + 1) ∷ u)) (mark_at e tk.close_brace ∷ []) (λ u. refl) (λ u. omega arith) (inr ((n + 1), λ u. refl, omega arith)) (omega arith) m.fix (k (n + 1))) (λ v. refl) s

  in_squares : Mend lim ws (Small lim most (counts (base + 1))) (Few counts 1) (Prime e) spell us u → ts ≡ mark p tk.open_square us → Mend lim (around ws (an_arrow e)) (Small lim most (counts base)) (Few counts 1) (Prime e) spell ts u
  in_squares m s = inside (λ v. mark p tk.open_square v) (put_ahead held) (mark_at e tk.arrow ∷ number_at e ∷ mark_at e tk.close_square ∷ []) m (functions p m.whole (after e) (some e) (after e)) ((g, m.good.0, right_after e, right_after e, right_after e), refl) (λ z c i. search (low, m.fits)) (λ k n. cut_inside (λ u. ((n + 1) ∷ u)) (put_ahead held) (λ u. ((n + 1) ∷ ((n + 1) ∷ ((n + 1) ∷ u)))) (mark_at e tk.arrow ∷ number_at e ∷ mark_at e tk.close_square ∷ []) (λ u. refl) (λ u. omega arith) (inr ((n + 1), λ u. refl, omega arith)) (omega arith) m.fix (k (n + 1))) (λ v. refl) s

  fits_in_squares : Mend lim ws (Small lim most (counts (base + 1))) (Few counts 1) (Fits free e) spell us u → ts ≡ mark p tk.open_square us → Mend lim (around ws (an_arrow e)) (Small lim most (counts base)) (Few counts 1) (Prime e) spell ts u
  fits_in_squares m s = inside (λ v. mark p tk.open_square v) (put_ahead held) (mark_at e tk.arrow ∷ number_at e ∷ mark_at e tk.close_square ∷ []) m (functions p m.whole (after e) (some e) (after e)) ((g, m.good.0, right_after e, right_after e, right_after e), refl) (λ z c i. search (low, m.fits)) (λ k n. cut_inside (λ u. ((n + 1) ∷ u)) (put_ahead held) (λ u. ((n + 1) ∷ ((n + 1) ∷ ((n + 1) ∷ u)))) (mark_at e tk.arrow ∷ number_at e ∷ mark_at e tk.close_square ∷ []) (λ u. refl) (λ u. omega arith) (inr ((n + 1), λ u. refl, omega arith)) (omega arith) m.fix (k (n + 1))) (λ v. refl) s

module _ (lim : Bool) (most base : ℕ) (rm : Room) (r full : Readers) (sq : Sound full) (al : AreLimited true lim most base r full) (iv : IsRoom true lim most base rm full) {nd : Needs} (h : Mends lim most base r nd) (mv : MendsRoom lim most base rm nd) where
  -- ---- names
  named_mended : (e : ℕ) (p : Place) (x : Word) → Right e p → (t : Place) (k : TokenView) (ts : List Token) (u : Stop) → next e ts ≡ token t k → named rm e p x t k ts ≡ Err u → Mend lim (need_named rm nd e k ts) (Small lim most (counts base)) (Few counts 1) (Prime e) spell (word p x ts) u.1
  named_mended e p x g t (tk.mark tk.open_bracket) ts u i o =
      let n = seen e ts t (tk.mark tk.open_bracket) i refl in
      opened_err lim most base rm full iv mv 0 (base + 1) refl (λ i d. skip (d.phrases e >>= λ xs. ended e tk.close_bracket (λ z. call p x t xs z))) (λ i d. need_call d nd e) ts u o
      (λ d. missing (λ v. word p x v) (put_ahead held) [] (name p x) (g, refl) (λ z c i. search (al.low)) (λ n. cut_missing (λ u. (n ∷ u)) (put_ahead held) (λ u. u) [] (λ u. refl) (λ u. omega arith) (inl (refl, λ u. refl))) (λ v. refl) (rw d refl))
      (λ i d ad id hd md o. refused_part o
      (λ j. (let m = hd.phrases e (tail ts) u j in inside (λ v. word p x (mark t tk.open_bracket v)) (put_ahead (put_ahead held)) (mark_at e tk.close_bracket ∷ []) m (call p x t m.whole (after e)) ((g, n.0, m.good, right_after e), refl) (λ z c i. search (al.low, ad.low, m.fits)) (λ k n. cut_inside (λ u. (n ∷ ((n + 1) ∷ u))) (put_ahead (put_ahead held)) (λ u. ((n + 1) ∷ u)) (mark_at e tk.close_bracket ∷ []) (λ u. refl) (λ u. omega arith) (inr ((n + 1), λ u. refl, omega arith)) (omega arith) m.fix (k (n + 1))) (λ v. refl) (rw n.1 refl)))
      (λ xs us j l. (let w = (are_read lim most (base + 1) d full sq ad).phrases e (tail ts) xs us j in let d' = ended_err e tk.close_bracket (λ i. call p x t xs i) us u l in
      missing (λ v. word p x (mark t tk.open_bracket (spell_all xs v))) (put_ahead (put_ahead (ahead_all xs))) (mark_at e tk.close_bracket ∷ []) (call p x t xs (after e)) ((g, n.0, w.0, right_after e), refl) (λ z c i. search (al.low, ad.low, w.2)) (λ n. cut_missing (λ u. (n ∷ ((n + 1) ∷ (counts_all (n + 1) xs u)))) (put_ahead (put_ahead (then_ahead (cnt.ahead_all (n + 1) xs) (held)))) (λ u. ((n + 1) ∷ u)) (mark_at e tk.close_bracket ∷ []) (λ u. refl) (λ u. omega arith) (inr ((n + 1), λ u. refl, omega arith))) (λ v. refl) (rw (sym d', w.1, n.1) refl))))
  named_mended e p x g t (tk.mark tk.prime) ts u i o = absurd cc
  named_mended e p x g t k ts u i o = absurd cc

  pub from_mended : (e : ℕ) (p : Place) (x : Word) → Right e p → (ts : List Token) (u : Stop) → from_name rm r e p x ts ≡ Err u → Mend lim (need_name rm nd e p x ts) (Small lim most (counts base)) (Few counts 1) (Prime e) spell (word p x ts) u.1
  from_mended e p x g ts u o =
      refused_part o
      (λ j. named_mended e p x g (next e ts).place (next e ts).kind ts u refl j)
      (λ b us j l. (let w = named_read lim most base rm r full sq al iv e p x g (next e ts).place (next e ts).kind ts b us refl j in onto w.2 (h.postfix e b w.0 w.1 w.3 us u l)))

  -- ---- after `x \in S`
  pub bind_mended : (e : ℕ) (q : Place) (x : Word) (t : Place) → Right e q → Right e t → (b : Phrase) → Good e b → Small lim most (counts base) b → (j : Place) (k : TokenView) (ts : List Token) (u : Stop) → next e ts ≡ token j k → bind_rest r e q x t b j k ts ≡ Err u → Mend lim (need_bind nd e k ts) (Small lim most (counts_binds base)) (Few counts_binds 3) (GoodBinds e) spell_binds (word q x (sign t op.In (spell b ts))) u.1
  bind_mended e q x t gq gt b gb fb j (tk.mark tk.comma) ts u i o =
      let n = seen e ts j (tk.mark tk.comma) i refl in
      let z = right_after e in
      refused_part o
      (λ l. (let d = word_err e (tail ts) u l in missing (λ v. word q x (sign t op.In (spell b (mark j tk.comma v)))) (put_ahead (put_ahead (then_ahead (ahead b) (put_ahead held)))) (word_at e ∷ sign_at e op.In ∷ number_at e ∷ []) (bind q x t b j (some_bind e)) (gq, gt, gb, n.0, (z, z, z)) (λ z c i. search (al.low, fb)) (λ n. cut_missing (λ u. (n ∷ (n ∷ (counts n b (n ∷ u))))) (put_ahead (put_ahead (then_ahead (cnt.ahead_counts n b) (put_ahead held)))) (λ u. (n ∷ (n ∷ (n ∷ u)))) (word_at e ∷ sign_at e op.In ∷ number_at e ∷ []) (λ u. refl) (λ u. omega arith) (inr (n, λ u. refl, omega arith))) (λ v. refl) (rw (sym d, n.1) refl)))
      (λ y us l o. (let w = word_ok e (tail ts) y us l in
      broken o
      (λ l. (let m = h.binds e y.0 y.1 w.0 us u l in inside (λ v. word q x (sign t op.In (spell b (mark j tk.comma v)))) (put_ahead (put_ahead (then_ahead (ahead b) (put_ahead held)))) [] m (bind q x t b j m.whole) (gq, gt, gb, n.0, m.good) (λ z c i. search (al.low, fb, m.fits)) (λ k n. cut_inside (λ u. (n ∷ (n ∷ (counts n b (n ∷ u))))) (put_ahead (put_ahead (then_ahead (cnt.ahead_counts n b) (put_ahead held)))) (λ u. u) [] (λ u. refl) (λ u. omega arith) (inl (refl, λ u. refl)) (omega arith) m.fix (k n)) (λ v. refl) (rw (w.1, n.1) refl)))
      (λ bs vs l o. gives_err (bind q x t b j bs) vs u o)))
  bind_mended e q x t gq gt b gb fb j k ts u i o = absurd cc

module _ (lim : Bool) (most base : ℕ) (rm : Room) (r full : Readers) (sq : Sound full) (al : AreLimited true lim most (base + 1) r full) (iv : IsRoom true lim most (base + 1) rm full) {nd : Needs} (h : Mends lim most (base + 1) r nd) (mv : MendsRoom lim most (base + 1) rm nd) where
  s : Read lim most (base + 1) r
  s = are_read lim most (base + 1) r full sq al

  here : base + 1 ≡ (base + 1) + 0
  here = omega arith

  -- ---- braces
  set_mended : (e : ℕ) (p : Place) → Right e p → (b : Phrase) → Good e b → Small lim most (counts (base + 1)) b → (q : Place) (k : TokenView) (ts : List Token) (u : Stop) → next e ts ≡ token q k → set_rest r e p b q k ts ≡ Err u → Mend lim (need_set r nd e k ts) (Small lim most (counts base)) (Few counts 1) (Prime e) spell (mark p tk.open_brace (spell b ts)) u.1
  set_mended e p g b gb fb q (tk.mark tk.comma) ts u i o =
      let n = seen e ts q (tk.mark tk.comma) i refl in
      refused_part o
      (λ j. (let m = h.phrases e (tail ts) u j in inside (λ v. mark p tk.open_brace (spell b (mark q tk.comma v))) (put_ahead (then_ahead (ahead b) (put_ahead held))) (mark_at e tk.close_brace ∷ []) m (set_of p (more b q m.whole) (after e)) ((g, (gb, n.0, m.good), right_after e), refl) (λ z c i. search (al.low, fb, m.fits)) (λ k n. cut_inside (λ u. ((n + 1) ∷ (counts (n + 1) b ((n + 1) ∷ u)))) (put_ahead (then_ahead (cnt.ahead_counts (n + 1) b) (put_ahead held))) (λ u. ((n + 1) ∷ u)) (mark_at e tk.close_brace ∷ []) (λ u. refl) (λ u. omega arith) (inr ((n + 1), λ u. refl, omega arith)) (omega arith) m.fix (k (n + 1))) (λ v. refl) (rw n.1 refl)))
      (λ xs us j l. (let w = s.phrases e (tail ts) xs us j in let d = ended_err e tk.close_brace (λ i. set_of p (more b q xs) i) us u l in
      missing (λ v. mark p tk.open_brace (spell b (mark q tk.comma (spell_all xs v)))) (put_ahead (then_ahead (ahead b) (put_ahead (ahead_all xs)))) (mark_at e tk.close_brace ∷ []) (set_of p (more b q xs) (after e)) ((g, (gb, n.0, w.0), right_after e), refl) (λ z c i. search (al.low, fb, w.2)) (λ n. cut_missing (λ u. ((n + 1) ∷ (counts (n + 1) b ((n + 1) ∷ (counts_all (n + 1) xs u))))) (put_ahead (then_ahead (cnt.ahead_counts (n + 1) b) (put_ahead (then_ahead (cnt.ahead_all (n + 1) xs) (held))))) (λ u. ((n + 1) ∷ u)) (mark_at e tk.close_brace ∷ []) (λ u. refl) (λ u. omega arith) (inr ((n + 1), λ u. refl, omega arith))) (λ v. refl) (rw (sym d, w.1, n.1) refl)))
  set_mended e p g b gb fb q k ts u i o =
      let d = ended_err e tk.close_brace (λ t. set_of p (last b) t) ts u o in
      missing (λ v. mark p tk.open_brace (spell b v)) (put_ahead (ahead b)) (mark_at e tk.close_brace ∷ []) (set_of p (last b) (after e)) ((g, gb, right_after e), refl) (λ z c i. search (al.low, fb)) (λ n. cut_missing (λ u. ((n + 1) ∷ (counts (n + 1) b u))) (put_ahead (then_ahead (cnt.ahead_counts (n + 1) b) (held))) (λ u. ((n + 1) ∷ u)) (mark_at e tk.close_brace ∷ []) (λ u. refl) (λ u. omega arith) (inr ((n + 1), λ u. refl, omega arith))) (λ v. refl) (rw d refl)

  brace_mended : (e : ℕ) (p : Place) → Right e p → (b : Phrase) → Good e b → Small lim most (counts (base + 1)) b → is_member b ≡ false → (q : Place) (k : TokenView) (ts : List Token) (u : Stop) → next e ts ≡ token q k → brace_rest r e p b q k ts ≡ Err u → Mend lim (need_brace r nd e k ts) (Small lim most (counts base)) (Few counts 1) (Prime e) spell (mark p tk.open_brace (spell b ts)) u.1
  brace_mended e p g b gb fb m q (tk.mark tk.colon) ts u i o =
      let n = seen e ts q (tk.mark tk.colon) i refl in
      let f = ap not (bind_member e b gb ∙ m) in
      let z = right_after e in
      refused_part o
      (λ j. (let d = word_err e (tail ts) u j in missing (λ v. mark p tk.open_brace (spell b (mark q tk.colon v))) (put_ahead (then_ahead (ahead b) (put_ahead held))) (word_at e ∷ sign_at e op.In ∷ number_at e ∷ mark_at e tk.close_brace ∷ []) (image p b q (some_bind e) (after e)) ((g, gb, n.0, (z, z, z), z, f), refl) (λ z c i. search (al.low, fb) depth 12) (λ n. cut_missing (λ u. ((n + 1) ∷ (counts (n + 1) b ((n + 1) ∷ u)))) (put_ahead (then_ahead (cnt.ahead_counts (n + 1) b) (put_ahead held))) (λ u. ((n + 1) ∷ ((n + 1) ∷ ((n + 1) ∷ ((n + 1) ∷ u))))) (word_at e ∷ sign_at e op.In ∷ number_at e ∷ mark_at e tk.close_brace ∷ []) (λ u. refl) (λ u. omega arith) (inr ((n + 1), λ u. refl, omega arith))) (λ v. refl) (rw (sym d, n.1) refl)))
      (λ x us j l. (let w = word_ok e (tail ts) x us j in
      refused_part l
      (λ j. (let m = h.binds e x.0 x.1 w.0 us u j in inside (λ v. mark p tk.open_brace (spell b (mark q tk.colon v))) (put_ahead (then_ahead (ahead b) (put_ahead held))) (mark_at e tk.close_brace ∷ []) m (image p b q m.whole (after e)) ((g, gb, n.0, m.good, z, f), refl) (λ z c i. search (al.low, fb, m.fits)) (λ k n. cut_inside (λ u. ((n + 1) ∷ (counts (n + 1) b ((n + 1) ∷ u)))) (put_ahead (then_ahead (cnt.ahead_counts (n + 1) b) (put_ahead held))) (λ u. ((n + 1) ∷ u)) (mark_at e tk.close_brace ∷ []) (λ u. refl) (λ u. omega arith) (inr ((n + 1), λ u. refl, omega arith)) (omega arith) m.fix (k (n + 1))) (λ v. refl) (rw (w.1, n.1) refl)))
      (λ bs vs j l. (let y = s.binds e x.0 x.1 w.0 us bs vs j in let d = ended_err e tk.close_brace (λ i. image p b q bs i) vs u l in
      missing (λ v. mark p tk.open_brace (spell b (mark q tk.colon (spell_binds bs v)))) (put_ahead (then_ahead (ahead b) (put_ahead (ahead_binds bs)))) (mark_at e tk.close_brace ∷ []) (image p b q bs (after e)) ((g, gb, n.0, y.0, z, f), refl) (λ z c i. search (al.low, fb, y.2)) (λ n. cut_missing (λ u. ((n + 1) ∷ (counts (n + 1) b ((n + 1) ∷ (counts_binds (n + 1) bs u))))) (put_ahead (then_ahead (cnt.ahead_counts (n + 1) b) (put_ahead (then_ahead (cnt.ahead_binds (n + 1) bs) (held))))) (λ u. ((n + 1) ∷ u)) (mark_at e tk.close_brace ∷ []) (λ u. refl) (λ u. omega arith) (inr ((n + 1), λ u. refl, omega arith))) (λ v. refl) (rw (sym d, y.1, w.1, n.1) refl)))))
  brace_mended e p g b gb fb m q k ts u i o = set_mended e p g b gb fb q k ts u i o

  -- after `{x \in S`, as a set for x or as an element, whichever fits
  abbrev Member : Wants → ℕ → Place → Place → Word → Place → Phrase → List Token → List Token → Type 0
  Member ws e p q x t b ts u = Mend lim ws (Small lim most (counts base)) (Few counts 1) (Prime e) spell (mark p tk.open_brace (word q x (sign t op.In (spell b ts)))) u

  member_by : (e : ℕ) (p : Place) → Right e p → (q : Place) (x : Word) (t : Place) → Right e q → Right e t → (b : Phrase) → Good e b → AliveFirst lim most (base + 1) q x t b → (ts : List Token) (u : Stop) → ts ≡ u.1 → Member (a_filter e ∷ []) e p q x t b ts u.1
  member_by e p g q x t gq gt b gb (inl f) ts u d =
      missing (λ v. mark p tk.open_brace (word q x (sign t op.In (spell b v)))) (put_ahead (put_ahead (put_ahead (ahead b)))) (mark_at e tk.colon ∷ number_at e ∷ mark_at e tk.close_brace ∷ []) (filter p q x t b (after e) (some e) (after e)) ((g, gq, gt, gb, right_after e, right_after e, right_after e), refl) (λ z c i. search (al.low, f)) (λ n. cut_missing (λ u. ((n + 1) ∷ ((n + 1) ∷ ((n + 1) ∷ (counts (n + 1) b u))))) (put_ahead (put_ahead (put_ahead (then_ahead (cnt.ahead_counts (n + 1) b) (held))))) (λ u. ((n + 1) ∷ ((n + 1) ∷ ((n + 1) ∷ u)))) (mark_at e tk.colon ∷ number_at e ∷ mark_at e tk.close_brace ∷ []) (λ u. refl) (λ u. omega arith) (inr ((n + 1), λ u. refl, omega arith))) (λ v. refl) (rw d refl)
  member_by e p g q x t gq gt b gb (inr (l, c, i, f)) ts u d =
      let w = element_is e q x t gq gt b c gb i in
      regive (λ z. not_both l z) (onto (ap (λ (vs : List Token). mark p tk.open_brace vs) (w.1 ts)) (missing (λ v. mark p tk.open_brace (spell c v)) (put_ahead (ahead c)) (mark_at e tk.close_brace ∷ []) (set_of p (last c) (after e)) ((g, w.0, right_after e), refl) (λ z c i. search (al.low, f)) (λ n. cut_missing (λ u. ((n + 1) ∷ (counts (n + 1) c u))) (put_ahead (then_ahead (cnt.ahead_counts (n + 1) c) (held))) (λ u. ((n + 1) ∷ u)) (mark_at e tk.close_brace ∷ []) (λ u. refl) (λ u. omega arith) (inr ((n + 1), λ u. refl, omega arith))) (λ v. refl) (rw d refl)))

  member_here : (e : ℕ) (p : Place) → Right e p → (q : Place) (x : Word) (t : Place) → Right e q → Right e t → (b : Phrase) → Good e b → Alive true lim most (base + 1) q x t b → (ts : List Token) (u : Stop) → ts ≡ u.1 → Member (a_filter e ∷ []) e p q x t b ts u.1
  member_here e p g q x t gq gt b gb a ts u d = member_by e p g q x t gq gt b gb (alive_first lim most (base + 1) q x t b a) ts u d

  -- within S
  member_inside : {ws : Wants} (e : ℕ) (p : Place) → Right e p → (q : Place) (x : Word) (t : Place) → Right e q → Right e t → (us u : List Token) → (m : Mend lim ws (Alive true lim most (base + 1) q x t) (FewBoth q x t) (Good e) spell us u) → Mend lim (around ws (a_filter e)) (Small lim most (counts base)) (Few counts 1) (Prime e) spell (mark p tk.open_brace (word q x (sign t op.In us))) u
  member_inside {ws} e p g q x t gq gt us u m = by (alive_first lim most (base + 1) q x t m.whole m.fits)
    where
      by : AliveFirst lim most (base + 1) q x t m.whole → Mend lim (around ws (a_filter e)) (Small lim most (counts base)) (Few counts 1) (Prime e) spell (mark p tk.open_brace (word q x (sign t op.In us))) u
      by (inl f) = inside (λ v. mark p tk.open_brace (word q x (sign t op.In v))) (put_ahead (put_ahead (put_ahead held))) (mark_at e tk.colon ∷ number_at e ∷ mark_at e tk.close_brace ∷ []) m (filter p q x t m.whole (after e) (some e) (after e)) ((g, gq, gt, m.good, right_after e, right_after e, right_after e), refl) (λ z c i. search (al.low, f)) (λ k n. cut_inside (λ u. (n + 1) ∷ (n + 1) ∷ (n + 1) ∷ u) (put_ahead (put_ahead (put_ahead held))) (λ u. (n + 1) ∷ (n + 1) ∷ (n + 1) ∷ u) (mark_at e tk.colon ∷ number_at e ∷ mark_at e tk.close_brace ∷ []) (λ u. refl) (λ u. omega arith) (inr ((n + 1), λ u. refl, omega arith)) (omega arith) m.fix (k.0 (n + 1))) (λ v. refl) refl
      by (inr (l, c, i, f)) =
          let w = element_is e q x t gq gt m.whole c m.good i in
          regive (λ z. not_both l z) (inside (λ v. mark p tk.open_brace (word q x (sign t op.In v))) (put_ahead (put_ahead (put_ahead held))) (mark_at e tk.close_brace ∷ []) m (set_of p (last c) (after e)) ((g, w.0, right_after e), refl) (λ z c i. search (al.low, f)) (λ k n. cut_inside (λ u. (n + 1) ∷ u) (put_ahead held) (λ u. (n + 1) ∷ u) (mark_at e tk.close_brace ∷ []) (λ u. refl) (λ u. omega arith) (inr ((n + 1), λ u. refl, omega arith)) (omega arith) m.fix (k.1 c i (n + 1))) (λ v. ap (λ (vs : List Token). mark p tk.open_brace vs) (w.1 (mark_at e tk.close_brace ∷ v))) refl)

  set_at : (e : ℕ) (p : Place) → Right e p → (q : Place) (x : Word) (t : Place) → Right e q → Right e t → (b : Phrase) → Good e b → Alive true lim most (base + 1) q x t b → (c : Phrase) → element q x t b ≡ Some c → (j : Place) (k : TokenView) (ts : List Token) (u : Stop) → next e ts ≡ token j k
      → if_fits (rm.fits 0 c || not (is_mark tk.comma k || is_mark tk.close_brace k)) (set_rest r e p c j k) ts ≡ Err u → Member (need_element rm r nd e c k ts) e p q x t b ts u.1
  set_at e p g q x t gq gt b gb al' c ci j (tk.mark tk.comma) ts u i o = by (rm.fits 0 c) (iv.fits 0 (base + 1) (λ z. here) al.low c) o
    where
      by : (f : Bool) → PhraseFits true lim most (base + 1) c f → if_fits (f || false) (set_rest r e p c j (tk.mark tk.comma)) ts ≡ Err u → Member (need_fit f (a_filter e ∷ []) (need_set r nd e (tk.mark tk.comma)) ts) e p q x t b ts u.1
      by true f o = (let w = element_is e q x t gq gt b c gb ci in onto (ap (λ (vs : List Token). mark p tk.open_brace vs) (w.1 ts)) (set_mended e p g c w.0 f j (tk.mark tk.comma) ts u i o))
      by false f o = member_here e p g q x t gq gt b gb al' ts u (deep_is {A = Phrase} o)
  set_at e p g q x t gq gt b gb al' c ci j (tk.mark tk.close_brace) ts u i o = by (rm.fits 0 c) (iv.fits 0 (base + 1) (λ z. here) al.low c) o
    where
      by : (f : Bool) → PhraseFits true lim most (base + 1) c f → if_fits (f || false) (set_rest r e p c j (tk.mark tk.close_brace)) ts ≡ Err u → Member (a_filter e ∷ []) e p q x t b ts u.1
      by true f o = member_here e p g q x t gq gt b gb al' ts u (ended_err e tk.close_brace (λ z. set_of p (last c) z) ts u o)
      by false f o = member_here e p g q x t gq gt b gb al' ts u (deep_is {A = Phrase} o)
  set_at e p g q x t gq gt b gb al' c ci j k ts u i o = by (rm.fits 0 c) o
    where
      by : (f : Bool) → if_fits (f || true) (set_rest r e p c j k) ts ≡ Err u → Member (a_filter e ∷ []) e p q x t b ts u.1
      by true o = member_here e p g q x t gq gt b gb al' ts u (ended_err e tk.close_brace (λ z. set_of p (last c) z) ts u o)
      by false o = member_here e p g q x t gq gt b gb al' ts u (ended_err e tk.close_brace (λ z. set_of p (last c) z) ts u o)

  set_from_mended : (e : ℕ) (p : Place) → Right e p → (q : Place) (x : Word) (t : Place) → Right e q → Right e t → (b : Phrase) → Good e b → Alive true lim most (base + 1) q x t b → (ts : List Token) (u : Stop) → set_from rm r e p (element q x t b) ts ≡ Err u → Member (need_set_from rm r nd e (element q x t b) ts) e p q x t b ts u.1
  set_from_mended e p g q x t gq gt b gb al' ts u o = by (element q x t b) refl o
    where
      by : (m : Option Phrase) → element q x t b ≡ m → set_from rm r e p m ts ≡ Err u → Member (need_set_from rm r nd e m ts) e p q x t b ts u.1
      by (Some c) i o = set_at e p g q x t gq gt b gb al' c i (next e ts).place (next e ts).kind ts u refl o
      by None i o = member_here e p g q x t gq gt b gb al' ts u (left_is {A = Phrase} o)

  member_mended : (e : ℕ) (p : Place) → Right e p → (q : Place) (x : Word) (t : Place) → Right e q → Right e t → (b : Phrase) → Good e b → Alive true lim most (base + 1) q x t b → (j : Place) (k : TokenView) (ts : List Token) (u : Stop) → next e ts ≡ token j k → member_rest rm r e p q x t b j k ts ≡ Err u → Member (need_member rm r nd e q x t b k ts) e p q x t b ts u.1
  member_mended e p g q x t gq gt b gb al' j (tk.mark tk.colon) ts u i o = by (rm.fits 0 b) (iv.fits 0 (base + 1) (λ z. here) al.low b) o
    where
      by : (f : Bool) → PhraseFits true lim most (base + 1) b f → if_fits f (skip (r.expr e free >>= λ a. ended e tk.close_brace (λ z. filter p q x t b j a z))) ts ≡ Err u → Member (need_fit f (a_filter e ∷ []) (need_condition r nd e) ts) e p q x t b ts u.1
      by true fb o =
          let n = seen e ts j (tk.mark tk.colon) i refl in
          refused_part o
          (λ l. (let m = h.expr e free refl (tail ts) u l in inside (λ v. mark p tk.open_brace (word q x (sign t op.In (spell b (mark j tk.colon v))))) (put_ahead (put_ahead (put_ahead (then_ahead (ahead b) (put_ahead held))))) (mark_at e tk.close_brace ∷ []) m (filter p q x t b j m.whole (after e)) ((g, gq, gt, gb, n.0, m.good.0, right_after e), refl) (λ z c i. search (al.low, fb, m.fits)) (λ k n. cut_inside (λ u. ((n + 1) ∷ ((n + 1) ∷ ((n + 1) ∷ (counts (n + 1) b ((n + 1) ∷ u)))))) (put_ahead (put_ahead (put_ahead (then_ahead (cnt.ahead_counts (n + 1) b) (put_ahead held))))) (λ u. ((n + 1) ∷ u)) (mark_at e tk.close_brace ∷ []) (λ u. refl) (λ u. omega arith) (inr ((n + 1), λ u. refl, omega arith)) (omega arith) m.fix (k (n + 1))) (λ v. refl) (rw n.1 refl)))
          (λ a us l o. (let w = s.expr e free refl (tail ts) a us l in let d = ended_err e tk.close_brace (λ i. filter p q x t b j a i) us u o in
          missing (λ v. mark p tk.open_brace (word q x (sign t op.In (spell b (mark j tk.colon (spell a v)))))) (put_ahead (put_ahead (put_ahead (then_ahead (ahead b) (put_ahead (ahead a)))))) (mark_at e tk.close_brace ∷ []) (filter p q x t b j a (after e)) ((g, gq, gt, gb, n.0, w.0, right_after e), refl) (λ z c i. search (al.low, fb, w.3)) (λ n. cut_missing (λ u. ((n + 1) ∷ ((n + 1) ∷ ((n + 1) ∷ (counts (n + 1) b ((n + 1) ∷ (counts (n + 1) a u))))))) (put_ahead (put_ahead (put_ahead (then_ahead (cnt.ahead_counts (n + 1) b) (put_ahead (then_ahead (cnt.ahead_counts (n + 1) a) (held))))))) (λ u. ((n + 1) ∷ u)) (mark_at e tk.close_brace ∷ []) (λ u. refl) (λ u. omega arith) (inr ((n + 1), λ u. refl, omega arith))) (λ v. refl) (rw (sym d, w.2, n.1) refl)))
      by false f o = member_here e p g q x t gq gt b gb al' ts u (deep_is {A = Phrase} o)
  member_mended e p g q x t gq gt b gb al' j k ts u i o = set_from_mended e p g q x t gq gt b gb al' ts u o

  brace_name_other : (e : ℕ) (p : Place) → Right e p → (q : Place) (x : Word) → Right e q → (ts : List Token) (u : Stop) → is_in (next e ts).kind ≡ false → brace_name rm r e p q x (next e ts).place (tk.other []) ts ≡ Err u → Mend lim (need_brace_name rm r nd e q x (next e ts).place (tk.other []) ts) (Small lim most (counts base)) (Few counts 1) (Prime e) spell (mark p tk.open_brace (word q x ts)) u.1
  brace_name_other e p g q x gq ts u i o =
      refused_part o
      (λ j. in_braces lim most base al.low e p g (from_mended lim most (base + 1) rm r full sq al iv h mv e q x gq ts u j) refl)
      (λ a us j l. (let f = from_read lim most (base + 1) rm r full sq al iv e q x gq ts a us j in
      refused_part l
      (λ j. fits_in_braces lim most base al.low e p g (h.climb e free refl a f.0 refl f.3 us u j) (rw f.2 refl))
      (λ b vs j l. (let c = s.climb e free refl a f.0 refl f.3 us b vs j in let m = no_in e b c.0 q x ts vs (c.2 ∙ f.2) i in
      onto (ap (λ (ws : List Token). mark p tk.open_brace ws) (c.2 ∙ f.2)) (brace_mended e p g b c.0 c.3 m (next e vs).place (next e vs).kind vs u refl l)))))

  brace_name_mended : (e : ℕ) (p : Place) → Right e p → (q : Place) (x : Word) → Right e q → (t : Place) (k : TokenView) (ts : List Token) (u : Stop) → next e ts ≡ token t k → brace_name rm r e p q x t k ts ≡ Err u → Mend lim (need_brace_name rm r nd e q x t k ts) (Small lim most (counts base)) (Few counts 1) (Prime e) spell (mark p tk.open_brace (word q x ts)) u.1
  brace_name_mended e p g q x gq t (tk.sign op.In) ts u i o =
      let n = seen e ts t (tk.sign op.In) i refl in
      refused_part o
      (λ j. onto (rw n.1 refl) (member_inside e p g q x t gq n.0 (tail ts) u.1 (h.set e q x t (tail ts) u j)))
      (λ a us j l. (let w = s.set e q x t (tail ts) a us j in onto (rw (w.1, n.1) refl) (member_mended e p g q x t gq n.0 a w.0 w.2 (next e us).place (next e us).kind us u refl l)))
  brace_name_mended e p g q x gq t k ts u i o = brace_name_other e p g q x gq ts u (ap (λ (z : Token). is_in z.kind) i) o

  braces_other : (e : ℕ) (p : Place) → Right e p → (ts : List Token) (u : Stop) → is_word (next e ts).kind ≡ false → braces rm r e p (next e ts).place (tk.other []) ts ≡ Err u → Mend lim (need_braces rm r nd e (next e ts).place (tk.other []) ts) (Small lim most (counts base)) (Few counts 1) (Prime e) spell (mark p tk.open_brace ts) u.1
  braces_other e p g ts u i o =
      refused_part o
      (λ j. fits_in_braces lim most base al.low e p g (h.expr e free refl ts u j) refl)
      (λ a us j l. (let w = s.expr e free refl ts a us j in let m = no_word e a w.0 ts us w.2 i in
      onto (ap (λ (ws : List Token). mark p tk.open_brace ws) w.2) (brace_mended e p g a w.0 w.3 m (next e us).place (next e us).kind us u refl l)))

  pub braces_mended : (e : ℕ) (p : Place) → Right e p → (q : Place) (k : TokenView) (ts : List Token) (u : Stop) → next e ts ≡ token q k → braces rm r e p q k ts ≡ Err u → Mend lim (need_braces rm r nd e q k ts) (Small lim most (counts base)) (Few counts 1) (Prime e) spell (mark p tk.open_brace ts) u.1
  braces_mended e p g q (tk.mark tk.close_brace) ts u i o = absurd cc
  braces_mended e p g q (tk.word x) ts u i o =
      let n = seen e ts q (tk.word x) i refl in
      onto (rw n.1 refl) (brace_name_mended e p g q x n.0 (next e (tail ts)).place (next e (tail ts)).kind (tail ts) u refl o)
  braces_mended e p g q k ts u i o = braces_other e p g ts u (ap (λ (z : Token). is_word z.kind) i) o

  -- ---- tuples
  tuples_other : (e : ℕ) (p : Place) → Right e p → (q : Place) (ts : List Token) (u : Stop) → tuples r e p q (tk.other []) ts ≡ Err u → Mend lim (need_tuples r nd e (tk.other []) ts) (Small lim most (counts base)) (Few counts 1) (Prime e) spell (mark p tk.open_tuple ts) u.1
  tuples_other e p g q ts u o =
      refused_part o
      (λ j. (let m = h.phrases e ts u j in inside (λ v. mark p tk.open_tuple v) (put_ahead held) (mark_at e tk.close_tuple ∷ []) m (tuple p m.whole (after e)) ((g, m.good, right_after e), refl) (λ z c i. search (al.low, m.fits)) (λ k n. cut_inside (λ u. ((n + 1) ∷ u)) (put_ahead held) (λ u. ((n + 1) ∷ u)) (mark_at e tk.close_tuple ∷ []) (λ u. refl) (λ u. omega arith) (inr ((n + 1), λ u. refl, omega arith)) (omega arith) m.fix (k (n + 1))) (λ v. refl) refl))
      (λ xs us j l. (let w = s.phrases e ts xs us j in let d = ended_err e tk.close_tuple (λ i. tuple p xs i) us u l in
      missing (λ v. mark p tk.open_tuple (spell_all xs v)) (put_ahead (ahead_all xs)) (mark_at e tk.close_tuple ∷ []) (tuple p xs (after e)) ((g, w.0, right_after e), refl) (λ z c i. search (al.low, w.2)) (λ n. cut_missing (λ u. ((n + 1) ∷ (counts_all (n + 1) xs u))) (put_ahead (then_ahead (cnt.ahead_all (n + 1) xs) (held))) (λ u. ((n + 1) ∷ u)) (mark_at e tk.close_tuple ∷ []) (λ u. refl) (λ u. omega arith) (inr ((n + 1), λ u. refl, omega arith))) (λ v. refl) (rw (sym d, w.1) refl)))

  pub tuples_mended : (e : ℕ) (p : Place) → Right e p → (q : Place) (k : TokenView) (ts : List Token) (u : Stop) → next e ts ≡ token q k → tuples r e p q k ts ≡ Err u → Mend lim (need_tuples r nd e k ts) (Small lim most (counts base)) (Few counts 1) (Prime e) spell (mark p tk.open_tuple ts) u.1
  tuples_mended e p g q (tk.mark tk.close_tuple) ts u i o = absurd cc
  tuples_mended e p g q k ts u i o = tuples_other e p g q ts u o

  -- ---- square brackets
  field_mended : (e : ℕ) (p : Place) → Right e p → (f : Field) → Right e f.place → (q : Place) (k : TokenView) (ts : List Token) (u : Stop) → field_rest r e p f q k ts ≡ Err u → Mend lim (need_field r nd e f k ts) (Small lim most (counts base)) (Few counts 1) (Prime e) spell (mark p tk.open_square (field_token f ts)) u.1
  field_mended e p g f gf q (tk.mark tk.maps) ts u o =
      refused_part o
      (λ j. (let m = h.fields e tk.maps f gf ts u j in inside (λ v. mark p tk.open_square v) (put_ahead held) (mark_at e tk.close_square ∷ []) m (fields p m.whole (after e)) ((g, m.good, right_after e), refl) (λ z c i. search (al.low, m.fits)) (λ k n. cut_inside (λ u. ((n + 1) ∷ u)) (put_ahead held) (λ u. ((n + 1) ∷ u)) (mark_at e tk.close_square ∷ []) (λ u. refl) (λ u. omega arith) (inr ((n + 1), λ u. refl, omega arith)) (omega arith) m.fix (k (n + 1))) (λ v. refl) refl))
      (λ fs us j l. (let w = s.fields e tk.maps f gf ts fs us j in let d = ended_err e tk.close_square (λ i. fields p fs i) us u l in
      missing (λ v. mark p tk.open_square (spell_fields tk.maps fs v)) (put_ahead (ahead_fields tk.maps fs)) (mark_at e tk.close_square ∷ []) (fields p fs (after e)) ((g, w.0, right_after e), refl) (λ z c i. search (al.low, w.2)) (λ n. cut_missing (λ u. ((n + 1) ∷ (counts_fields (n + 1) fs u))) (put_ahead (then_ahead (cnt.ahead_fields (n + 1) fs) (held))) (λ u. ((n + 1) ∷ u)) (mark_at e tk.close_square ∷ []) (λ u. refl) (λ u. omega arith) (inr ((n + 1), λ u. refl, omega arith))) (λ v. refl) (rw (sym d, w.1) refl)))
  field_mended e p g f gf q (tk.mark tk.colon) ts u o =
      refused_part o
      (λ j. (let m = h.fields e tk.colon f gf ts u j in inside (λ v. mark p tk.open_square v) (put_ahead held) (mark_at e tk.close_square ∷ []) m (records p m.whole (after e)) ((g, m.good, right_after e), refl) (λ z c i. search (al.low, m.fits)) (λ k n. cut_inside (λ u. ((n + 1) ∷ u)) (put_ahead held) (λ u. ((n + 1) ∷ u)) (mark_at e tk.close_square ∷ []) (λ u. refl) (λ u. omega arith) (inr ((n + 1), λ u. refl, omega arith)) (omega arith) m.fix (k (n + 1))) (λ v. refl) refl))
      (λ fs us j l. (let w = s.fields e tk.colon f gf ts fs us j in let d = ended_err e tk.close_square (λ i. records p fs i) us u l in
      missing (λ v. mark p tk.open_square (spell_fields tk.colon fs v)) (put_ahead (ahead_fields tk.colon fs)) (mark_at e tk.close_square ∷ []) (records p fs (after e)) ((g, w.0, right_after e), refl) (λ z c i. search (al.low, w.2)) (λ n. cut_missing (λ u. ((n + 1) ∷ (counts_fields (n + 1) fs u))) (put_ahead (then_ahead (cnt.ahead_fields (n + 1) fs) (held))) (λ u. ((n + 1) ∷ u)) (mark_at e tk.close_square ∷ []) (λ u. refl) (λ u. omega arith) (inr ((n + 1), λ u. refl, omega arith))) (λ v. refl) (rw (sym d, w.1) refl)))
  field_mended e p g f gf q k ts u o =
      let d = left_is {A = Phrase} {ts = ts} {u = u} o in
      missing (λ v. mark p tk.open_square (field_token f v)) (put_ahead (put_ahead held)) (mark_at e tk.maps ∷ number_at e ∷ mark_at e tk.close_square ∷ []) (fields p (last_field f (after e) (some e)) (after e)) ((g, (gf, right_after e, right_after e), right_after e), refl) (λ z c i. search (al.low)) (λ n. cut_missing (λ u. ((n + 1) ∷ ((n + 1) ∷ u))) (put_ahead (put_ahead held)) (λ u. ((n + 1) ∷ ((n + 1) ∷ ((n + 1) ∷ u)))) (mark_at e tk.maps ∷ number_at e ∷ mark_at e tk.close_square ∷ []) (λ u. refl) (λ u. omega arith) (inr ((n + 1), λ u. refl, omega arith))) (λ v. refl) (rw d refl)

  function_mended : (e : ℕ) (p : Place) → Right e p → (bs : Binds) → GoodBinds e bs → Small lim most (counts_binds (base + 1)) bs → (ts : List Token) (u : Stop) → function_rest r e p bs ts ≡ Err u → Mend lim (need_function r nd e ts) (Small lim most (counts base)) (Few counts 1) (Prime e) spell (mark p tk.open_square (spell_binds bs ts)) u.1
  function_mended e p g bs gb fb ts u o =
      let z = right_after e in
      refused_part o
      (λ j. (let d = mark_err e tk.maps ts u j in missing (λ v. mark p tk.open_square (spell_binds bs v)) (put_ahead (ahead_binds bs)) (mark_at e tk.maps ∷ number_at e ∷ mark_at e tk.close_square ∷ []) (function p bs (after e) (some e) (after e)) ((g, gb, z, z, z), refl) (λ z c i. search (al.low, fb)) (λ n. cut_missing (λ u. ((n + 1) ∷ (counts_binds (n + 1) bs u))) (put_ahead (then_ahead (cnt.ahead_binds (n + 1) bs) (held))) (λ u. ((n + 1) ∷ ((n + 1) ∷ ((n + 1) ∷ u)))) (mark_at e tk.maps ∷ number_at e ∷ mark_at e tk.close_square ∷ []) (λ u. refl) (λ u. omega arith) (inr ((n + 1), λ u. refl, omega arith))) (λ v. refl) (rw d refl)))
      (λ q us j l. (let n = mark_ok e tk.maps ts q us j in
      refused_part l
      (λ j. (let m = h.expr e free refl us u j in inside (λ v. mark p tk.open_square (spell_binds bs (mark q tk.maps v))) (put_ahead (then_ahead (ahead_binds bs) (put_ahead held))) (mark_at e tk.close_square ∷ []) m (function p bs q m.whole (after e)) ((g, gb, n.0, m.good.0, z), refl) (λ z c i. search (al.low, fb, m.fits)) (λ k n. cut_inside (λ u. ((n + 1) ∷ (counts_binds (n + 1) bs ((n + 1) ∷ u)))) (put_ahead (then_ahead (cnt.ahead_binds (n + 1) bs) (put_ahead held))) (λ u. ((n + 1) ∷ u)) (mark_at e tk.close_square ∷ []) (λ u. refl) (λ u. omega arith) (inr ((n + 1), λ u. refl, omega arith)) (omega arith) m.fix (k (n + 1))) (λ v. refl) (rw n.1 refl)))
      (λ a vs j l. (let w = s.expr e free refl us a vs j in let d = ended_err e tk.close_square (λ i. function p bs q a i) vs u l in
      missing (λ v. mark p tk.open_square (spell_binds bs (mark q tk.maps (spell a v)))) (put_ahead (then_ahead (ahead_binds bs) (put_ahead (ahead a)))) (mark_at e tk.close_square ∷ []) (function p bs q a (after e)) ((g, gb, n.0, w.0, z), refl) (λ z c i. search (al.low, fb, w.3)) (λ n. cut_missing (λ u. ((n + 1) ∷ (counts_binds (n + 1) bs ((n + 1) ∷ (counts (n + 1) a u))))) (put_ahead (then_ahead (cnt.ahead_binds (n + 1) bs) (put_ahead (then_ahead (cnt.ahead_counts (n + 1) a) (held))))) (λ u. ((n + 1) ∷ u)) (mark_at e tk.close_square ∷ []) (λ u. refl) (λ u. omega arith) (inr ((n + 1), λ u. refl, omega arith))) (λ v. refl) (rw (sym d, w.2, n.1) refl)))))

  square_mended : (e : ℕ) (p : Place) → Right e p → (b : Phrase) → Good e b → Small lim most (counts (base + 1)) b → (q : Place) (k : TokenView) (ts : List Token) (u : Stop) → next e ts ≡ token q k → square_rest r e p b q k ts ≡ Err u → Mend lim (need_square r nd e k ts) (Small lim most (counts base)) (Few counts 1) (Prime e) spell (mark p tk.open_square (spell b ts)) u.1
  square_mended e p g b gb fb q (tk.mark tk.arrow) ts u i o =
      let n = seen e ts q (tk.mark tk.arrow) i refl in
      refused_part o
      (λ j. (let m = h.expr e free refl (tail ts) u j in inside (λ v. mark p tk.open_square (spell b (mark q tk.arrow v))) (put_ahead (then_ahead (ahead b) (put_ahead held))) (mark_at e tk.close_square ∷ []) m (functions p b q m.whole (after e)) ((g, gb, n.0, m.good.0, right_after e), refl) (λ z c i. search (al.low, fb, m.fits)) (λ k n. cut_inside (λ u. ((n + 1) ∷ (counts (n + 1) b ((n + 1) ∷ u)))) (put_ahead (then_ahead (cnt.ahead_counts (n + 1) b) (put_ahead held))) (λ u. ((n + 1) ∷ u)) (mark_at e tk.close_square ∷ []) (λ u. refl) (λ u. omega arith) (inr ((n + 1), λ u. refl, omega arith)) (omega arith) m.fix (k (n + 1))) (λ v. refl) (rw n.1 refl)))
      (λ a us j l. (let w = s.expr e free refl (tail ts) a us j in let d = ended_err e tk.close_square (λ i. functions p b q a i) us u l in
      missing (λ v. mark p tk.open_square (spell b (mark q tk.arrow (spell a v)))) (put_ahead (then_ahead (ahead b) (put_ahead (ahead a)))) (mark_at e tk.close_square ∷ []) (functions p b q a (after e)) ((g, gb, n.0, w.0, right_after e), refl) (λ z c i. search (al.low, fb, w.3)) (λ n. cut_missing (λ u. ((n + 1) ∷ (counts (n + 1) b ((n + 1) ∷ (counts (n + 1) a u))))) (put_ahead (then_ahead (cnt.ahead_counts (n + 1) b) (put_ahead (then_ahead (cnt.ahead_counts (n + 1) a) (held))))) (λ u. ((n + 1) ∷ u)) (mark_at e tk.close_square ∷ []) (λ u. refl) (λ u. omega arith) (inr ((n + 1), λ u. refl, omega arith))) (λ v. refl) (rw (sym d, w.2, n.1) refl)))
  square_mended e p g b gb fb q (tk.key tk.except_key) ts u i o =
      let n = seen e ts q (tk.key tk.except_key) i refl in
      refused_part o
      (λ j. (let m = h.settings e (tail ts) u j in inside (λ v. mark p tk.open_square (spell b (key q tk.except_key v))) (put_ahead (then_ahead (ahead b) (put_ahead held))) (mark_at e tk.close_square ∷ []) m (except p b q m.whole (after e)) ((g, gb, n.0, m.good, right_after e), refl) (λ z c i. search (al.low, fb, m.fits)) (λ k n. cut_inside (λ u. ((n + 1) ∷ (counts (n + 1) b ((n + 1) ∷ u)))) (put_ahead (then_ahead (cnt.ahead_counts (n + 1) b) (put_ahead held))) (λ u. ((n + 1) ∷ u)) (mark_at e tk.close_square ∷ []) (λ u. refl) (λ u. omega arith) (inr ((n + 1), λ u. refl, omega arith)) (omega arith) m.fix (k (n + 1))) (λ v. refl) (rw n.1 refl)))
      (λ ss us j l. (let w = s.settings e (tail ts) ss us j in let d = ended_err e tk.close_square (λ i. except p b q ss i) us u l in
      missing (λ v. mark p tk.open_square (spell b (key q tk.except_key (spell_settings ss v)))) (put_ahead (then_ahead (ahead b) (put_ahead (ahead_settings ss)))) (mark_at e tk.close_square ∷ []) (except p b q ss (after e)) ((g, gb, n.0, w.0, right_after e), refl) (λ z c i. search (al.low, fb, w.2)) (λ n. cut_missing (λ u. ((n + 1) ∷ (counts (n + 1) b ((n + 1) ∷ (counts_settings (n + 1) ss u))))) (put_ahead (then_ahead (cnt.ahead_counts (n + 1) b) (put_ahead (then_ahead (cnt.ahead_settings (n + 1) ss) (held))))) (λ u. ((n + 1) ∷ u)) (mark_at e tk.close_square ∷ []) (λ u. refl) (λ u. omega arith) (inr ((n + 1), λ u. refl, omega arith))) (λ v. refl) (rw (sym d, w.1, n.1) refl)))
  square_mended e p g b gb fb q k ts u i o =
      let d = left_is {A = Phrase} {ts = ts} {u = u} o in
      missing (λ v. mark p tk.open_square (spell b v)) (put_ahead (ahead b)) (mark_at e tk.arrow ∷ number_at e ∷ mark_at e tk.close_square ∷ []) (functions p b (after e) (some e) (after e)) ((g, gb, right_after e, right_after e, right_after e), refl) (λ z c i. search (al.low, fb)) (λ n. cut_missing (λ u. ((n + 1) ∷ (counts (n + 1) b u))) (put_ahead (then_ahead (cnt.ahead_counts (n + 1) b) (held))) (λ u. ((n + 1) ∷ ((n + 1) ∷ ((n + 1) ∷ u)))) (mark_at e tk.arrow ∷ number_at e ∷ mark_at e tk.close_square ∷ []) (λ u. refl) (λ u. omega arith) (inr ((n + 1), λ u. refl, omega arith))) (λ v. refl) (rw d refl)

  -- after `[x \in S`
  abbrev SquareMember : Wants → ℕ → Place → Place → Word → Place → Phrase → List Token → List Token → Type 0
  SquareMember ws e p q x t b ts u = Mend lim ws (Small lim most (counts base)) (Few counts 1) (Prime e) spell (mark p tk.open_square (word q x (sign t op.In (spell b ts)))) u

  square_by : (e : ℕ) (p : Place) → Right e p → (q : Place) (x : Word) (t : Place) → Right e q → Right e t → (b : Phrase) → Good e b → AliveFirst lim most (base + 1) q x t b → (ts : List Token) (u : Stop) → ts ≡ u.1 → SquareMember (a_value e ∷ []) e p q x t b ts u.1
  square_by e p g q x t gq gt b gb (inl f) ts u d =
      missing (λ v. mark p tk.open_square (word q x (sign t op.In (spell b v)))) (put_ahead (put_ahead (put_ahead (ahead b)))) (mark_at e tk.maps ∷ number_at e ∷ mark_at e tk.close_square ∷ []) (function p (last_bind q x t b) (after e) (some e) (after e)) ((g, (gq, gt, gb), right_after e, right_after e, right_after e), refl) (λ z c i. search (al.low, f)) (λ n. cut_missing (λ u. ((n + 1) ∷ ((n + 1) ∷ ((n + 1) ∷ (counts (n + 1) b u))))) (put_ahead (put_ahead (put_ahead (then_ahead (cnt.ahead_counts (n + 1) b) (held))))) (λ u. ((n + 1) ∷ ((n + 1) ∷ ((n + 1) ∷ u)))) (mark_at e tk.maps ∷ number_at e ∷ mark_at e tk.close_square ∷ []) (λ u. refl) (λ u. omega arith) (inr ((n + 1), λ u. refl, omega arith))) (λ v. refl) (rw d refl)
  square_by e p g q x t gq gt b gb (inr (l, c, i, f)) ts u d =
      let w = element_is e q x t gq gt b c gb i in
      regive (λ z. not_both l z) (onto (ap (λ (vs : List Token). mark p tk.open_square vs) (w.1 ts)) (missing (λ v. mark p tk.open_square (spell c v)) (put_ahead (ahead c)) (mark_at e tk.arrow ∷ number_at e ∷ mark_at e tk.close_square ∷ []) (functions p c (after e) (some e) (after e)) ((g, w.0, right_after e, right_after e, right_after e), refl) (λ z c i. search (al.low, f)) (λ n. cut_missing (λ u. ((n + 1) ∷ (counts (n + 1) c u))) (put_ahead (then_ahead (cnt.ahead_counts (n + 1) c) (held))) (λ u. ((n + 1) ∷ ((n + 1) ∷ ((n + 1) ∷ u)))) (mark_at e tk.arrow ∷ number_at e ∷ mark_at e tk.close_square ∷ []) (λ u. refl) (λ u. omega arith) (inr ((n + 1), λ u. refl, omega arith))) (λ v. refl) (rw d refl)))

  square_here : (e : ℕ) (p : Place) → Right e p → (q : Place) (x : Word) (t : Place) → Right e q → Right e t → (b : Phrase) → Good e b → Alive true lim most (base + 1) q x t b → (ts : List Token) (u : Stop) → ts ≡ u.1 → SquareMember (a_value e ∷ []) e p q x t b ts u.1
  square_here e p g q x t gq gt b gb a ts u d = square_by e p g q x t gq gt b gb (alive_first lim most (base + 1) q x t b a) ts u d

  square_inside : {ws : Wants} (e : ℕ) (p : Place) → Right e p → (q : Place) (x : Word) (t : Place) → Right e q → Right e t → (us u : List Token) → (m : Mend lim ws (Alive true lim most (base + 1) q x t) (FewBoth q x t) (Good e) spell us u) → Mend lim (around ws (a_value e)) (Small lim most (counts base)) (Few counts 1) (Prime e) spell (mark p tk.open_square (word q x (sign t op.In us))) u
  square_inside {ws} e p g q x t gq gt us u m = by (alive_first lim most (base + 1) q x t m.whole m.fits)
    where
      by : AliveFirst lim most (base + 1) q x t m.whole → Mend lim (around ws (a_value e)) (Small lim most (counts base)) (Few counts 1) (Prime e) spell (mark p tk.open_square (word q x (sign t op.In us))) u
      by (inl f) = inside (λ v. mark p tk.open_square (word q x (sign t op.In v))) (put_ahead (put_ahead (put_ahead held))) (mark_at e tk.maps ∷ number_at e ∷ mark_at e tk.close_square ∷ []) m (function p (last_bind q x t m.whole) (after e) (some e) (after e)) ((g, (gq, gt, m.good), right_after e, right_after e, right_after e), refl) (λ z c i. search (al.low, f)) (λ k n. cut_inside (λ u. (n + 1) ∷ (n + 1) ∷ (n + 1) ∷ u) (put_ahead (put_ahead (put_ahead held))) (λ u. (n + 1) ∷ (n + 1) ∷ (n + 1) ∷ u) (mark_at e tk.maps ∷ number_at e ∷ mark_at e tk.close_square ∷ []) (λ u. refl) (λ u. omega arith) (inr ((n + 1), λ u. refl, omega arith)) (omega arith) m.fix (k.0 (n + 1))) (λ v. refl) refl
      by (inr (l, c, i, f)) =
          let w = element_is e q x t gq gt m.whole c m.good i in
          regive (λ z. not_both l z) (inside (λ v. mark p tk.open_square (word q x (sign t op.In v))) (put_ahead (put_ahead (put_ahead held))) (mark_at e tk.arrow ∷ number_at e ∷ mark_at e tk.close_square ∷ []) m (functions p c (after e) (some e) (after e)) ((g, w.0, right_after e, right_after e, right_after e), refl) (λ z c i. search (al.low, f)) (λ k n. cut_inside (λ u. (n + 1) ∷ u) (put_ahead held) (λ u. (n + 1) ∷ (n + 1) ∷ (n + 1) ∷ u) (mark_at e tk.arrow ∷ number_at e ∷ mark_at e tk.close_square ∷ []) (λ u. refl) (λ u. omega arith) (inr ((n + 1), λ u. refl, omega arith)) (omega arith) m.fix (k.1 c i (n + 1))) (λ v. ap (λ (vs : List Token). mark p tk.open_square vs) (w.1 (mark_at e tk.arrow ∷ number_at e ∷ mark_at e tk.close_square ∷ v))) refl)

  square_at : (e : ℕ) (p : Place) → Right e p → (q : Place) (x : Word) (t : Place) → Right e q → Right e t → (b : Phrase) → Good e b → Alive true lim most (base + 1) q x t b → (c : Phrase) → element q x t b ≡ Some c → (j : Place) (k : TokenView) (ts : List Token) (u : Stop) → next e ts ≡ token j k
      → if_fits (rm.fits 0 c || not (is_mark tk.arrow k || is_key tk.except_key k)) (square_rest r e p c j k) ts ≡ Err u → SquareMember (need_left rm r nd e c k ts) e p q x t b ts u.1
  square_at e p g q x t gq gt b gb al' c ci j (tk.mark tk.arrow) ts u i o = by (rm.fits 0 c) (iv.fits 0 (base + 1) (λ z. here) al.low c) o
    where
      by : (f : Bool) → PhraseFits true lim most (base + 1) c f → if_fits (f || false) (square_rest r e p c j (tk.mark tk.arrow)) ts ≡ Err u → SquareMember (need_fit f (a_value e ∷ []) (need_square r nd e (tk.mark tk.arrow)) ts) e p q x t b ts u.1
      by true f o = (let w = element_is e q x t gq gt b c gb ci in onto (ap (λ (vs : List Token). mark p tk.open_square vs) (w.1 ts)) (square_mended e p g c w.0 f j (tk.mark tk.arrow) ts u i o))
      by false f o = square_here e p g q x t gq gt b gb al' ts u (deep_is {A = Phrase} o)
  square_at e p g q x t gq gt b gb al' c ci j (tk.key tk.except_key) ts u i o = by (rm.fits 0 c) (iv.fits 0 (base + 1) (λ z. here) al.low c) o
    where
      by : (f : Bool) → PhraseFits true lim most (base + 1) c f → if_fits (f || false) (square_rest r e p c j (tk.key tk.except_key)) ts ≡ Err u → SquareMember (need_fit f (a_value e ∷ []) (need_square r nd e (tk.key tk.except_key)) ts) e p q x t b ts u.1
      by true f o = (let w = element_is e q x t gq gt b c gb ci in onto (ap (λ (vs : List Token). mark p tk.open_square vs) (w.1 ts)) (square_mended e p g c w.0 f j (tk.key tk.except_key) ts u i o))
      by false f o = square_here e p g q x t gq gt b gb al' ts u (deep_is {A = Phrase} o)
  square_at e p g q x t gq gt b gb al' c ci j k ts u i o = by (rm.fits 0 c) o
    where
      by : (f : Bool) → if_fits (f || true) (square_rest r e p c j k) ts ≡ Err u → SquareMember (a_value e ∷ []) e p q x t b ts u.1
      by true o = square_here e p g q x t gq gt b gb al' ts u (left_is {A = Phrase} {ts = ts} {u = u} o)
      by false o = square_here e p g q x t gq gt b gb al' ts u (left_is {A = Phrase} {ts = ts} {u = u} o)

  square_from_mended : (e : ℕ) (p : Place) → Right e p → (q : Place) (x : Word) (t : Place) → Right e q → Right e t → (b : Phrase) → Good e b → Alive true lim most (base + 1) q x t b → (ts : List Token) (u : Stop) → square_from rm r e p (element q x t b) ts ≡ Err u → SquareMember (need_square_from rm r nd e (element q x t b) ts) e p q x t b ts u.1
  square_from_mended e p g q x t gq gt b gb al' ts u o = by (element q x t b) refl o
    where
      by : (m : Option Phrase) → element q x t b ≡ m → square_from rm r e p m ts ≡ Err u → SquareMember (need_square_from rm r nd e m ts) e p q x t b ts u.1
      by (Some c) i o = square_at e p g q x t gq gt b gb al' c i (next e ts).place (next e ts).kind ts u refl o
      by None i o = square_here e p g q x t gq gt b gb al' ts u (left_is {A = Phrase} o)

  square_member_mended : (e : ℕ) (p : Place) → Right e p → (q : Place) (x : Word) (t : Place) → Right e q → Right e t → (b : Phrase) → Good e b → Alive true lim most (base + 1) q x t b → (j : Place) (k : TokenView) (ts : List Token) (u : Stop) → next e ts ≡ token j k → square_member rm r e p q x t b j k ts ≡ Err u → SquareMember (need_argument rm r nd e q x t b k ts) e p q x t b ts u.1
  square_member_mended e p g q x t gq gt b gb al' j (tk.mark tk.maps) ts u i o = by (rm.fits 0 b) (iv.fits 0 (base + 1) (λ z. here) al.low b) o
    where
      by : (f : Bool) → PhraseFits true lim most (base + 1) b f → if_fits f (function_rest r e p (last_bind q x t b)) ts ≡ Err u → SquareMember (need_fit f (a_value e ∷ []) (need_function r nd e) ts) e p q x t b ts u.1
      by true f o = function_mended e p g (last_bind q x t b) (gq, gt, gb) (λ z c i. search (al.low, f)) ts u o
      by false f o = square_here e p g q x t gq gt b gb al' ts u (deep_is {A = Phrase} o)
  square_member_mended e p g q x t gq gt b gb al' j (tk.mark tk.comma) ts u i o = by (rm.fits 0 b) (iv.fits 0 (base + 1) (λ z. here) al.low b) o
    where
      by : (f : Bool) → PhraseFits true lim most (base + 1) b f → if_fits f (peek e (bind_rest r e q x t b) >>= λ bs. function_rest r e p bs) ts ≡ Err u → SquareMember (need_fit f (a_value e ∷ []) (need_arguments r nd e q x t b) ts) e p q x t b ts u.1
      by true f o =
          refused_part o
          (λ l. (let m = bind_mended lim most (base + 1) rm r full sq al iv h mv e q x t gq gt b gb f (next e ts).place (next e ts).kind ts u refl l in let z = right_after e in
          inside (λ v. mark p tk.open_square v) (put_ahead held) (mark_at e tk.maps ∷ number_at e ∷ mark_at e tk.close_square ∷ []) m (function p m.whole (after e) (some e) (after e)) ((g, m.good, z, z, z), refl) (λ z c i. search (al.low, m.fits)) (λ k n. cut_inside (λ u. ((n + 1) ∷ u)) (put_ahead held) (λ u. ((n + 1) ∷ ((n + 1) ∷ ((n + 1) ∷ u)))) (mark_at e tk.maps ∷ number_at e ∷ mark_at e tk.close_square ∷ []) (λ u. refl) (λ u. omega arith) (inr ((n + 1), λ u. refl, omega arith)) (omega arith) m.fix (k (n + 1))) (λ v. refl) refl))
          (λ bs us l o. (let w = bind_rest_read lim most (base + 1) r full sq al e q x t gq gt b gb f (next e ts).place (next e ts).kind ts bs us refl l in
          onto (ap (λ (vs : List Token). mark p tk.open_square vs) w.1) (function_mended e p g bs w.0 w.2 us u o)))
      by false f o = square_here e p g q x t gq gt b gb al' ts u (deep_is {A = Phrase} o)
  square_member_mended e p g q x t gq gt b gb al' j k ts u i o = square_from_mended e p g q x t gq gt b gb al' ts u o

  square_name_other : (e : ℕ) (p : Place) → Right e p → (q : Place) (x : Word) → Right e q → (t : Place) (ts : List Token) (u : Stop) → square_name rm r e p q x t (tk.other []) ts ≡ Err u → Mend lim (need_square_name rm r nd e q x t (tk.other []) ts) (Small lim most (counts base)) (Few counts 1) (Prime e) spell (mark p tk.open_square (word q x ts)) u.1
  square_name_other e p g q x gq t ts u o =
      refused_part o
      (λ j. in_squares lim most base al.low e p g (from_mended lim most (base + 1) rm r full sq al iv h mv e q x gq ts u j) refl)
      (λ a us j l. (let f = from_read lim most (base + 1) rm r full sq al iv e q x gq ts a us j in
      refused_part l
      (λ j. fits_in_squares lim most base al.low e p g (h.climb e free refl a f.0 refl f.3 us u j) (rw f.2 refl))
      (λ b vs j l. (let c = s.climb e free refl a f.0 refl f.3 us b vs j in
      onto (ap (λ (ws : List Token). mark p tk.open_square ws) (c.2 ∙ f.2)) (square_mended e p g b c.0 c.3 (next e vs).place (next e vs).kind vs u refl l)))))

  square_name_mended : (e : ℕ) (p : Place) → Right e p → (q : Place) (x : Word) → Right e q → (t : Place) (k : TokenView) (ts : List Token) (u : Stop) → next e ts ≡ token t k → square_name rm r e p q x t k ts ≡ Err u → Mend lim (need_square_name rm r nd e q x t k ts) (Small lim most (counts base)) (Few counts 1) (Prime e) spell (mark p tk.open_square (word q x ts)) u.1
  square_name_mended e p g q x gq t (tk.mark tk.maps) ts u i o = field_mended e p g (plain_field q x) gq t (tk.mark tk.maps) ts u o
  square_name_mended e p g q x gq t (tk.mark tk.colon) ts u i o = field_mended e p g (plain_field q x) gq t (tk.mark tk.colon) ts u o
  square_name_mended e p g q x gq t (tk.mark tk.comma) ts u i o =
      refused_part o
      (λ j. (let m = h.binds e q x gq ts u j in let z = right_after e in
      inside (λ v. mark p tk.open_square v) (put_ahead held) (mark_at e tk.maps ∷ number_at e ∷ mark_at e tk.close_square ∷ []) m (function p m.whole (after e) (some e) (after e)) ((g, m.good, z, z, z), refl) (λ z c i. search (al.low, m.fits)) (λ k n. cut_inside (λ u. ((n + 1) ∷ u)) (put_ahead held) (λ u. ((n + 1) ∷ ((n + 1) ∷ ((n + 1) ∷ u)))) (mark_at e tk.maps ∷ number_at e ∷ mark_at e tk.close_square ∷ []) (λ u. refl) (λ u. omega arith) (inr ((n + 1), λ u. refl, omega arith)) (omega arith) m.fix (k (n + 1))) (λ v. refl) refl))
      (λ bs us j l. (let w = s.binds e q x gq ts bs us j in
      onto (ap (λ (vs : List Token). mark p tk.open_square vs) w.1) (function_mended e p g bs w.0 w.2 us u l)))
  square_name_mended e p g q x gq t (tk.sign op.In) ts u i o =
      let n = seen e ts t (tk.sign op.In) i refl in
      let z = right_after e in
      refused_part o
      (λ j. onto (rw n.1 refl) (square_inside e p g q x t gq n.0 (tail ts) u.1 (h.set e q x t (tail ts) u j)))
      (λ a us j l. (let w = s.set e q x t (tail ts) a us j in onto (rw (w.1, n.1) refl) (square_member_mended e p g q x t gq n.0 a w.0 w.2 (next e us).place (next e us).kind us u refl l)))
  square_name_mended e p g q x gq t k ts u i o = square_name_other e p g q x gq t ts u o

  squares_other : (e : ℕ) (p : Place) → Right e p → (q : Place) (ts : List Token) (u : Stop) → squares rm r e p q (tk.other []) ts ≡ Err u → Mend lim (need_squares rm r nd e q (tk.other []) ts) (Small lim most (counts base)) (Few counts 1) (Prime e) spell (mark p tk.open_square ts) u.1
  squares_other e p g q ts u o =
      refused_part o
      (λ j. fits_in_squares lim most base al.low e p g (h.expr e free refl ts u j) refl)
      (λ a us j l. (let w = s.expr e free refl ts a us j in
      onto (ap (λ (ws : List Token). mark p tk.open_square ws) w.2) (square_mended e p g a w.0 w.3 (next e us).place (next e us).kind us u refl l)))

  pub squares_mended : (e : ℕ) (p : Place) → Right e p → (q : Place) (k : TokenView) (ts : List Token) (u : Stop) → next e ts ≡ token q k → squares rm r e p q k ts ≡ Err u → Mend lim (need_squares rm r nd e q k ts) (Small lim most (counts base)) (Few counts 1) (Prime e) spell (mark p tk.open_square ts) u.1
  squares_mended e p g q (tk.reserved x) ts u i o =
      let n = seen e ts q (tk.reserved x) i refl in
      onto (rw n.1 refl) (field_mended e p g (record { place = q; is_reserved = true; text = x }) n.0 (next e (tail ts)).place (next e (tail ts)).kind (tail ts) u o)
  squares_mended e p g q (tk.word x) ts u i o =
      let n = seen e ts q (tk.word x) i refl in
      onto (rw n.1 refl) (square_name_mended e p g q x n.0 (next e (tail ts)).place (next e (tail ts)).kind (tail ts) u refl o)
  squares_mended e p g q k ts u i o = squares_other e p g q ts u o
