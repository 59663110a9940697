-- What stands before a refused token can be gone on with: primaries, open forms and operators.
use Rattle.std.proofs.Common.{◌≡◌, ℕ, suc, ◌+◌, ◌≤◌, nat_lt, Bool, true, false, ◌&&◌, not, List, [], ◌∷◌, Option, Some, None, Err, inl, inr, refl, sym, ap, ◌∙◌, arith, subst}
use Rattle.std.proofs.lemmas.Bool.{and_parts, not-true}
use Rattle.tla_token.specs.declared.place.Place.{Place}
use Rattle.tla_tree.specs.declared.op.Op.{Op}
use Rattle.tla_tree.specs.declared.op.Op.TheVariants as op
use Rattle.tla_tree.specs.Tree.{Word}
use Rattle.tla_tree.specs.Rank.{rank, is_prefix, is_bullet}
use Rattle.tla_tree.specs.Lexical.{Key, TokenView, Token, token}
use Rattle.tla_tree.specs.Lexical as tk
use Rattle.tla_tree.specs.Spelling.{Phrase, number, string, constant, brackets, apply, select, list, quantified, if_then_else, cases, local, infix_of, prefix_of}
use Rattle.tla_tree.specs.Spelling.{mark, key, sign, word, spell, spell_all, spell_binds, spell_locals, Right, Good, GoodBullets, head, is_primary, first_bullet, can_be_left, can_be_under, can_be_head}
use Rattle.tla_tree.specs.Spelling as sp
use Rattle.tla_tree.specs.Wanted.{after, mark_at, key_at, sign_at, number_at, word_at, Wants, Need, around, or_then, need_opened, need_after, a_number, a_close}
use Rattle.tla_tree.specs.Needs.{Needs}
use Rattle.tla_tree.specs.NeedsForms.{need_list, need_brackets, need_in_braces, need_in_tuple, need_in_squares, need_primary, need_quantifier, need_choice, need_local, need_keyed, need_under, need_signed, need_operand, need_short_signed, need_short, need_subscript, need_apply, need_selected, need_select, need_postfix, need_right, need_infix, need_climb}
use Rattle.tla_tree.proofs.Opened.{in_apply, in_select}
use Rattle.tla_tree.proofs.DeepCounts as cnt
use Rattle.tla_tree.proofs.SpellAhead.{held, put_ahead, then_ahead, ahead, ahead_all, ahead_binds, ahead_locals}
use Rattle.tla_tree.proofs.MendedCounts.{Few, uncut, cut_inside, cut_missing}
use Rattle.tla_tree.proofs.Mended.{FewBoth, infix_few, right_after, some, some_bind, some_field, Mend, inside, missing, better, onto, regive, not_both, left_is, broken, refused_part, mark_err, key_err, word_err, field_err, gives_err, Fits, Prime, Brief, Mends, MendsRoom, opened_err, deep_is}
use Rattle.tla_tree.specs.Nesting.{chain, links, before, counts, counts_all, counts_binds, counts_locals}
use Rattle.tla_tree.specs.Reader.{Stop, Room, Reader, skip, peek, a_mark, a_key, a_field, opened, opened_after, so_far, behind, is_behind_in, ◌>>=◌, gives, next, tail, peek, Context, free, right_of, under, bound, fits, is_free, prefix_by, goes_on, Readers, list_if, keyed, under_by, signed, operand, short_signed, short_by, apply_if, select_if, postfix_by, climb_if, climb_by, opened_if}
use Rattle.tla_tree.specs.Reader as rd
use Rattle.tla_tree.proofs.ReadStops.{sign_infix}
use Rattle.tla_tree.proofs.ReadLists.{first_column}
use Rattle.tla_tree.proofs.SoundTokens.{seen, mark_ok, key_ok, word_ok, field_ok}
use Rattle.tla_tree.proofs.SoundPhrases.{Sound}
use Rattle.tla_tree.proofs.LimitedRooms.{Alive, AreLimited, IsRoom}
use Rattle.tla_tree.proofs.LimitedForms.{is_its_bullet, alone}
use Rattle.tla_tree.proofs.LimitedSets.{alive_after}
use Rattle.tla_tree.proofs.ReadWithin.{Small, Read, are_read, braces_read, tuples_read, squares_read}
use Rattle.tla_tree.proofs.SoundForms.{is_infix, prime_plain, prime_fits, prime_short, open_fits, short_under, short_fits, free_fits, infix_fits, prefix_is}
use Rattle.tla_tree.proofs.MendedBraces.{from_mended, braces_mended, tuples_mended, squares_mended}

-- an operand is no infix form
abbrev pub Operand : Context → ℕ → Phrase → Type 0
Operand c e a = Good e a × (fits c a ≡ true) × (is_infix a ≡ false)

-- nothing of a phrase was read
pub nothing : {R : Phrase → Type 0} (lim : Bool) (most base : ℕ) → (lim ≡ true → base ≤ most) → (e : ℕ) (ts : List Token) (u : Stop) → R (some e) → ts ≡ u.1 → Mend lim (a_number e) (Small lim most (counts base)) (Few counts 1) R spell ts u.1
nothing lim most base low e ts u g d = missing (λ v. v) held (number_at e ∷ []) (some e) g (λ z c i. search (low)) (λ n. cut_missing (λ u. u) (held) (λ u. (n ∷ u)) (number_at e ∷ []) (λ u. refl) (λ u. omega arith) (inr (n, λ u. refl, omega arith))) (λ v. refl) d

-- within, where one more is open
module _ (lim : Bool) (most base : ℕ) (r full : Readers) (sq : Sound full) (al : AreLimited true lim most (base + 1) r full) {nd : Needs} (h : Mends lim most (base + 1) r nd) where
  within : Read lim most (base + 1) r
  within = are_read lim most (base + 1) r full sq al

  quantifier_mended : (e : ℕ) (c : Context) (b : Bool) (p : Place) → Right e p → (ts : List Token) (u : Stop) → rd.quantifier r e b p ts ≡ Err u → Mend lim (need_quantifier r nd e ts) (Small lim most (counts base)) (Few counts 1) (Operand c e) spell (key p (sp.quantifier b) ts) u.1
  quantifier_mended e c b p g ts u o =
      let z = right_after e in
      refused_part o
      (λ j. (let d = word_err e ts u j in missing (λ v. key p (sp.quantifier b) v) (put_ahead held) (word_at e ∷ sign_at e op.In ∷ number_at e ∷ mark_at e tk.colon ∷ number_at e ∷ []) (quantified b p (some_bind e) (after e) (some e)) ((g, (z, z, z), z, z), open_fits c (quantified b p (some_bind e) (after e) (some e)) refl, refl) (λ z c i. search (al.low) depth 12) (λ n. cut_missing (λ u. ((n + 1) ∷ u)) (put_ahead held) (λ u. ((n + 1) ∷ ((n + 1) ∷ ((n + 1) ∷ ((n + 1) ∷ ((n + 1) ∷ u)))))) (word_at e ∷ sign_at e op.In ∷ number_at e ∷ mark_at e tk.colon ∷ number_at e ∷ []) (λ u. refl) (λ u. omega arith) (inr ((n + 1), λ u. refl, omega arith))) (λ v. refl) (rw d refl)))
      (λ x us j l. (let w = word_ok e ts x us j in
      refused_part l
      (λ j. (let m = h.binds e x.0 x.1 w.0 us u j in inside (λ v. key p (sp.quantifier b) v) (put_ahead held) (mark_at e tk.colon ∷ number_at e ∷ []) m (quantified b p m.whole (after e) (some e)) ((g, m.good, z, z), open_fits c (quantified b p m.whole (after e) (some e)) refl, refl) (λ z c i. search (al.low, m.fits)) (λ k n. cut_inside (λ u. ((n + 1) ∷ u)) (put_ahead held) (λ u. ((n + 1) ∷ ((n + 1) ∷ u))) (mark_at e tk.colon ∷ number_at e ∷ []) (λ u. refl) (λ u. omega arith) (inr ((n + 1), λ u. refl, omega arith)) (omega arith) m.fix (k (n + 1))) (λ v. refl) (rw w.1 refl)))
      (λ bs vs j l. (let y = within.binds e x.0 x.1 w.0 us bs vs j in
      refused_part l
      (λ j. (let d = mark_err e tk.colon vs u j in missing (λ v. key p (sp.quantifier b) (spell_binds bs v)) (put_ahead (ahead_binds bs)) (mark_at e tk.colon ∷ number_at e ∷ []) (quantified b p bs (after e) (some e)) ((g, y.0, z, z), open_fits c (quantified b p bs (after e) (some e)) refl, refl) (λ z c i. search (al.low, y.2)) (λ n. cut_missing (λ u. ((n + 1) ∷ (counts_binds (n + 1) bs u))) (put_ahead (then_ahead (cnt.ahead_binds (n + 1) bs) (held))) (λ u. ((n + 1) ∷ ((n + 1) ∷ u))) (mark_at e tk.colon ∷ number_at e ∷ []) (λ u. refl) (λ u. omega arith) (inr ((n + 1), λ u. refl, omega arith))) (λ v. refl) (rw (sym d, y.1, w.1) refl)))
      (λ q ws j l. (let n = mark_ok e tk.colon vs q ws j in
      broken l
      (λ j. (let m = h.expr e free refl ws u j in inside (λ v. key p (sp.quantifier b) (spell_binds bs (mark q tk.colon v))) (put_ahead (then_ahead (ahead_binds bs) (put_ahead held))) [] m (quantified b p bs q m.whole) ((g, y.0, n.0, m.good.0), open_fits c (quantified b p bs q m.whole) refl, refl) (λ z c i. search (al.low, m.fits, y.2)) (λ k n. cut_inside (λ u. ((n + 1) ∷ (counts_binds (n + 1) bs ((n + 1) ∷ u)))) (put_ahead (then_ahead (cnt.ahead_binds (n + 1) bs) (put_ahead held))) (λ u. u) [] (λ u. refl) (λ u. omega arith) (inl (refl, λ u. refl)) (omega arith) m.fix (k (n + 1))) (λ v. refl) (rw (n.1, y.1, w.1) refl)))
      (λ a xs j l. gives_err (quantified b p bs q a) xs u l)))))))

  choice_mended : (e : ℕ) (c : Context) (p : Place) → Right e p → (ts : List Token) (u : Stop) → rd.choice_from r e p ts ≡ Err u → Mend lim (need_choice r nd e ts) (Small lim most (counts base)) (Few counts 1) (Operand c e) spell (key p tk.if_key ts) u.1
  choice_mended e c p g ts u o =
      let z = right_after e in
      let f = after e in
      let i = some e in
      refused_part o
      (λ j. (let m = h.expr e free refl ts u j in inside (λ v. key p tk.if_key v) (put_ahead held) (key_at e tk.then_key ∷ number_at e ∷ key_at e tk.else_key ∷ number_at e ∷ []) m (if_then_else p m.whole f i f i) ((g, m.good.0, z, z, z, z), open_fits c (if_then_else p m.whole f i f i) refl, refl) (λ z c i. search (al.low, m.fits)) (λ k n. cut_inside (λ u. ((n + 1) ∷ u)) (put_ahead held) (λ u. ((n + 1) ∷ ((n + 1) ∷ ((n + 1) ∷ ((n + 1) ∷ u))))) (key_at e tk.then_key ∷ number_at e ∷ key_at e tk.else_key ∷ number_at e ∷ []) (λ u. refl) (λ u. omega arith) (inr ((n + 1), λ u. refl, omega arith)) (omega arith) m.fix (k (n + 1))) (λ v. refl) refl))
      (λ a us j l. (let w = within.expr e free refl ts a us j in
      refused_part l
      (λ j. (let d = key_err e tk.then_key us u j in missing (λ v. key p tk.if_key (spell a v)) (put_ahead (ahead a)) (key_at e tk.then_key ∷ number_at e ∷ key_at e tk.else_key ∷ number_at e ∷ []) (if_then_else p a f i f i) ((g, w.0, z, z, z, z), open_fits c (if_then_else p a f i f i) refl, refl) (λ z c i. search (al.low, w.3)) (λ n. cut_missing (λ u. ((n + 1) ∷ (counts (n + 1) a u))) (put_ahead (then_ahead (cnt.ahead_counts (n + 1) a) (held))) (λ u. ((n + 1) ∷ ((n + 1) ∷ ((n + 1) ∷ ((n + 1) ∷ u))))) (key_at e tk.then_key ∷ number_at e ∷ key_at e tk.else_key ∷ number_at e ∷ []) (λ u. refl) (λ u. omega arith) (inr ((n + 1), λ u. refl, omega arith))) (λ v. refl) (rw (sym d, w.2) refl)))
      (λ q vs j l. (let n = key_ok e tk.then_key us q vs j in
      refused_part l
      (λ j. (let m = h.expr e free refl vs u j in inside (λ v. key p tk.if_key (spell a (key q tk.then_key v))) (put_ahead (then_ahead (ahead a) (put_ahead held))) (key_at e tk.else_key ∷ number_at e ∷ []) m (if_then_else p a q m.whole f i) ((g, w.0, n.0, m.good.0, z, z), open_fits c (if_then_else p a q m.whole f i) refl, refl) (λ z c i. search (al.low, m.fits, w.3)) (λ k n. cut_inside (λ u. ((n + 1) ∷ (counts (n + 1) a ((n + 1) ∷ u)))) (put_ahead (then_ahead (cnt.ahead_counts (n + 1) a) (put_ahead held))) (λ u. ((n + 1) ∷ ((n + 1) ∷ u))) (key_at e tk.else_key ∷ number_at e ∷ []) (λ u. refl) (λ u. omega arith) (inr ((n + 1), λ u. refl, omega arith)) (omega arith) m.fix (k (n + 1))) (λ v. refl) (rw (n.1, w.2) refl)))
      (λ b ws j l. (let y = within.expr e free refl vs b ws j in
      refused_part l
      (λ j. (let d = key_err e tk.else_key ws u j in missing (λ v. key p tk.if_key (spell a (key q tk.then_key (spell b v)))) (put_ahead (then_ahead (ahead a) (put_ahead (ahead b)))) (key_at e tk.else_key ∷ number_at e ∷ []) (if_then_else p a q b f i) ((g, w.0, n.0, y.0, z, z), open_fits c (if_then_else p a q b f i) refl, refl) (λ z c i. search (al.low, w.3, y.3)) (λ n. cut_missing (λ u. ((n + 1) ∷ (counts (n + 1) a ((n + 1) ∷ (counts (n + 1) b u))))) (put_ahead (then_ahead (cnt.ahead_counts (n + 1) a) (put_ahead (then_ahead (cnt.ahead_counts (n + 1) b) (held))))) (λ u. ((n + 1) ∷ ((n + 1) ∷ u))) (key_at e tk.else_key ∷ number_at e ∷ []) (λ u. refl) (λ u. omega arith) (inr ((n + 1), λ u. refl, omega arith))) (λ v. refl) (rw (sym d, y.2, n.1, w.2) refl)))
      (λ t xs j l. (let k = key_ok e tk.else_key ws t xs j in
      broken l
      (λ j. (let m = h.expr e free refl xs u j in inside (λ v. key p tk.if_key (spell a (key q tk.then_key (spell b (key t tk.else_key v))))) (put_ahead (then_ahead (ahead a) (put_ahead (then_ahead (ahead b) (put_ahead held))))) [] m (if_then_else p a q b t m.whole) ((g, w.0, n.0, y.0, k.0, m.good.0), open_fits c (if_then_else p a q b t m.whole) refl, refl) (λ z c i. search (al.low, m.fits, w.3, y.3)) (λ k n. cut_inside (λ u. ((n + 1) ∷ (counts (n + 1) a ((n + 1) ∷ (counts (n + 1) b ((n + 1) ∷ u)))))) (put_ahead (then_ahead (cnt.ahead_counts (n + 1) a) (put_ahead (then_ahead (cnt.ahead_counts (n + 1) b) (put_ahead held))))) (λ u. u) [] (λ u. refl) (λ u. omega arith) (inl (refl, λ u. refl)) (omega arith) m.fix (k (n + 1))) (λ v. refl) (rw (k.1, y.2, n.1, w.2) refl)))
      (λ d ys j l. gives_err (if_then_else p a q b t d) ys u l)))))))))

  cases_mended : (e : ℕ) (c : Context) (p : Place) → Right e p → (ts : List Token) (u : Stop) → (r.arms e >>= λ xs. gives (cases p xs)) ts ≡ Err u → Mend lim (nd.arms e ts) (Small lim most (counts base)) (Few counts 1) (Operand c e) spell (key p tk.case_key ts) u.1
  cases_mended e c p g ts u o =
      broken o
      (λ j. (let m = h.arms e ts u j in inside (λ v. key p tk.case_key v) (put_ahead held) [] m (cases p m.whole) ((g, m.good), open_fits c (cases p m.whole) refl, refl) (λ z c i. search (al.low, m.fits)) (λ k n. cut_inside (λ u. ((n + 1) ∷ u)) (put_ahead held) (λ u. u) [] (λ u. refl) (λ u. omega arith) (inl (refl, λ u. refl)) (omega arith) m.fix (k (n + 1))) (λ v. refl) refl))
      (λ xs us j l. gives_err (cases p xs) us u l)

  local_mended : (e : ℕ) (c : Context) (p : Place) → Right e p → (ts : List Token) (u : Stop) → (r.locals e >>= λ ls. a_key e tk.in_key >>= λ q. r.expr e free >>= λ a. gives (local p ls q a)) ts ≡ Err u → Mend lim (need_local r nd e ts) (Small lim most (counts base)) (Few counts 1) (Operand c e) spell (key p tk.let_key ts) u.1
  local_mended e c p g ts u o =
      let z = right_after e in
      refused_part o
      (λ j. (let m = h.locals e ts u j in inside (λ v. key p tk.let_key v) (put_ahead held) (key_at e tk.in_key ∷ number_at e ∷ []) m (local p m.whole (after e) (some e)) ((g, m.good, z, z), open_fits c (local p m.whole (after e) (some e)) refl, refl) (λ z c i. search (al.low, m.fits)) (λ k n. cut_inside (λ u. ((n + 1) ∷ u)) (put_ahead held) (λ u. ((n + 1) ∷ ((n + 1) ∷ u))) (key_at e tk.in_key ∷ number_at e ∷ []) (λ u. refl) (λ u. omega arith) (inr ((n + 1), λ u. refl, omega arith)) (omega arith) m.fix (k (n + 1))) (λ v. refl) refl))
      (λ ls us j l. (let w = within.locals e ts ls us j in
      refused_part l
      (λ j. (let d = key_err e tk.in_key us u j in missing (λ v. key p tk.let_key (spell_locals ls v)) (put_ahead (ahead_locals ls)) (key_at e tk.in_key ∷ number_at e ∷ []) (local p ls (after e) (some e)) ((g, w.0, z, z), open_fits c (local p ls (after e) (some e)) refl, refl) (λ z c i. search (al.low, w.2)) (λ n. cut_missing (λ u. ((n + 1) ∷ (counts_locals (n + 1) ls u))) (put_ahead (then_ahead (cnt.ahead_locals (n + 1) ls) (held))) (λ u. ((n + 1) ∷ ((n + 1) ∷ u))) (key_at e tk.in_key ∷ number_at e ∷ []) (λ u. refl) (λ u. omega arith) (inr ((n + 1), λ u. refl, omega arith))) (λ v. refl) (rw (sym d, w.1) refl)))
      (λ q vs j l. (let y = key_ok e tk.in_key us q vs j in
      broken l
      (λ j. (let m = h.expr e free refl vs u j in inside (λ v. key p tk.let_key (spell_locals ls (key q tk.in_key v))) (put_ahead (then_ahead (ahead_locals ls) (put_ahead held))) [] m (local p ls q m.whole) ((g, w.0, y.0, m.good.0), open_fits c (local p ls q m.whole) refl, refl) (λ z c i. search (al.low, m.fits, w.2)) (λ k n. cut_inside (λ u. ((n + 1) ∷ (counts_locals (n + 1) ls ((n + 1) ∷ u)))) (put_ahead (then_ahead (cnt.ahead_locals (n + 1) ls) (put_ahead held))) (λ u. u) [] (λ u. refl) (λ u. omega arith) (inl (refl, λ u. refl)) (omega arith) m.fix (k (n + 1))) (λ v. refl) (rw (y.1, w.1) refl)))
      (λ a xs j l. gives_err (local p ls q a) xs u l)))))

  brackets_mended : (e : ℕ) (p : Place) → Right e p → (ts : List Token) (u : Stop) (ss : List Token) → mark p tk.open_bracket ts ≡ ss → (f : Place → Phrase → Reader Phrase) (f_needs : Place → Phrase → Need) → ((a : Phrase) (q : Place) (vs : List Token) → f q a vs ≡ Err u → Good e (brackets p a q) → Small lim most (counts base) (brackets p a q) → spell (brackets p a q) vs ≡ mark p tk.open_bracket ts → Mend lim (f_needs q a vs) (Small lim most (counts base)) (Few counts 1) (Prime e) spell ss u.1)
      → (r.expr e free >>= λ a. a_mark e tk.close_bracket >>= λ q. f q a) ts ≡ Err u → Mend lim (or_then (r.expr e free ts) (around (nd.expr e free ts) (mark_at e tk.close_bracket ∷ [])) (λ a us. or_then (a_mark e tk.close_bracket us) (a_close e tk.close_bracket) (λ q vs. f_needs q a vs))) (Small lim most (counts base)) (Few counts 1) (Prime e) spell ss u.1
  brackets_mended e p g ts u ss at f f_needs after_it o =
      refused_part o
      (λ j. onto at (let m = h.expr e free refl ts u j in inside (λ v. mark p tk.open_bracket v) (put_ahead held) (mark_at e tk.close_bracket ∷ []) m (brackets p m.whole (after e)) ((g, m.good.0, right_after e), refl) (λ z c i. search (al.low, m.fits)) (λ k n. cut_inside (λ u. ((n + 1) ∷ u)) (put_ahead held) (λ u. ((n + 1) ∷ u)) (mark_at e tk.close_bracket ∷ []) (λ u. refl) (λ u. omega arith) (inr ((n + 1), λ u. refl, omega arith)) (omega arith) m.fix (k (n + 1))) (λ v. refl) refl))
      (λ a us j l. (let w = within.expr e free refl ts a us j in
      refused_part l
      (λ j. onto at (let d = mark_err e tk.close_bracket us u j in missing (λ v. mark p tk.open_bracket (spell a v)) (put_ahead (ahead a)) (mark_at e tk.close_bracket ∷ []) (brackets p a (after e)) ((g, w.0, right_after e), refl) (λ z c i. search (al.low, w.3)) (λ n. cut_missing (λ u. ((n + 1) ∷ (counts (n + 1) a u))) (put_ahead (then_ahead (cnt.ahead_counts (n + 1) a) (held))) (λ u. ((n + 1) ∷ u)) (mark_at e tk.close_bracket ∷ []) (λ u. refl) (λ u. omega arith) (inr ((n + 1), λ u. refl, omega arith))) (λ v. refl) (rw (sym d, w.2) refl)))
      (λ q vs j l. (let m = mark_ok e tk.close_bracket us q vs j in after_it a q vs l (g, w.0, m.0) (λ z c i. search (al.low, w.3)) (rw (m.1, w.2) refl)))))

  prefix_mended : (e : ℕ) (c : Context) (p : Place) (o q : Op) → prefix_by o ≡ Some q → Right e p → (ts : List Token) (u : Stop) → (under_by (is_free c q) r e q >>= λ a. gives (prefix_of p q a)) ts ≡ Err u → Mend lim (need_under (is_free c q) nd e q ts) (Small lim most (counts base)) (Few counts 1) (Operand c e) spell (token p (tk.sign o) ∷ ts) u.1
  prefix_mended e c p o q m g ts u l =
      let w = prefix_is o q m in
      broken l
      (λ j. (let y = by (is_free c q) refl j in
      inside (λ v. token p (tk.sign o) ∷ v) (put_ahead held) [] y (prefix_of p q y.whole) ((w.0, y.good.1, g, y.good.0), y.good.2, refl) (λ z c i. search (al.low, y.fits)) (λ k n. cut_inside (λ u. ((n + 1) ∷ u)) (put_ahead held) (λ u. u) [] (λ u. refl) (λ u. omega arith) (inl (refl, λ u. refl)) (omega arith) y.fix (k (n + 1))) (λ v. rw w.1 refl) refl))
      (λ a us j l. gives_err (prefix_of p q a) us u l)
    where
      by : (b : Bool) → is_free c q ≡ b → under_by b r e q ts ≡ Err u → Mend lim (need_under b nd e q ts) (Small lim most (counts (base + 1))) (Few counts 1) (λ a. Good e a × (can_be_under q a ≡ true) × (fits c (prefix_of p q a) ≡ true)) spell ts u.1
      by true f j = better (λ a g. (g.0, g.1, free_fits c p q a f)) (λ a f. f) (λ a fix g k. k) (h.expr e (under q) refl ts u j)
      by false f j = better (λ a g. (g.0, short_under q a g.1, short_fits c p q a g.1)) (λ a f. f) (λ a fix g k. k) (h.short e ts u j)

  brief_mended : (e : ℕ) (p : Place) (o q : Op) → prefix_by o ≡ Some q → Right e p → (ts : List Token) (u : Stop) → (r.short e >>= λ a. gives (prefix_of p q a)) ts ≡ Err u → Mend lim (nd.short e ts) (Small lim most (counts base)) (Few counts 1) (Brief e) spell (token p (tk.sign o) ∷ ts) u.1
  brief_mended e p o q m g ts u l =
      let w = prefix_is o q m in
      broken l
      (λ j. (let y = h.short e ts u j in
      inside (λ v. token p (tk.sign o) ∷ v) (put_ahead held) [] y (prefix_of p q y.whole) ((w.0, short_under q y.whole y.good.1, g, y.good.0), y.good.1) (λ z c i. search (al.low, y.fits)) (λ k n. cut_inside (λ u. ((n + 1) ∷ u)) (put_ahead held) (λ u. u) [] (λ u. refl) (λ u. omega arith) (inl (refl, λ u. refl)) (omega arith) y.fix (k (n + 1))) (λ v. rw w.1 refl) refl))
      (λ a us j l. gives_err (prefix_of p q a) us u l)

module _ (lim : Bool) (most base : ℕ) (rm : Room) (r full : Readers) (sq : Sound full) (al : AreLimited true lim most base r full) (iv : IsRoom true lim most base rm full) {nd : Needs} (h : Mends lim most base r nd) (mv : MendsRoom lim most base rm nd) where
  s : Read lim most base r
  s = are_read lim most base r full sq al

  -- ---- primaries
  list_mended : (e : ℕ) (p : Place) (o : Op) (ts : List Token) (u : Stop) → next e ts ≡ token p (tk.sign o) → list_if (is_bullet o) r e p o ts ≡ Err u → Mend lim (need_list (is_bullet o) r nd e p o ts) (Small lim most (counts base)) (Few counts 1) (Prime e) spell ts u.1
  list_mended e p o ts u n i = by (is_bullet o) refl i
    where
      by : (b : Bool) → is_bullet o ≡ b → list_if b r e p o ts ≡ Err u → Mend lim (need_list b r nd e p o ts) (Small lim most (counts base)) (Few counts 1) (Prime e) spell ts u.1
      by true b i =
          let right = (seen e ts p (tk.sign o) n refl).0 in
          refused_part i
          (λ j. elim (h.bullets e o p.col b right ts p (is_its_bullet e p o ts n) u j) [
            | inl d ↦ regive (λ z. not_both d.0 z) (nothing lim most base al.low e ts u (right_after e, refl) d.1)
            | inr m ↦ (let same_items : GoodBullets (first_bullet m.whole).col m.whole = rw (first_column p.col m.whole m.good.0) m.good.0 in
                inside (λ v. v) held [] m (list o m.whole) ((b, m.good.1, same_items), refl) m.fits (λ k n. cut_inside (λ u. u) (held) (λ u. u) [] (λ u. refl) (λ u. omega arith) (inl (refl, λ u. refl)) (omega arith) m.fix (k n)) (λ v. refl) refl)
          ])
          (λ bs us j l. (let w = s.bullets e o p.col b ts p (is_its_bullet e p o ts n) bs us j in
          let same_items : GoodBullets (first_bullet bs).col bs = rw (first_column p.col bs w.0) w.0 in
          onto w.2 (h.postfix e (list o bs) (b, w.1, same_items) refl w.3 us u l)))
      by false b i = nothing lim most base al.low e ts u (right_after e, refl) (left_is {A = Phrase} i)

  primary_mended : (e : ℕ) (p : Place) (k : TokenView) (ts : List Token) (u : Stop) → next e ts ≡ token p k → rd.primary rm r e p k ts ≡ Err u → Mend lim (need_primary rm r nd e p k ts) (Small lim most (counts base)) (Few counts 1) (Prime e) spell ts u.1
  primary_mended e p (tk.number n) ts u i o = (let m = seen e ts p (tk.number n) i refl in onto m.1 (h.postfix e (number p n) m.0 refl (λ z c i. search (al.low)) (tail ts) u o))
  primary_mended e p (tk.string x) ts u i o = (let m = seen e ts p (tk.string x) i refl in onto m.1 (h.postfix e (string p x) m.0 refl (λ z c i. search (al.low)) (tail ts) u o))
  primary_mended e p (tk.constant c) ts u i o = (let m = seen e ts p (tk.constant c) i refl in onto m.1 (h.postfix e (constant p c) m.0 refl (λ z c i. search (al.low)) (tail ts) u o))
  primary_mended e p (tk.word x) ts u i o = (let m = seen e ts p (tk.word x) i refl in onto m.1 (from_mended lim most base rm r full sq al iv h mv e p x m.0 (tail ts) u o))
  primary_mended e p (tk.mark tk.open_bracket) ts u i o =
      let n = seen e ts p (tk.mark tk.open_bracket) i refl in
      opened_err lim most base rm full iv mv 0 (base + 1) refl (λ i d. skip (d.expr e free >>= λ a. a_mark e tk.close_bracket >>= λ q. r.postfix e (brackets p a q))) (λ i d. need_brackets d nd e p) ts u o
      (λ d'. nothing lim most base al.low e ts u (right_after e, refl) d')
      (λ i d ad id hd md o. brackets_mended lim most base d full sq ad hd e p n.0 (tail ts) u ts n.1 (λ q a. r.postfix e (brackets p a q)) (λ q a. nd.postfix e (brackets p a q)) (λ a q vs l g f t. onto (t ∙ n.1) (h.postfix e (brackets p a q) g refl f vs u l)) o)
  primary_mended e p (tk.mark tk.open_brace) ts u i o =
      let n = seen e ts p (tk.mark tk.open_brace) i refl in
      opened_err lim most base rm full iv mv 0 (base + 1) refl (λ i d. skip (peek e (rd.braces i d e p) >>= λ a. r.postfix e a)) (λ i d. need_in_braces i d nd e p) ts u o
      (λ d'. nothing lim most base al.low e ts u (right_after e, refl) d')
      (λ i d ad id hd md o. refused_part o
      (λ j. onto n.1 (braces_mended lim most base i d full sq ad id hd md e p n.0 (next e (tail ts)).place (next e (tail ts)).kind (tail ts) u refl j))
      (λ a us j l. (let w = braces_read lim most base i d full sq ad id e p n.0 (next e (tail ts)).place (next e (tail ts)).kind (tail ts) a us refl j in onto (w.2 ∙ n.1) (h.postfix e a w.0 w.1 w.3 us u l))))
  primary_mended e p (tk.mark tk.open_tuple) ts u i o =
      let n = seen e ts p (tk.mark tk.open_tuple) i refl in
      opened_err lim most base rm full iv mv 0 (base + 1) refl (λ i d. skip (peek e (rd.tuples d e p) >>= λ a. r.postfix e a)) (λ i d. need_in_tuple d nd e p) ts u o
      (λ d'. nothing lim most base al.low e ts u (right_after e, refl) d')
      (λ i d ad id hd md o. refused_part o
      (λ j. onto n.1 (tuples_mended lim most base i d full sq ad id hd md e p n.0 (next e (tail ts)).place (next e (tail ts)).kind (tail ts) u refl j))
      (λ a us j l. (let w = tuples_read lim most base i d full sq ad id e p n.0 (next e (tail ts)).place (next e (tail ts)).kind (tail ts) a us refl j in onto (w.2 ∙ n.1) (h.postfix e a w.0 w.1 w.3 us u l))))
  primary_mended e p (tk.mark tk.open_square) ts u i o =
      let n = seen e ts p (tk.mark tk.open_square) i refl in
      opened_err lim most base rm full iv mv 0 (base + 1) refl (λ i d. skip (peek e (rd.squares i d e p) >>= λ a. r.postfix e a)) (λ i d. need_in_squares i d nd e p) ts u o
      (λ d'. nothing lim most base al.low e ts u (right_after e, refl) d')
      (λ i d ad id hd md o. refused_part o
      (λ j. onto n.1 (squares_mended lim most base i d full sq ad id hd md e p n.0 (next e (tail ts)).place (next e (tail ts)).kind (tail ts) u refl j))
      (λ a us j l. (let w = squares_read lim most base i d full sq ad id e p n.0 (next e (tail ts)).place (next e (tail ts)).kind (tail ts) a us refl j in onto (w.2 ∙ n.1) (h.postfix e a w.0 w.1 w.3 us u l))))
  primary_mended e p (tk.sign o) ts u i l = list_mended e p o ts u i l
  primary_mended e p k ts u i o = nothing lim most base al.low e ts u (right_after e, refl) (left_is {A = Phrase} {ts = ts} {u = u} o)

  -- ---- open forms
  keyed_mended : (e : ℕ) (c : Context) (p : Place) (k : Key) (ts : List Token) (u : Stop) → next e ts ≡ token p (tk.key k) → keyed rm e p k ts ≡ Err u → Mend lim (need_keyed rm nd e k ts) (Small lim most (counts base)) (Few counts 1) (Operand c e) spell ts u.1
  keyed_mended e c p tk.if_key ts u i o =
      let n = seen e ts p (tk.key tk.if_key) i refl in
      opened_err lim most base rm full iv mv 0 (base + 1) refl (λ i d. skip (rd.choice_from d e p)) (λ i d ts. need_choice d nd e (tail ts)) ts u o
      (λ d'. nothing lim most base al.low e ts u (right_after e, prime_fits c (some e) refl, refl) d')
      (λ i d ad id hd md o. onto n.1 (choice_mended lim most base d full sq ad hd e c p n.0 (tail ts) u o))
  keyed_mended e c p tk.case_key ts u i o =
      let n = seen e ts p (tk.key tk.case_key) i refl in
      opened_err lim most base rm full iv mv 0 (base + 1) refl (λ i d. skip (d.arms e >>= λ xs. gives (cases p xs))) (λ i d ts. nd.arms e (tail ts)) ts u o
      (λ d'. nothing lim most base al.low e ts u (right_after e, prime_fits c (some e) refl, refl) d')
      (λ i d ad id hd md o. onto n.1 (cases_mended lim most base d full sq ad hd e c p n.0 (tail ts) u o))
  keyed_mended e c p tk.let_key ts u i o =
      let n = seen e ts p (tk.key tk.let_key) i refl in
      opened_err lim most base rm full iv mv 0 (base + 1) refl (λ i d. skip (d.locals e >>= λ ls. a_key e tk.in_key >>= λ q. d.expr e free >>= λ a. gives (local p ls q a))) (λ i d ts. need_local d nd e (tail ts)) ts u o
      (λ d'. nothing lim most base al.low e ts u (right_after e, prime_fits c (some e) refl, refl) d')
      (λ i d ad id hd md o. onto n.1 (local_mended lim most base d full sq ad hd e c p n.0 (tail ts) u o))
  keyed_mended e c p tk.for_all_key ts u i o =
      let n = seen e ts p (tk.key tk.for_all_key) i refl in
      opened_err lim most base rm full iv mv 0 (base + 1) refl (λ i d. skip (rd.quantifier d e true p)) (λ i d ts. need_quantifier d nd e (tail ts)) ts u o
      (λ d'. nothing lim most base al.low e ts u (right_after e, prime_fits c (some e) refl, refl) d')
      (λ i d ad id hd md o. onto n.1 (quantifier_mended lim most base d full sq ad hd e c true p n.0 (tail ts) u o))
  keyed_mended e c p tk.exists_key ts u i o =
      let n = seen e ts p (tk.key tk.exists_key) i refl in
      opened_err lim most base rm full iv mv 0 (base + 1) refl (λ i d. skip (rd.quantifier d e false p)) (λ i d ts. need_quantifier d nd e (tail ts)) ts u o
      (λ d'. nothing lim most base al.low e ts u (right_after e, prime_fits c (some e) refl, refl) d')
      (λ i d ad id hd md o. onto n.1 (quantifier_mended lim most base d full sq ad hd e c false p n.0 (tail ts) u o))
  keyed_mended e c p k ts u i o = nothing lim most base al.low e ts u (right_after e, prime_fits c (some e) refl, refl) (left_is {A = Phrase} {ts = ts} {u = u} o)

  -- ---- operands
  signed_mended : (e : ℕ) (c : Context) (p : Place) (o : Op) (ts : List Token) (u : Stop) → next e ts ≡ token p (tk.sign o) → signed rm r e c p o (prefix_by o) ts ≡ Err u → Mend lim (need_signed rm r nd e c p o (prefix_by o) ts) (Small lim most (counts base)) (Few counts 1) (Operand c e) spell ts u.1
  signed_mended e c p o ts u i l = by (prefix_by o) refl l
    where
      by : (m : Option Op) → prefix_by o ≡ m → signed rm r e c p o m ts ≡ Err u → Mend lim (need_signed rm r nd e c p o m ts) (Small lim most (counts base)) (Few counts 1) (Operand c e) spell ts u.1
      by (Some q) m o' =
          let n = seen e ts p (tk.sign o) i refl in
          opened_err lim most base rm full iv mv 0 (base + 1) refl (λ i d. skip (under_by (is_free c q) d e q >>= λ a. gives (prefix_of p q a))) (λ i d ts. need_under (is_free c q) nd e q (tail ts)) ts u o'
          (λ d'. nothing lim most base al.low e ts u (right_after e, prime_fits c (some e) refl, refl) d')
          (λ i d ad id hd md o'. onto n.1 (prefix_mended lim most base d full sq ad hd e c p o q m n.0 (tail ts) u o'))
      by None m l = better (λ a g. (g.0, prime_fits c a g.1, prime_plain a g.1)) (λ a f. f) (λ a fix g k. k) (list_mended e p o ts u i l)

  pub operand_mended : (e : ℕ) (c : Context) (p : Place) (k : TokenView) (ts : List Token) (u : Stop) → next e ts ≡ token p k → operand rm r e c p k ts ≡ Err u → Mend lim (need_operand rm r nd e c p k ts) (Small lim most (counts base)) (Few counts 1) (Operand c e) spell ts u.1
  operand_mended e c p (tk.key k) ts u i o = keyed_mended e c p k ts u i o
  operand_mended e c p (tk.sign o) ts u i l = signed_mended e c p o ts u i l
  operand_mended e c p k ts u i o = better (λ a g. (g.0, prime_fits c a g.1, prime_plain a g.1)) (λ a f. f) (λ a fix g k. k) (primary_mended e p k ts u i o)

  pub short_mended : (e : ℕ) (p : Place) (k : TokenView) (ts : List Token) (u : Stop) → next e ts ≡ token p k → short_by rm r e p k ts ≡ Err u → Mend lim (need_short rm r nd e p k ts) (Small lim most (counts base)) (Few counts 1) (Brief e) spell ts u.1
  short_mended e p (tk.sign o) ts u i l = by (prefix_by o) refl l
    where
      by : (m : Option Op) → prefix_by o ≡ m → short_signed rm r e p o m ts ≡ Err u → Mend lim (need_short_signed rm r nd e p o m ts) (Small lim most (counts base)) (Few counts 1) (Brief e) spell ts u.1
      by (Some q) m o' =
          let n = seen e ts p (tk.sign o) i refl in
          opened_err lim most base rm full iv mv 0 (base + 1) refl (λ i d. skip (d.short e >>= λ a. gives (prefix_of p q a))) (λ i d ts. nd.short e (tail ts)) ts u o'
          (λ d'. nothing lim most base al.low e ts u (right_after e, refl) d')
          (λ i d ad id hd md o'. onto n.1 (brief_mended lim most base d full sq ad hd e p o q m n.0 (tail ts) u o'))
      by None m l = better (λ a g. (g.0, prime_short a g.1)) (λ a f. f) (λ a fix g k. k) (list_mended e p o ts u i l)
  short_mended e p k ts u i o = better (λ a g. (g.0, prime_short a g.1)) (λ a f. f) (λ a fix g k. k) (primary_mended e p k ts u i o)

  -- ---- loops
  -- what was read so far
  so_far_mended : (e : ℕ) (Q : Phrase → Type 0) (b : Phrase) → Q b → Small lim most (counts base) b → (ts : List Token) (u : Stop) → ts ≡ u.1 → Mend lim [] (Small lim most (counts base)) (Few counts 1) Q spell (spell b ts) u.1
  so_far_mended e Q b g f ts u d = missing (λ v. spell b v) (ahead b) [] b g f (λ n. cut_missing (λ u. (counts n b u)) (then_ahead (cnt.ahead_counts n b) (held)) (λ u. u) [] (λ u. refl) (λ u. omega arith) (inl (refl, λ u. refl))) (λ v. refl) (ap (spell b) d)

  pub postfix_mended : (e : ℕ) (b : Phrase) → Good e b → is_primary (head b) ≡ true → Small lim most (counts base) b → (p : Place) (k : TokenView) (ts : List Token) (u : Stop) → next e ts ≡ token p k → postfix_by rm r e b p k ts ≡ Err u → Mend lim (need_postfix rm nd e b p k ts) (Small lim most (counts base)) (Few counts 1) (Prime e) spell (spell b ts) u.1
  postfix_mended e b g f fb p (tk.mark tk.open_square) ts u i o = by (can_be_head b p) refl o
    where
      by : (m : Bool) → can_be_head b p ≡ m → apply_if m rm r e b p ts ≡ Err u → Mend lim (need_apply m rm nd e b p ts) (Small lim most (counts base)) (Few counts 1) (Prime e) spell (spell b ts) u.1
      by true m o =
          let n = seen e ts p (tk.mark tk.open_square) i refl in
          let o' : opened rm (links b) (in_apply r e b p) ts ≡ Err u = subst (λ (t : Bool). opened rm (before t b) (in_apply r e b p) ts ≡ Err u) mv.linked o in
          opened_err lim most base rm full iv mv (links b) (base + links b + 1) (omega arith) (in_apply r e b p) (λ i d. need_subscript d nd e b p) ts u o'
          (λ d'. so_far_mended e (Prime e) b (g, f) fb ts u d')
          (λ i d ad id hd md o. refused_part o
          (λ j. (let y = hd.phrases e (tail ts) u j in inside (λ v. spell b (mark p tk.open_square v)) (then_ahead (ahead b) (put_ahead held)) (mark_at e tk.close_square ∷ []) y (apply b p y.whole (after e)) ((g, m, n.0, y.good, right_after e), refl) (λ z c i. search (ad.low, fb, y.fits)) (λ k n. cut_inside (λ u. (counts n b ((n + links b + 1) ∷ u))) (then_ahead (cnt.ahead_counts n b) (put_ahead held)) (λ u. ((n + links b + 1) ∷ u)) (mark_at e tk.close_square ∷ []) (λ u. refl) (λ u. omega arith) (inr ((n + links b + 1), λ u. refl, omega arith)) (omega arith) y.fix (k (n + links b + 1))) (λ v. refl) (rw n.1 refl)))
          (λ xs us j l. (let w = (are_read lim most (base + links b + 1) d full sq ad).phrases e (tail ts) xs us j in
          refused_part l
          (λ j. (let d'' = mark_err e tk.close_square us u j in missing (λ v. spell b (mark p tk.open_square (spell_all xs v))) (then_ahead (ahead b) (put_ahead (ahead_all xs))) (mark_at e tk.close_square ∷ []) (apply b p xs (after e)) ((g, m, n.0, w.0, right_after e), refl) (λ z c i. search (ad.low, fb, w.2)) (λ n. cut_missing (λ u. (counts n b ((n + links b + 1) ∷ (counts_all (n + links b + 1) xs u)))) (then_ahead (cnt.ahead_counts n b) (put_ahead (then_ahead (cnt.ahead_all (n + links b + 1) xs) (held)))) (λ u. ((n + links b + 1) ∷ u)) (mark_at e tk.close_square ∷ []) (λ u. refl) (λ u. omega arith) (inr ((n + links b + 1), λ u. refl, omega arith))) (λ v. refl) (rw (sym d'', w.1, n.1) refl)))
          (λ q vs j l. (let y = mark_ok e tk.close_square us q vs j in onto (rw (y.1, w.1, n.1) refl) (h.postfix e (apply b p xs q) (g, m, n.0, w.0, y.0) refl (λ z c i. search (ad.low, fb, w.2)) vs u l))))))
      by false m o = gives_err b ts u o
  postfix_mended e b g f fb p (tk.mark tk.dot) ts u i o = by (can_be_head b p) refl o
    where
      by : (m : Bool) → can_be_head b p ≡ m → select_if m rm r e b p ts ≡ Err u → Mend lim (need_select m rm nd e b p ts) (Small lim most (counts base)) (Few counts 1) (Prime e) spell (spell b ts) u.1
      by true m o =
          let n = seen e ts p (tk.mark tk.dot) i refl in
          let o' : opened rm (links b) (in_select r e b p) ts ≡ Err u = subst (λ (t : Bool). opened_if t rm r (links b) (in_select r e b p) ts ≡ Err u) mv.linked o in
          opened_err lim most base rm full iv mv (links b) (base + links b + 1) (omega arith) (in_select r e b p) (λ i d. need_selected nd e b p) ts u o'
          (λ d'. so_far_mended e (Prime e) b (g, f) fb ts u d')
          (λ i d ad id hd md o. refused_part o
          (λ j. (let d'' = field_err e (tail ts) u j in missing (λ v. spell b (mark p tk.dot v)) (then_ahead (ahead b) (put_ahead held)) (word_at e ∷ []) (select b p (some_field e)) ((g, m, n.0, right_after e), refl) (λ z c i. search (ad.low, fb)) (λ n. cut_missing (λ u. (counts n b ((n + links b + 1) ∷ u))) (then_ahead (cnt.ahead_counts n b) (put_ahead held)) (λ u. ((n + links b + 1) ∷ u)) (word_at e ∷ []) (λ u. refl) (λ u. omega arith) (inr ((n + links b + 1), λ u. refl, omega arith))) (λ v. refl) (rw (sym d'', n.1) refl)))
          (λ x us j l. (let w = field_ok e (tail ts) x us j in onto (rw (w.1, n.1) refl) (h.postfix e (select b p x) (g, m, n.0, w.0) refl (λ z c i. search (ad.low, fb)) us u l))))
      by false m o = gives_err b ts u o
  postfix_mended e b g f fb p k ts u i o = gives_err b ts u o

  pub climb_mended : (e : ℕ) (c : Context) → is_behind_in c ≡ false → (b : Phrase) → Good e b → fits c b ≡ true → Small lim most (counts base) b → (p : Place) (k : TokenView) (ts : List Token) (u : Stop) → next e ts ≡ token p k → climb_by rm r e c b p k ts ≡ Err u → Mend lim (need_climb rm nd e c b p k ts) (Small lim most (counts base)) (Few counts 1) (Fits c e) spell (spell b ts) u.1
  climb_mended e c al' b g f fb p (tk.sign o) ts u i l = by (goes_on (bound c) b p o) refl l
    where
      by : (m : Bool) → goes_on (bound c) b p o ≡ m → climb_if m rm r e c b p o ts ≡ Err u → Mend lim (need_infix m rm nd e c b p o ts) (Small lim most (counts base)) (Few counts 1) (Fits c e) spell (spell b ts) u.1
      by true m l =
          let n = seen e ts p (tk.sign o) i refl in
          let w = and_parts (not (is_prefix o)) (nat_lt (bound c) (rank o).0 && can_be_left b p o) m in
          let x = and_parts (nat_lt (bound c) (rank o).0) (can_be_left b p o) w.1 in
          let its_sign = sign_infix o (not-true (is_prefix o) w.0) in
          rw (alone true lim most base rm r full al iv c al' b p o) (opened_err lim most base rm full iv mv (chain b) (base + chain b + 1) (omega arith) (λ i d. skip (d.expr e (right_of o) >>= λ a. r.climb e c (infix_of b p o a))) (need_right nd e c b p o) ts u (rw (alone true lim most base rm r full al iv c al' b p o) at l)
          (λ d'. so_far_mended e (Fits c e) b (g, f) fb ts u d')
          (λ i d ad id hd md l. refused_part l
          (λ j. (let y = hd.expr e (right_of o) refl (tail ts) u j in inside (λ v. spell b (token p (tk.sign o) ∷ v)) (then_ahead (ahead b) (put_ahead held)) [] y (infix_of b p o y.whole) ((w.0, x.1, y.good.1, g, n.0, y.good.0), infix_fits c b p o y.whole x.0) (λ z c i. search (ad.low, fb, y.fits)) (λ k n. cut_inside (λ u. (counts n b ((n + chain b + 1) ∷ u))) (then_ahead (cnt.ahead_counts n b) (put_ahead held)) (λ u. u) [] (λ u. refl) (λ u. omega arith) (inl (refl, λ u. refl)) (omega arith) y.fix (k (n + chain b + 1))) (λ v. rw its_sign refl) (rw n.1 refl)))
          (λ a us j l. (let y = (are_read lim most (base + chain b + 1) d full sq ad).expr e (right_of o) refl (tail ts) a us j in onto (rw (its_sign, y.2, n.1) refl) (h.climb e c al' (infix_of b p o a) (w.0, x.1, y.1, g, n.0, y.0) (infix_fits c b p o a x.0) (λ z c i. search (ad.low, fb, y.3)) us u l)))))
      by false m l = gives_err b ts u l
  climb_mended e c al' b g f fb p k ts u i o = gives_err b ts u o

  -- behind `x \in`
  pub set_climb_mended : (e : ℕ) (y : Place) (x : Word) (t : Place) (b : Phrase) → Good e b → Alive true lim most base y x t b → (p : Place) (k : TokenView) (ts : List Token) (u : Stop) → next e ts ≡ token p k → climb_by rm r e (behind y x t) b p k ts ≡ Err u → Mend lim (need_climb rm nd e (behind y x t) b p k ts) (Alive true lim most base y x t) (FewBoth y x t) (Good e) spell (spell b ts) u.1
  set_climb_mended e y x t b g fb p (tk.sign o) ts u i l = by (goes_on 0 b p o) refl l
    where
      Goal : Wants → Type 0
      Goal ws = Mend lim ws (Alive true lim most base y x t) (FewBoth y x t) (Good e) spell (spell b ts) u.1

      there : ts ≡ u.1 → Goal []
      there d = missing (λ v. spell b v) (ahead b) [] b g fb (uncut b, λ c i. uncut c) (λ v. refl) (ap (spell b) d)

      after_sign : (m : goes_on 0 b p o ≡ true) (j : ℕ) → so_far rm (behind y x t) b p o ≡ Some j → opened rm j (λ i d. skip (d.expr e (right_of o) >>= λ a. r.climb e (behind y x t) (infix_of b p o a))) ts ≡ Err u → Goal (need_opened rm j [] (need_right nd e (behind y x t) b p o) ts)
      after_sign m j eq l =
          let n = seen e ts p (tk.sign o) i refl in
          let w = and_parts (not (is_prefix o)) (nat_lt 0 (rank o).0 && can_be_left b p o) m in
          let z = and_parts (nat_lt 0 (rank o).0) (can_be_left b p o) w.1 in
          let its_sign = sign_infix o (not-true (is_prefix o) w.0) in
          let alive = alive_after true lim most base rm r full al iv sq e y x t (λ u. u) held b o p j eq (base + suc j) refl in
          opened_err lim most base rm full iv mv j (base + suc j) refl (λ i d. skip (d.expr e (right_of o) >>= λ a. r.climb e (behind y x t) (infix_of b p o a))) (need_right nd e (behind y x t) b p o) ts u l there
          (λ i d ad id hd md l. refused_part l
          (λ f. (let v = hd.expr e (right_of o) refl (tail ts) u f in inside (λ v. spell b (token p (tk.sign o) ∷ v)) (then_ahead (ahead b) (put_ahead held)) [] v (infix_of b p o v.whole) (w.0, z.1, v.good.1, g, n.0, v.good.0) (alive v.whole ad.low v.fits) (infix_few y x t b p o v.whole v.fix) (λ v. rw its_sign refl) (rw n.1 refl)))
          (λ a us f l. (let v = (are_read lim most (base + suc j) d full sq ad).expr e (right_of o) refl (tail ts) a us f in onto (rw (its_sign, v.2, n.1) refl) (h.climb_set e y x t (infix_of b p o a) (w.0, z.1, v.1, g, n.0, v.0) (alive a ad.low v.3) us u l))))

      open_by : (m : goes_on 0 b p o ≡ true) (j : Option ℕ) → so_far rm (behind y x t) b p o ≡ j → opened_after rm j (λ i d. skip (d.expr e (right_of o) >>= λ a. r.climb e (behind y x t) (infix_of b p o a))) ts ≡ Err u → Goal (need_after rm j (need_right nd e (behind y x t) b p o) ts)
      open_by m (Some j) eq l = after_sign m j eq l
      open_by m None eq l = there (deep_is {A = Phrase} l)

      by : (m : Bool) → goes_on 0 b p o ≡ m → climb_if m rm r e (behind y x t) b p o ts ≡ Err u → Goal (need_infix m rm nd e (behind y x t) b p o ts)
      by true m l = open_by m (so_far rm (behind y x t) b p o) refl l
      by false m l = gives_err b ts u l
  set_climb_mended e y x t b g fb p k ts u i o = gives_err b ts u o
