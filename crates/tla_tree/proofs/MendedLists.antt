-- What stands before a refused token can be gone on with: lists of all kinds, and all readers together.
use Rattle.std.proofs.Common.{subst, get_or, length-append, ◌*◌, length, ◌≡◌, ◌⊎◌, ℕ, zero, suc, ◌+◌, ◌-◌, ◌≤◌, ◌++◌, nat_eq, nat_lt, nat_le, Bool, true, false, not, ◌&&◌, List, [], ◌∷◌, Some, None, Err, option_map, inl, inr, refl, sym, ap, ◌∙◌, arith}
use Rattle.std.proofs.lemmas.List.{append-nil}
use Rattle.std.proofs.lemmas.Bool.{leb-true}
use Rattle.tla_token.specs.declared.place.Place.{Place}
use Rattle.tla_token.specs.Limits.{deepest_expression}
use Rattle.tla_tree.specs.declared.op.Op.{Op}
use Rattle.tla_tree.specs.declared.op.Op.TheVariants as op
use Rattle.tla_tree.specs.Tree.{Word}
use Rattle.tla_tree.specs.Rank.{is_bullet}
use Rattle.tla_tree.specs.Lexical.{Mark, TokenView, Token, token}
use Rattle.tla_tree.specs.Lexical as tk
use Rattle.tla_tree.specs.Spelling.{Field, Phrase}
use Rattle.tla_tree.specs.Spelling.{Phrases, last, more, Binds, last_bind, share, Fields, last_field, field, Settings, last_setting, setting, Path, path_end, index, at_field, Bullets, last_bullet, bullet, Arms, last_arm, other_arm, arm, Locals, last_local, more_locals}
use Rattle.tla_tree.specs.Spelling.{mark, key, sign, word, field_token, spell, spell_all, spell_binds, spell_fields, spell_settings, spell_path, spell_bullets, spell_arms, spell_locals, Right, Good, GoodAll, GoodBinds, GoodFields, GoodSettings, GoodPath, GoodArms, GoodLocals, is_some_path, takes_box}
use Rattle.tla_tree.specs.Wanted.{after, mark_at, sign_at, number_at, an_x, word_at, bullet_at, Wants, completing, a_number}
use Rattle.tla_tree.specs.Needs.{Needs}
use Rattle.tla_tree.specs.NeedsLists.{need_phrases, a_bind, need_binds, need_fields, need_settings, need_setting, a_path, need_index, need_path, need_items, need_other, need_arms, need_arm, need_locals, a_field_of, a_setting, a_local, step_needs, first_needs, needs}
use Rattle.tla_tree.proofs.DeepCounts as cnt
use Rattle.tla_tree.proofs.SpellAhead.{held, put_ahead, then_ahead, ahead, ahead_all, ahead_path}
use Rattle.tla_tree.proofs.MendedCounts.{Heads, Cut, Few, uncut, cut_inside, cut_missing}
use Rattle.tla_tree.proofs.Mended.{FewBoth, plain_few, better, right_after, some, some_bind, some_field, some_path, Mend, inside, missing, onto, regive, any_needs, not_both, left_is, broken, refused_by, refused_part, no_take, mark_err, sign_err, word_err, field_err, gives_err, Fits, SomePath, Listed, Mends, ReadersMend, MendsRoom, opened_by, opened_err}
use Rattle.tla_tree.specs.Nesting.{counts, counts_all, counts_binds, counts_fields, counts_settings, counts_path, counts_bullets, counts_arms, counts_locals}
use Rattle.tla_tree.specs.Reader.{Stop, Room, room, less, any, skip, peek, take, a_mark, behind, is_behind_in, read_limited, ◌>>=◌, gives, next, tail, is_sign, bullet_of, Context, free, Readers, one_step, no_steps, readers, readers_in, read, phrases_by, binds_by, fields_by, settings_by, setting_if, path_by, bullets_if, arms_other, arms_if, arms_by, locals_by}
use Rattle.tla_tree.proofs.SoundTokens.{seen, mark_ok, sign_ok, word_ok, field_ok}
use Rattle.tla_tree.proofs.SoundPhrases.{Sound}
use Rattle.tla_tree.proofs.SoundForms.{is_infix, bullet_sign, prime_fits}
use Rattle.tla_tree.proofs.DeepCounts.{Fit}
use Rattle.tla_tree.proofs.LimitedRooms.{Alive, AreLimited, IsRoom, any_room}
use Rattle.tla_tree.proofs.LimitedForms.{bullet_if}
use Rattle.tla_tree.proofs.LimitedAll.{unlimited, limited, limited_room}
use Rattle.tla_tree.proofs.CountsLaws.{as_many_counts}
use Rattle.tla_tree.proofs.ReadWithin.{Small, Read, are_read, operand_read}
use Rattle.tla_tree.proofs.SoundLists.{bullet_sound, sound}
use Rattle.tla_tree.proofs.MendedBraces.{bind_mended}
use Rattle.tla_tree.proofs.MendedForms.{nothing, operand_mended, short_mended, postfix_mended, climb_mended, set_climb_mended}

-- ---- nothing of a list was read
no_phrases : (lim : Bool) (most base : ℕ) → (lim ≡ true → base ≤ most) → (e : ℕ) (ts : List Token) (u : Stop) → ts ≡ u.1 → Mend lim (a_number e) (Small lim most (counts_all base)) (Few counts_all 1) (GoodAll e) spell_all ts u.1
no_phrases lim most base low e ts u d = missing (λ v. v) held (number_at e ∷ []) (last (some e)) (right_after e) (λ z c i. search (low)) (λ n. cut_missing (λ u. u) (held) (λ u. (n ∷ u)) (number_at e ∷ []) (λ u. refl) (λ u. omega arith) (inr (n, λ u. refl, omega arith))) (λ v. refl) d

no_binds : (lim : Bool) (most base : ℕ) → (lim ≡ true → base ≤ most) → (e : ℕ) (p : Place) (x : Word) → Right e p → (ts : List Token) (u : Stop) → ts ≡ u.1 → Mend lim (a_bind e) (Small lim most (counts_binds base)) (Few counts_binds 3) (GoodBinds e) spell_binds (word p x ts) u.1
no_binds lim most base low e p x g ts u d = missing (λ v. word p x v) (put_ahead held) (sign_at e op.In ∷ number_at e ∷ []) (last_bind p x (after e) (some e)) (g, right_after e, right_after e) (λ z c i. search (low)) (λ n. cut_missing (λ u. (n ∷ u)) (put_ahead held) (λ u. (n ∷ (n ∷ u))) (sign_at e op.In ∷ number_at e ∷ []) (λ u. refl) (λ u. omega arith) (inr (n, λ u. refl, omega arith))) (λ v. refl) (rw d refl)

no_fields : (lim : Bool) (most base : ℕ) → (lim ≡ true → base ≤ most) → (e : ℕ) (m : Mark) (f : Field) → Right e f.place → (ts : List Token) (u : Stop) → ts ≡ u.1 → Mend lim (a_field_of e m) (Small lim most (counts_fields base)) (Few counts_fields 3) (GoodFields e) (spell_fields m) (field_token f ts) u.1
no_fields lim most base low e m f g ts u d = missing (λ v. field_token f v) (put_ahead held) (mark_at e m ∷ number_at e ∷ []) (last_field f (after e) (some e)) (g, right_after e, right_after e) (λ z c i. search (low)) (λ n. cut_missing (λ u. (n ∷ u)) (put_ahead held) (λ u. (n ∷ (n ∷ u))) (mark_at e m ∷ number_at e ∷ []) (λ u. refl) (λ u. omega arith) (inr (n, λ u. refl, omega arith))) (λ v. refl) (rw d refl)

no_settings : (lim : Bool) (most base : ℕ) → (lim ≡ true → base ≤ most) → (e : ℕ) (ts : List Token) (u : Stop) → ts ≡ u.1 → Mend lim (a_setting e) (Small lim most (counts_settings base)) (Few counts_settings 5) (GoodSettings e) spell_settings ts u.1
no_settings lim most base low e ts u d =
    let z = right_after e in
    missing (λ v. v) held (mark_at e tk.bang ∷ mark_at e tk.dot ∷ word_at e ∷ sign_at e op.Equal ∷ number_at e ∷ []) (last_setting (after e) (some_path e) (after e) (some e)) (z, refl, (z, z, tt), z, z) (λ z c i. search (low) depth 12) (λ n. cut_missing (λ u. u) (held) (λ u. (n ∷ (n ∷ (n ∷ (n ∷ (n ∷ u)))))) (mark_at e tk.bang ∷ mark_at e tk.dot ∷ word_at e ∷ sign_at e op.Equal ∷ number_at e ∷ []) (λ u. refl) (λ u. omega arith) (inr (n, λ u. refl, omega arith))) (λ v. refl) d

no_path : (lim : Bool) (most base : ℕ) → (lim ≡ true → base ≤ most) → (e : ℕ) (ts : List Token) (u : Stop) → ts ≡ u.1 → Mend lim (a_path e) (Small lim most (counts_path base)) (Few counts_path 2) (SomePath e) spell_path ts u.1
no_path lim most base low e ts u d = missing (λ v. v) held (mark_at e tk.dot ∷ word_at e ∷ []) (some_path e) ((right_after e, right_after e, tt), refl) (λ z c i. search (low)) (λ n. cut_missing (λ u. u) (held) (λ u. (n ∷ (n ∷ u))) (mark_at e tk.dot ∷ word_at e ∷ []) (λ u. refl) (λ u. omega arith) (inr (n, λ u. refl, omega arith))) (λ v. refl) d

no_arms : (lim : Bool) (most base : ℕ) → (lim ≡ true → base ≤ most) → (e : ℕ) (ts : List Token) (u : Stop) → ts ≡ u.1 → Mend lim ((number_at e ∷ mark_at e tk.arrow ∷ number_at e ∷ []) ∷ []) (Small lim most (counts_arms base)) (Few counts_arms 3) (GoodArms e) spell_arms ts u.1
no_arms lim most base low e ts u d = missing (λ v. v) held (number_at e ∷ mark_at e tk.arrow ∷ number_at e ∷ []) (last_arm (some e) (after e) (some e)) (right_after e, right_after e, right_after e) (λ z c i. search (low) depth 12) (λ n. cut_missing (λ u. u) (held) (λ u. (n ∷ (n ∷ (n ∷ u)))) (number_at e ∷ mark_at e tk.arrow ∷ number_at e ∷ []) (λ u. refl) (λ u. omega arith) (inr (n, λ u. refl, omega arith))) (λ v. refl) d

no_locals : (lim : Bool) (most base : ℕ) → (lim ≡ true → base ≤ most) → (e : ℕ) (ts : List Token) (u : Stop) → ts ≡ u.1 → Mend lim (a_local e) (Small lim most (counts_locals base)) (Few counts_locals 3) (GoodLocals e) spell_locals ts u.1
no_locals lim most base low e ts u d = missing (λ v. v) held (word_at e ∷ mark_at e tk.defines ∷ number_at e ∷ []) (last_local (after e) an_x (after e) (some e)) (right_after e, right_after e, right_after e) (λ z c i. search (low)) (λ n. cut_missing (λ u. u) (held) (λ u. (n ∷ (n ∷ (n ∷ u)))) (word_at e ∷ mark_at e tk.defines ∷ number_at e ∷ []) (λ u. refl) (λ u. omega arith) (inr (n, λ u. refl, omega arith))) (λ v. refl) d

-- the column of the next bullet is that of the first
bullets_mended : (lim : Bool) (most base : ℕ) (r : Readers) {full : Readers} → AreLimited true lim most (base + 1) r full → {nd : Needs} → Mends lim most (base + 1) r nd → (e : ℕ) (o : Op) (c : ℕ) → is_bullet o ≡ true → nat_lt e c ≡ true → (p : Place) → Right e p → p.col ≡ c → (a : Phrase) → Good c a → Small lim most (counts (base + 1)) a → (b : Bool) (ts : List Token) → (is_sign o (next e ts).kind && nat_eq c (next e ts).place.col) ≡ b → (u : Stop) → bullets_if b r e o c p a ts ≡ Err u
    → Mend lim (nd.bullets e o c ts) (Small lim most (counts_bullets base)) (Few counts_bullets 1) (Listed e c) (spell_bullets o) (sign p o (spell a ts)) u.1
bullets_mended lim most base r al h e o c ob gc p gp pc a g fa true ts at u i =
    broken i
    (λ j. elim (h.bullets e o c ob gc ts (next e ts).place (bullet_if o c (next e ts) at) u j) [
      | inl d ↦ regive (λ z. not_both d.0 z) (missing (λ v. sign p o (spell a v)) (put_ahead (ahead a)) [] (last_bullet p a) ((pc, g), gp) (λ z c i. search (al.low, fa)) (λ n. cut_missing (λ u. ((n + 1) ∷ (counts (n + 1) a u))) (put_ahead (then_ahead (cnt.ahead_counts (n + 1) a) (held))) (λ u. u) [] (λ u. refl) (λ u. omega arith) (inl (refl, λ u. refl))) (λ v. refl) (ap (λ (v : List Token). sign p o (spell a v)) d.1))
      | inr m ↦ inside (λ v. sign p o (spell a v)) (put_ahead (ahead a)) [] m (bullet p a m.whole) ((pc, g, m.good.0), gp) (λ z c i. search (al.low, fa, m.fits)) (λ k n. cut_inside (λ u. ((n + 1) ∷ (counts (n + 1) a u))) (put_ahead (then_ahead (cnt.ahead_counts (n + 1) a) (held))) (λ u. u) [] (λ u. refl) (λ u. omega arith) (inl (refl, λ u. refl)) (omega arith) m.fix (k (n + 1))) (λ v. refl) refl
    ])
    (λ bs us j l. gives_err (bullet p a bs) us u l)
bullets_mended lim most base r al h e o c ob gc p gp pc a g fa false ts at u i = gives_err (last_bullet p a) ts u i

module _ (lim : Bool) (most base : ℕ) (rm : Room) (r full : Readers) (sq : Sound full) (al : AreLimited true lim most base r full) (iv : IsRoom true lim most base rm full) {nd : Needs} (h : Mends lim most base r nd) (mv : MendsRoom lim most base rm nd) where
  s : Read lim most base r
  s = are_read lim most base r full sq al

  phrases_mended : (e : ℕ) (a : Phrase) → Good e a → Small lim most (counts base) a → (p : Place) (k : TokenView) (ts : List Token) (u : Stop) → next e ts ≡ token p k → phrases_by r e a p k ts ≡ Err u → Mend lim (need_phrases nd e k ts) (Small lim most (counts_all base)) (Few counts_all 1) (GoodAll e) spell_all (spell a ts) u.1
  phrases_mended e a g fa p (tk.mark tk.comma) ts u i o =
      let n = seen e ts p (tk.mark tk.comma) i refl in
      broken o
      (λ j. (let m = h.phrases e (tail ts) u j in inside (λ v. spell a (mark p tk.comma v)) (then_ahead (ahead a) (put_ahead held)) [] m (more a p m.whole) (g, n.0, m.good) (λ z c i. search (al.low, m.fits)) (λ k n. cut_inside (λ u. (counts n a (n ∷ u))) (then_ahead (cnt.ahead_counts n a) (put_ahead held)) (λ u. u) [] (λ u. refl) (λ u. omega arith) (inl (refl, λ u. refl)) (omega arith) m.fix (k n)) (λ v. refl) (rw n.1 refl)))
      (λ xs us j l. gives_err (more a p xs) us u l)
  phrases_mended e a g fa p k ts u i o = gives_err (last a) ts u o

  binds_mended : (e : ℕ) (p : Place) (x : Word) → Right e p → (q : Place) (k : TokenView) (ts : List Token) (u : Stop) → next e ts ≡ token q k → binds_by r e p x q k ts ≡ Err u → Mend lim (need_binds r nd e k ts) (Small lim most (counts_binds base)) (Few counts_binds 3) (GoodBinds e) spell_binds (word p x ts) u.1
  binds_mended e p x g q (tk.sign op.In) ts u i o =
      let n = seen e ts q (tk.sign op.In) i refl in
      refused_part o
      (λ j. (let m = h.expr e free refl (tail ts) u j in inside (λ v. word p x (sign q op.In v)) (put_ahead (put_ahead held)) [] m (last_bind p x q m.whole) (g, n.0, m.good.0) (λ z c i. search (al.low, m.fits)) (λ k n. cut_inside (λ u. (n ∷ (n ∷ u))) (put_ahead (put_ahead held)) (λ u. u) [] (λ u. refl) (λ u. omega arith) (inl (refl, λ u. refl)) (omega arith) m.fix (k n)) (λ v. refl) (rw n.1 refl)))
      (λ a us j l. (let w = s.expr e free refl (tail ts) a us j in onto (rw (w.2, n.1) refl) (bind_mended lim most base rm r full sq al iv h mv e p x q g n.0 a w.0 w.3 (next e us).place (next e us).kind us u refl l)))
  binds_mended e p x g q (tk.mark tk.comma) ts u i o =
      let n = seen e ts q (tk.mark tk.comma) i refl in
      let z = right_after e in
      refused_part o
      (λ j. (let d = word_err e (tail ts) u j in missing (λ v. word p x (mark q tk.comma v)) (put_ahead (put_ahead held)) (word_at e ∷ sign_at e op.In ∷ number_at e ∷ []) (share p x q (some_bind e)) (g, n.0, (z, z, z)) (λ z c i. search (al.low)) (λ n. cut_missing (λ u. (n ∷ (n ∷ u))) (put_ahead (put_ahead held)) (λ u. (n ∷ (n ∷ (n ∷ u)))) (word_at e ∷ sign_at e op.In ∷ number_at e ∷ []) (λ u. refl) (λ u. omega arith) (inr (n, λ u. refl, omega arith))) (λ v. refl) (rw (sym d, n.1) refl)))
      (λ y us j l. (let w = word_ok e (tail ts) y us j in
      broken l
      (λ j. (let m = h.binds e y.0 y.1 w.0 us u j in inside (λ v. word p x (mark q tk.comma v)) (put_ahead (put_ahead held)) [] m (share p x q m.whole) (g, n.0, m.good) (λ z c i. search (al.low, m.fits)) (λ k n. cut_inside (λ u. (n ∷ (n ∷ u))) (put_ahead (put_ahead held)) (λ u. u) [] (λ u. refl) (λ u. omega arith) (inl (refl, λ u. refl)) (omega arith) m.fix (k n)) (λ v. refl) (rw (w.1, n.1) refl)))
      (λ bs vs j l. gives_err (share p x q bs) vs u l)))
  binds_mended e p x g q k ts u i o = no_binds lim most base al.low e p x g ts u (left_is {A = Binds} {ts = ts} {u = u} o)

  fields_mended : (e : ℕ) (m : Mark) (f : Field) → Right e f.place → (p : Place) → Right e p → (a : Phrase) → Good e a → Small lim most (counts base) a → (q : Place) (k : TokenView) (ts : List Token) (u : Stop) → next e ts ≡ token q k → fields_by r e m f p a q k ts ≡ Err u → Mend lim (need_fields nd e m k ts) (Small lim most (counts_fields base)) (Few counts_fields 3) (GoodFields e) (spell_fields m) (field_token f (mark p m (spell a ts))) u.1
  fields_mended e m f gf p gp a g fa q (tk.mark tk.comma) ts u i o =
      let n = seen e ts q (tk.mark tk.comma) i refl in
      let z = right_after e in
      refused_part o
      (λ j. (let d = field_err e (tail ts) u j in missing (λ v. field_token f (mark p m (spell a (mark q tk.comma v)))) (put_ahead (put_ahead (then_ahead (ahead a) (put_ahead held)))) (word_at e ∷ mark_at e m ∷ number_at e ∷ []) (field f p a q (last_field (some_field e) (after e) (some e))) (gf, gp, g, n.0, (z, z, z)) (λ z c i. search (al.low)) (λ n. cut_missing (λ u. (n ∷ (n ∷ (counts n a (n ∷ u))))) (put_ahead (put_ahead (then_ahead (cnt.ahead_counts n a) (put_ahead held)))) (λ u. (n ∷ (n ∷ (n ∷ u)))) (word_at e ∷ mark_at e m ∷ number_at e ∷ []) (λ u. refl) (λ u. omega arith) (inr (n, λ u. refl, omega arith))) (λ v. refl) (rw (sym d, n.1) refl)))
      (λ x us j l. (let w = field_ok e (tail ts) x us j in
      broken l
      (λ j. (let y = h.fields e m x w.0 us u j in inside (λ v. field_token f (mark p m (spell a (mark q tk.comma v)))) (put_ahead (put_ahead (then_ahead (ahead a) (put_ahead held)))) [] y (field f p a q y.whole) (gf, gp, g, n.0, y.good) (λ z c i. search (al.low, y.fits)) (λ k n. cut_inside (λ u. (n ∷ (n ∷ (counts n a (n ∷ u))))) (put_ahead (put_ahead (then_ahead (cnt.ahead_counts n a) (put_ahead held)))) (λ u. u) [] (λ u. refl) (λ u. omega arith) (inl (refl, λ u. refl)) (omega arith) y.fix (k n)) (λ v. refl) (rw (w.1, n.1) refl)))
      (λ fs vs j l. gives_err (field f p a q fs) vs u l)))
  fields_mended e m f gf p gp a g fa q k ts u i o = gives_err (last_field f p a) ts u o

  settings_mended : (e : ℕ) (p : Place) → Right e p → (path : Path) → is_some_path path ≡ true → GoodPath e path → Small lim most (counts_path base) path → (q : Place) → Right e q → (a : Phrase) → Good e a → Small lim most (counts base) a → (j : Place) (k : TokenView) (ts : List Token) (u : Stop) → next e ts ≡ token j k → settings_by r e p path q a j k ts ≡ Err u → Mend lim (need_settings nd e k ts) (Small lim most (counts_settings base)) (Few counts_settings 5) (GoodSettings e) spell_settings (mark p tk.bang (spell_path path (sign q op.Equal (spell a ts)))) u.1
  settings_mended e p gp path so gpath fp q gq a g fa j (tk.mark tk.comma) ts u i o =
      let n = seen e ts j (tk.mark tk.comma) i refl in
      broken o
      (λ l. (let m = h.settings e (tail ts) u l in inside (λ v. mark p tk.bang (spell_path path (sign q op.Equal (spell a (mark j tk.comma v))))) (put_ahead (then_ahead (ahead_path path) (put_ahead (then_ahead (ahead a) (put_ahead held))))) [] m (setting p path q a j m.whole) (gp, so, gpath, gq, g, n.0, m.good) (λ z c i. search (al.low, m.fits)) (λ k n. cut_inside (λ u. (n ∷ (counts_path n path (n ∷ (counts n a (n ∷ u)))))) (put_ahead (then_ahead (cnt.ahead_path n path) (put_ahead (then_ahead (cnt.ahead_counts n a) (put_ahead held))))) (λ u. u) [] (λ u. refl) (λ u. omega arith) (inl (refl, λ u. refl)) (omega arith) m.fix (k n)) (λ v. refl) (rw n.1 refl)))
      (λ ss us l o. gives_err (setting p path q a j ss) us u o)
  settings_mended e p gp path so gpath fp q gq a g fa j k ts u i o = gives_err (last_setting p path q a) ts u o

  setting_mended : (e : ℕ) (p : Place) → Right e p → (path : Path) → GoodPath e path → Small lim most (counts_path base) path → (ts : List Token) (u : Stop) → setting_if (is_some_path path) r e p path ts ≡ Err u → Mend lim (need_setting (is_some_path path) r nd e ts) (Small lim most (counts_settings base)) (Few counts_settings 5) (GoodSettings e) spell_settings (mark p tk.bang (spell_path path ts)) u.1
  setting_mended e p gp path gpath fp ts u o = by path gpath fp (is_some_path path) refl o
    where
      z : Right e (after e)
      z = right_after e

      by : (path : Path) → GoodPath e path → Small lim most (counts_path base) path → (b : Bool) → is_some_path path ≡ b → setting_if b r e p path ts ≡ Err u → Mend lim (need_setting b r nd e ts) (Small lim most (counts_settings base)) (Few counts_settings 5) (GoodSettings e) spell_settings (mark p tk.bang (spell_path path ts)) u.1
      by path gpath fp true so o =
          refused_part o
          (λ j. (let d = sign_err e op.Equal ts u j in missing (λ v. mark p tk.bang (spell_path path v)) (put_ahead (ahead_path path)) (sign_at e op.Equal ∷ number_at e ∷ []) (last_setting p path (after e) (some e)) (gp, so, gpath, z, z) (λ z c i. search (al.low)) (λ n. cut_missing (λ u. (n ∷ (counts_path n path u))) (put_ahead (then_ahead (cnt.ahead_path n path) (held))) (λ u. (n ∷ (n ∷ u))) (sign_at e op.Equal ∷ number_at e ∷ []) (λ u. refl) (λ u. omega arith) (inr (n, λ u. refl, omega arith))) (λ v. refl) (rw d refl)))
          (λ q us j l. (let m = sign_ok e op.Equal ts q us j in
          refused_part l
          (λ j. (let y = h.expr e free refl us u j in inside (λ v. mark p tk.bang (spell_path path (sign q op.Equal v))) (put_ahead (then_ahead (ahead_path path) (put_ahead held))) [] y (last_setting p path q y.whole) (gp, so, gpath, m.0, y.good.0) (λ z c i. search (al.low, y.fits)) (λ k n. cut_inside (λ u. (n ∷ (counts_path n path (n ∷ u)))) (put_ahead (then_ahead (cnt.ahead_path n path) (put_ahead held))) (λ u. u) [] (λ u. refl) (λ u. omega arith) (inl (refl, λ u. refl)) (omega arith) y.fix (k n)) (λ v. refl) (rw m.1 refl)))
          (λ a vs j l. (let w = s.expr e free refl us a vs j in onto (rw (w.2, m.1) refl) (settings_mended e p gp path so gpath fp q m.0 a w.0 w.3 (next e vs).place (next e vs).kind vs u refl l)))))
      by path_end gpath fp false so o =
          let d = left_is {A = Settings} {ts = ts} {u = u} o in
          missing (λ v. mark p tk.bang v) (put_ahead held) (mark_at e tk.dot ∷ word_at e ∷ sign_at e op.Equal ∷ number_at e ∷ []) (last_setting p (some_path e) (after e) (some e)) (gp, refl, (z, z, tt), z, z) (λ z c i. search (al.low)) (λ n. cut_missing (λ u. (n ∷ u)) (put_ahead held) (λ u. (n ∷ (n ∷ (n ∷ (n ∷ u))))) (mark_at e tk.dot ∷ word_at e ∷ sign_at e op.Equal ∷ number_at e ∷ []) (λ u. refl) (λ u. omega arith) (inr (n, λ u. refl, omega arith))) (λ v. refl) (rw d refl)
      by (index q xs t path) gpath fp false so o = absurd cc
      by (at_field q f path) gpath fp false so o = absurd cc

  path_mended : (e : ℕ) (p : Place) (k : TokenView) (ts : List Token) (u : Stop) → next e ts ≡ token p k → path_by rm r e p k ts ≡ Err u → Mend lim (need_path rm nd e k ts) (Small lim most (counts_path base)) (Few counts_path 2) (SomePath e) spell_path ts u.1
  path_mended e p (tk.mark tk.open_square) ts u i o =
      let n = seen e ts p (tk.mark tk.open_square) i refl in
      opened_err lim most base rm full iv mv 0 (base + 1) refl (λ i d. skip (d.phrases e >>= λ xs. a_mark e tk.close_square >>= λ q. r.path e >>= λ path. gives (index p xs q path))) (λ i d. need_index d nd e) ts u o
      (λ d'. no_path lim most base al.low e ts u d')
      (λ i d ad id hd md o. refused_part o
      (λ j. (let m = hd.phrases e (tail ts) u j in inside (λ v. mark p tk.open_square v) (put_ahead held) (mark_at e tk.close_square ∷ []) m (index p m.whole (after e) path_end) ((n.0, m.good, right_after e, tt), refl) (λ z c i. search (ad.low, m.fits)) (λ k n. cut_inside (λ u. ((n + 1) ∷ u)) (put_ahead held) (λ u. ((n + 1) ∷ u)) (mark_at e tk.close_square ∷ []) (λ u. refl) (λ u. omega arith) (inr ((n + 1), λ u. refl, omega arith)) (omega arith) m.fix (k (n + 1))) (λ v. refl) (sym n.1)))
      (λ xs us j l. (let w = (are_read lim most (base + 1) d full sq ad).phrases e (tail ts) xs us j in
      refused_part l
      (λ j. (let d'' = mark_err e tk.close_square us u j in missing (λ v. mark p tk.open_square (spell_all xs v)) (put_ahead (ahead_all xs)) (mark_at e tk.close_square ∷ []) (index p xs (after e) path_end) ((n.0, w.0, right_after e, tt), refl) (λ z c i. search (ad.low, w.2)) (λ n. cut_missing (λ u. ((n + 1) ∷ (counts_all (n + 1) xs u))) (put_ahead (then_ahead (cnt.ahead_all (n + 1) xs) (held))) (λ u. ((n + 1) ∷ u)) (mark_at e tk.close_square ∷ []) (λ u. refl) (λ u. omega arith) (inr ((n + 1), λ u. refl, omega arith))) (λ v. refl) (rw (sym d'', w.1, n.1) refl)))
      (λ q vs j l. (let y = mark_ok e tk.close_square us q vs j in
      broken l
      (λ j. (let m = h.path e vs u j in inside (λ v. mark p tk.open_square (spell_all xs (mark q tk.close_square v))) (put_ahead (then_ahead (ahead_all xs) (put_ahead held))) [] m (index p xs q m.whole) ((n.0, w.0, y.0, m.good.0), refl) (λ z c i. search (ad.low, w.2, m.fits)) (λ k n. cut_inside (λ u. (n + 1) ∷ counts_all (n + 1) xs ((n + 1) ∷ u)) (put_ahead (then_ahead (cnt.ahead_all (n + 1) xs) (put_ahead held))) (λ u. u) [] (λ u. refl) (λ u. omega arith) (inl (refl, λ u. refl)) (omega arith) m.fix (k n)) (λ v. refl) (rw (y.1, w.1, n.1) refl)))
      (λ path ws j l. gives_err (index p xs q path) ws u l))))))
  path_mended e p (tk.mark tk.dot) ts u i o =
      let n = seen e ts p (tk.mark tk.dot) i refl in
      refused_part o
      (λ j. (let d = field_err e (tail ts) u j in missing (λ v. mark p tk.dot v) (put_ahead held) (word_at e ∷ []) (at_field p (some_field e) path_end) ((n.0, right_after e, tt), refl) (λ z c i. search (al.low)) (λ n. cut_missing (λ u. (n ∷ u)) (put_ahead held) (λ u. (n ∷ u)) (word_at e ∷ []) (λ u. refl) (λ u. omega arith) (inr (n, λ u. refl, omega arith))) (λ v. refl) (rw (sym d, n.1) refl)))
      (λ f us j l. (let w = field_ok e (tail ts) f us j in
      broken l
      (λ j. (let m = h.path e us u j in inside (λ v. mark p tk.dot (field_token f v)) (put_ahead (put_ahead held)) [] m (at_field p f m.whole) ((n.0, w.0, m.good.0), refl) (λ z c i. search (al.low, m.fits)) (λ k n. cut_inside (λ u. (n ∷ (n ∷ u))) (put_ahead (put_ahead held)) (λ u. u) [] (λ u. refl) (λ u. omega arith) (inl (refl, λ u. refl)) (omega arith) m.fix (k n)) (λ v. refl) (rw (w.1, n.1) refl)))
      (λ path vs j l. gives_err (at_field p f path) vs u l)))
  path_mended e p k ts u i o = gives_err path_end ts u o

  arms_more : (e : ℕ) (a : Phrase) → Good e a → Small lim most (counts base) a → (p : Place) → Right e p → (b : Phrase) → Good e b → Small lim most (counts base) b → (q : Place) → not (takes_box q.col b) ≡ true → Right e q → (ts : List Token) (u : Stop) → (r.arms e >>= λ xs. gives (arm a p b q xs)) ts ≡ Err u → Mend lim (nd.arms e ts) (Small lim most (counts_arms base)) (Few counts_arms 3) (GoodArms e) spell_arms (spell a (mark p tk.arrow (spell b (mark q tk.box ts)))) u.1
  arms_more e a ga fa p gp b gb fb q t gq ts u o =
      broken o
      (λ j. (let m = h.arms e ts u j in inside (λ v. spell a (mark p tk.arrow (spell b (mark q tk.box v)))) (then_ahead (ahead a) (put_ahead (then_ahead (ahead b) (put_ahead held)))) [] m (arm a p b q m.whole) (ga, gp, gb, t, gq, m.good) (λ z c i. search (al.low, m.fits)) (λ k n. cut_inside (λ u. (counts n a (n ∷ (counts n b (n ∷ u))))) (then_ahead (cnt.ahead_counts n a) (put_ahead (then_ahead (cnt.ahead_counts n b) (put_ahead held)))) (λ u. u) [] (λ u. refl) (λ u. omega arith) (inl (refl, λ u. refl)) (omega arith) m.fix (k n)) (λ v. refl) refl))
      (λ xs us j l. gives_err (arm a p b q xs) us u l)

  arms_other_mended : (e : ℕ) (a : Phrase) → Good e a → Small lim most (counts base) a → (p : Place) → Right e p → (b : Phrase) → Good e b → Small lim most (counts base) b → (q : Place) → not (takes_box q.col b) ≡ true → Right e q → (j : Place) (k : TokenView) (ts : List Token) (u : Stop) → next e ts ≡ token j k → arms_other r e a p b q j k ts ≡ Err u → Mend lim (need_other r nd e k ts) (Small lim most (counts_arms base)) (Few counts_arms 3) (GoodArms e) spell_arms (spell a (mark p tk.arrow (spell b (mark q tk.box ts)))) u.1
  arms_other_mended e a ga fa p gp b gb fb q t gq j (tk.key tk.other_key) ts u i o =
      let n = seen e ts j (tk.key tk.other_key) i refl in
      let z = right_after e in
      refused_part o
      (λ l. (let d = mark_err e tk.arrow (tail ts) u l in missing (λ v. spell a (mark p tk.arrow (spell b (mark q tk.box (key j tk.other_key v))))) (then_ahead (ahead a) (put_ahead (then_ahead (ahead b) (put_ahead (put_ahead held))))) (mark_at e tk.arrow ∷ number_at e ∷ []) (other_arm a p b q j (after e) (some e)) (ga, gp, gb, t, gq, n.0, z, z) (λ z c i. search (al.low) depth 12) (λ n. cut_missing (λ u. (counts n a (n ∷ (counts n b (n ∷ (n ∷ u)))))) (then_ahead (cnt.ahead_counts n a) (put_ahead (then_ahead (cnt.ahead_counts n b) (put_ahead (put_ahead held))))) (λ u. (n ∷ (n ∷ u))) (mark_at e tk.arrow ∷ number_at e ∷ []) (λ u. refl) (λ u. omega arith) (inr (n, λ u. refl, omega arith))) (λ v. refl) (rw (sym d, n.1) refl)))
      (λ v us l o. (let m = mark_ok e tk.arrow (tail ts) v us l in
      broken o
      (λ l. (let y = h.expr e free refl us u l in inside (λ w. spell a (mark p tk.arrow (spell b (mark q tk.box (key j tk.other_key (mark v tk.arrow w)))))) (then_ahead (ahead a) (put_ahead (then_ahead (ahead b) (put_ahead (put_ahead (put_ahead held)))))) [] y (other_arm a p b q j v y.whole) (ga, gp, gb, t, gq, n.0, m.0, y.good.0) (λ z c i. search (al.low, y.fits) depth 12) (λ k n. cut_inside (λ u. (counts n a (n ∷ (counts n b (n ∷ (n ∷ (n ∷ u))))))) (then_ahead (cnt.ahead_counts n a) (put_ahead (then_ahead (cnt.ahead_counts n b) (put_ahead (put_ahead (put_ahead held)))))) (λ u. u) [] (λ u. refl) (λ u. omega arith) (inl (refl, λ u. refl)) (omega arith) y.fix (k n)) (λ w. refl) (rw (m.1, n.1) refl)))
      (λ c vs l o. gives_err (other_arm a p b q j v c) vs u o)))
  arms_other_mended e a ga fa p gp b gb fb q t gq j k ts u i o = arms_more e a ga fa p gp b gb fb q t gq ts u o

  arms_mended : (e : ℕ) (a : Phrase) → Good e a → Small lim most (counts base) a → (p : Place) → Right e p → (b : Phrase) → Good e b → Small lim most (counts base) b → (q : Place) (k : TokenView) (ts : List Token) (u : Stop) → next e ts ≡ token q k → arms_by r e a p b q k ts ≡ Err u → Mend lim (need_arm r nd e b q k ts) (Small lim most (counts_arms base)) (Few counts_arms 3) (GoodArms e) spell_arms (spell a (mark p tk.arrow (spell b ts))) u.1
  arms_mended e a ga fa p gp b gb fb q (tk.mark tk.box) ts u i o = by (takes_box q.col b) refl o
    where
      by : (m : Bool) → takes_box q.col b ≡ m → arms_if m r e a p b q ts ≡ Err u → Mend lim (need_arms m r nd e ts) (Small lim most (counts_arms base)) (Few counts_arms 3) (GoodArms e) spell_arms (spell a (mark p tk.arrow (spell b ts))) u.1
      by true m o = gives_err (last_arm a p b) ts u o
      by false m o =
          let n = seen e ts q (tk.mark tk.box) i refl in
          onto (rw n.1 refl) (arms_other_mended e a ga fa p gp b gb fb q (ap not m) n.0 (next e (tail ts)).place (next e (tail ts)).kind (tail ts) u refl o)
  arms_mended e a ga fa p gp b gb fb q k ts u i o = gives_err (last_arm a p b) ts u o

  locals_mended : (e : ℕ) (p : Place) (x : Word) → Right e p → (q : Place) → Right e q → (a : Phrase) → Good e a → Small lim most (counts base) a → (j : Place) (k : TokenView) (ts : List Token) (u : Stop) → locals_by r e p x q a j k ts ≡ Err u → Mend lim (need_locals nd e k ts) (Small lim most (counts_locals base)) (Few counts_locals 3) (GoodLocals e) spell_locals (word p x (mark q tk.defines (spell a ts))) u.1
  locals_mended e p x gp q gq a g fa j (tk.word y) ts u o =
      broken o
      (λ l. (let m = h.locals e ts u l in inside (λ v. word p x (mark q tk.defines (spell a v))) (put_ahead (put_ahead (ahead a))) [] m (more_locals p x q a m.whole) (gp, gq, g, m.good) (λ z c i. search (al.low, m.fits)) (λ k n. cut_inside (λ u. (n ∷ (n ∷ (counts n a u)))) (put_ahead (put_ahead (then_ahead (cnt.ahead_counts n a) (held)))) (λ u. u) [] (λ u. refl) (λ u. omega arith) (inl (refl, λ u. refl)) (omega arith) m.fix (k n)) (λ v. refl) refl))
      (λ ls us l o. gives_err (more_locals p x q a ls) us u o)
  locals_mended e p x gp q gq a g fa j k ts u o = gives_err (last_local p x q a) ts u o

  -- ---- one step more
  expr_step : (e : ℕ) (c : Context) → is_behind_in c ≡ false → (ts : List Token) (u : Stop) → (one_step rm r).expr e c ts ≡ Err u → Mend lim ((step_needs rm r nd).expr e c ts) (Small lim most (counts base)) (Few counts 1) (Fits c e) spell ts u.1
  expr_step e c n ts u o =
      refused_part o
      (λ j. better (λ a g. (g.0, g.1)) (λ a f. f) (λ a fix g k. k) (operand_mended lim most base rm r full sq al iv h mv e c (next e ts).place (next e ts).kind ts u refl j))
      (λ a us j l. (let w = operand_read lim most base rm r full sq al iv e c (next e ts).place (next e ts).kind ts a us refl j in onto w.2 (h.climb e c n a w.0 w.1 w.3 us u l)))

  set_step : (e : ℕ) (p : Place) (x : Word) (q : Place) (ts : List Token) (u : Stop) → (one_step rm r).expr e (behind p x q) ts ≡ Err u → Mend lim ((step_needs rm r nd).expr e (behind p x q) ts) (Alive true lim most base p x q) (FewBoth p x q) (Good e) spell ts u.1
  set_step e p x q ts u o =
      refused_part o
      (λ j. better (λ a g. g.0) (λ a f. inl f) (λ a fix g k. plain_few p x q a g.2 fix k) (operand_mended lim most base rm r full sq al iv h mv e (behind p x q) (next e ts).place (next e ts).kind ts u refl j))
      (λ a us j l. (let w = operand_read lim most base rm r full sq al iv e (behind p x q) (next e ts).place (next e ts).kind ts a us refl j in onto w.2 (h.climb_set e p x q a w.0 (inl w.3) us u l)))

  phrases_step : (e : ℕ) (ts : List Token) (u : Stop) → (one_step rm r).phrases e ts ≡ Err u → Mend lim ((step_needs rm r nd).phrases e ts) (Small lim most (counts_all base)) (Few counts_all 1) (GoodAll e) spell_all ts u.1
  phrases_step e ts u o =
      refused_part o
      (λ j. (let m = h.expr e free refl ts u j in inside (λ v. v) held [] m (last m.whole) m.good.0 (λ z c i. search (m.fits)) (λ k n. cut_inside (λ u. u) (held) (λ u. u) [] (λ u. refl) (λ u. omega arith) (inl (refl, λ u. refl)) (omega arith) m.fix (k n)) (λ v. refl) refl))
      (λ a us j l. (let w = s.expr e free refl ts a us j in onto w.2 (phrases_mended e a w.0 w.3 (next e us).place (next e us).kind us u refl l)))

  fields_step : (e : ℕ) (m : Mark) (f : Field) → Right e f.place → (ts : List Token) (u : Stop) → (one_step rm r).fields e m f ts ≡ Err u → Mend lim ((step_needs rm r nd).fields e m f ts) (Small lim most (counts_fields base)) (Few counts_fields 3) (GoodFields e) (spell_fields m) (field_token f ts) u.1
  fields_step e m f g ts u o =
      refused_part o
      (λ j. no_fields lim most base al.low e m f g ts u (mark_err e m ts u j))
      (λ p us j l. (let n = mark_ok e m ts p us j in
      refused_part l
      (λ j. (let y = h.expr e free refl us u j in inside (λ v. field_token f (mark p m v)) (put_ahead (put_ahead held)) [] y (last_field f p y.whole) (g, n.0, y.good.0) (λ z c i. search (al.low, y.fits)) (λ k n. cut_inside (λ u. (n ∷ (n ∷ u))) (put_ahead (put_ahead held)) (λ u. u) [] (λ u. refl) (λ u. omega arith) (inl (refl, λ u. refl)) (omega arith) y.fix (k n)) (λ v. refl) (rw n.1 refl)))
      (λ a vs j l. (let w = s.expr e free refl us a vs j in onto (rw (w.2, n.1) refl) (fields_mended e m f g p n.0 a w.0 w.3 (next e vs).place (next e vs).kind vs u refl l)))))

  settings_step : (e : ℕ) (ts : List Token) (u : Stop) → (one_step rm r).settings e ts ≡ Err u → Mend lim ((step_needs rm r nd).settings e ts) (Small lim most (counts_settings base)) (Few counts_settings 5) (GoodSettings e) spell_settings ts u.1
  settings_step e ts u o =
      let z = right_after e in
      refused_part o
      (λ j. no_settings lim most base al.low e ts u (mark_err e tk.bang ts u j))
      (λ p us j l. (let n = mark_ok e tk.bang ts p us j in
      refused_part l
      (λ j. (let y = h.path e us u j in inside (λ v. mark p tk.bang v) (put_ahead held) (sign_at e op.Equal ∷ number_at e ∷ []) y (last_setting p y.whole (after e) (some e)) (n.0, y.good.1, y.good.0, z, z) (λ z c i. search (al.low, y.fits)) (λ k n. cut_inside (λ u. (n ∷ u)) (put_ahead held) (λ u. (n ∷ (n ∷ u))) (sign_at e op.Equal ∷ number_at e ∷ []) (λ u. refl) (λ u. omega arith) (inr (n, λ u. refl, omega arith)) (omega arith) y.fix (k n)) (λ v. refl) (sym n.1)))
      (λ path vs j l. (let w = s.path e us path vs j in onto (rw (w.1, n.1) refl) (setting_mended e p n.0 path w.0 w.2 vs u l)))))

  bullets_step : (e : ℕ) (o : Op) (c : ℕ) → is_bullet o ≡ true → nat_lt e c ≡ true → (ts : List Token) (p : Place) → bullet_of o c (next e ts).place (next e ts).kind ≡ Some p → (u : Stop) → (one_step rm r).bullets e o c ts ≡ Err u → ((lim ≡ true) × (ts ≡ u.1)) ⊎ Mend lim ((step_needs rm r nd).bullets e o c ts) (Small lim most (counts_bullets base)) (Few counts_bullets 1) (Listed e c) (spell_bullets o) ts u.1
  bullets_step e o c ob gc ts p at u i =
      opened_by (λ (ws : Wants). ((lim ≡ true) × (ts ≡ u.1)) ⊎ Mend lim ws (Small lim most (counts_bullets base)) (Few counts_bullets 1) (Listed e c) (spell_bullets o) ts u.1) lim most base rm full iv mv 0 (base + 1) refl (λ i d. take e (bullet_of o c) >>= λ p. d.expr c free >>= λ a. peek e (λ q k. bullets_if (is_sign o k && nat_eq c q.col) d e o c p a)) (λ i d. need_items d nd e o c) ts u i
      (λ l d. inl (l, d))
      (λ i' d ad id hd md i. refused_by {ws = []} (λ (ws : Wants). ((lim ≡ true) × (ts ≡ u.1)) ⊎ Mend lim ws (Small lim most (counts_bullets base)) (Few counts_bullets 1) (Listed e c) (spell_bullets o) ts u.1) i
      (λ j. no_take e (bullet_of o c) ts p u at j)
      (λ p us j l. inr (let n = bullet_sound full sq e o c ts p us j in
      refused_part l
      (λ j. (let y = hd.expr c free refl us u j in inside (λ v. sign p o v) (put_ahead held) [] y (last_bullet p y.whole) ((n.1, y.good.0), n.0) (λ z c i. search (ad.low, y.fits)) (λ k n. cut_inside (λ u. ((n + 1) ∷ u)) (put_ahead held) (λ u. u) [] (λ u. refl) (λ u. omega arith) (inl (refl, λ u. refl)) (omega arith) y.fix (k (n + 1))) (λ v. refl) (rw (bullet_sign o ob) (sym n.2))))
      (λ a vs j l. (let w = (are_read lim most (base + 1) d full sq ad).expr c free refl us a vs j in
      onto (rw (w.2, bullet_sign o ob) n.2) (bullets_mended lim most base d ad hd e o c ob gc p n.0 n.1 a w.0 w.3 (is_sign o (next e vs).kind && nat_eq c (next e vs).place.col) vs refl u l))))))

  arms_step : (e : ℕ) (ts : List Token) (u : Stop) → (one_step rm r).arms e ts ≡ Err u → Mend lim ((step_needs rm r nd).arms e ts) (Small lim most (counts_arms base)) (Few counts_arms 3) (GoodArms e) spell_arms ts u.1
  arms_step e ts u o =
      let z = right_after e in
      refused_part o
      (λ j. (let y = h.expr e free refl ts u j in inside (λ v. v) held (mark_at e tk.arrow ∷ number_at e ∷ []) y (last_arm y.whole (after e) (some e)) (y.good.0, z, z) (λ z c i. search (al.low, y.fits)) (λ k n. cut_inside (λ u. u) (held) (λ u. (n ∷ (n ∷ u))) (mark_at e tk.arrow ∷ number_at e ∷ []) (λ u. refl) (λ u. omega arith) (inr (n, λ u. refl, omega arith)) (omega arith) y.fix (k n)) (λ v. refl) refl))
      (λ a us j l. (let w = s.expr e free refl ts a us j in
      refused_part l
      (λ j. (let d = mark_err e tk.arrow us u j in missing (λ v. spell a v) (ahead a) (mark_at e tk.arrow ∷ number_at e ∷ []) (last_arm a (after e) (some e)) (w.0, z, z) (λ z c i. search (al.low, w.3)) (λ n. cut_missing (λ u. (counts n a u)) (then_ahead (cnt.ahead_counts n a) (held)) (λ u. (n ∷ (n ∷ u))) (mark_at e tk.arrow ∷ number_at e ∷ []) (λ u. refl) (λ u. omega arith) (inr (n, λ u. refl, omega arith))) (λ v. refl) (rw (sym d, w.2) refl)))
      (λ p vs j l. (let n = mark_ok e tk.arrow us p vs j in
      refused_part l
      (λ j. (let y = h.expr e free refl vs u j in inside (λ v. spell a (mark p tk.arrow v)) (then_ahead (ahead a) (put_ahead held)) [] y (last_arm a p y.whole) (w.0, n.0, y.good.0) (λ z c i. search (al.low, y.fits, w.3)) (λ k n. cut_inside (λ u. (counts n a (n ∷ u))) (then_ahead (cnt.ahead_counts n a) (put_ahead held)) (λ u. u) [] (λ u. refl) (λ u. omega arith) (inl (refl, λ u. refl)) (omega arith) y.fix (k n)) (λ v. refl) (rw (n.1, w.2) refl)))
      (λ b ws j l. (let y = s.expr e free refl vs b ws j in onto (rw (y.2, n.1, w.2) refl) (arms_mended e a w.0 w.3 p n.0 b y.0 y.3 (next e ws).place (next e ws).kind ws u refl l)))))))

  locals_step : (e : ℕ) (ts : List Token) (u : Stop) → (one_step rm r).locals e ts ≡ Err u → Mend lim ((step_needs rm r nd).locals e ts) (Small lim most (counts_locals base)) (Few counts_locals 3) (GoodLocals e) spell_locals ts u.1
  locals_step e ts u o =
      let z = right_after e in
      refused_part o
      (λ j. no_locals lim most base al.low e ts u (word_err e ts u j))
      (λ x us j l. (let w = word_ok e ts x us j in
      refused_part l
      (λ j. (let d = mark_err e tk.defines us u j in missing (λ v. word x.0 x.1 v) (put_ahead held) (mark_at e tk.defines ∷ number_at e ∷ []) (last_local x.0 x.1 (after e) (some e)) (w.0, z, z) (λ z c i. search (al.low)) (λ n. cut_missing (λ u. (n ∷ u)) (put_ahead held) (λ u. (n ∷ (n ∷ u))) (mark_at e tk.defines ∷ number_at e ∷ []) (λ u. refl) (λ u. omega arith) (inr (n, λ u. refl, omega arith))) (λ v. refl) (rw (sym d, w.1) refl)))
      (λ q vs j l. (let n = mark_ok e tk.defines us q vs j in
      refused_part l
      (λ j. (let y = h.expr e free refl vs u j in inside (λ v. word x.0 x.1 (mark q tk.defines v)) (put_ahead (put_ahead held)) [] y (last_local x.0 x.1 q y.whole) (w.0, n.0, y.good.0) (λ z c i. search (al.low, y.fits)) (λ k n. cut_inside (λ u. (n ∷ (n ∷ u))) (put_ahead (put_ahead held)) (λ u. u) [] (λ u. refl) (λ u. omega arith) (inl (refl, λ u. refl)) (omega arith) y.fix (k n)) (λ v. refl) (rw (n.1, w.1) refl)))
      (λ a ws j l. (let y = s.expr e free refl vs a ws j in onto (rw (y.2, n.1, w.1) refl) (locals_mended e x.0 x.1 w.0 q n.0 a y.0 y.3 (next e ws).place (next e ws).kind ws u l)))))))

  step_mended : Mends lim most base (one_step rm r) (step_needs rm r nd)
  step_mended = record {
    expr = expr_step;
    set = set_step;
    short = λ e ts u o. short_mended lim most base rm r full sq al iv h mv e (next e ts).place (next e ts).kind ts u refl o;
    postfix = λ e b g f z ts u o. postfix_mended lim most base rm r full sq al iv h mv e b g f z (next e ts).place (next e ts).kind ts u refl o;
    climb = λ e c n b g f z ts u o. climb_mended lim most base rm r full sq al iv h mv e c n b g f z (next e ts).place (next e ts).kind ts u refl o;
    climb_set = λ e p x q b g f ts u o. set_climb_mended lim most base rm r full sq al iv h mv e p x q b g f (next e ts).place (next e ts).kind ts u refl o;
    phrases = phrases_step;
    binds = λ e p x g ts u o. binds_mended e p x g (next e ts).place (next e ts).kind ts u refl o;
    fields = fields_step;
    settings = settings_step;
    path = λ e ts u o. path_mended e (next e ts).place (next e ts).kind ts u refl o;
    bullets = bullets_step;
    arms = arms_step;
    locals = locals_step;
  }

no_bullets : (lim : Bool) (most base : ℕ) (e : ℕ) (o : Op) (c : ℕ) → is_bullet o ≡ true → nat_lt e c ≡ true → (ts : List Token) (u : Stop) → ts ≡ u.1 → ((lim ≡ true) × (ts ≡ u.1)) ⊎ Mend lim ((bullet_at c o ∷ number_at c ∷ []) ∷ []) (Small lim most (counts_bullets base)) (Few counts_bullets 1) (Listed e c) (spell_bullets o) ts u.1
no_bullets true most base e o c ob gc ts u d = inl (refl, d)
no_bullets false most base e o c ob gc ts u d =
    inr (missing (λ v. v) held (bullet_at c o ∷ number_at c ∷ []) (last_bullet (bullet_at c o).place (some c)) ((refl, right_after c), gc) (λ z. absurd cc) (λ n. cut_missing (λ u. u) (held) (λ u. ((n + 1) ∷ ((n + 1) ∷ u))) (bullet_at c o ∷ number_at c ∷ []) (λ u. refl) (λ u. omega arith) (inr ((n + 1), λ u. refl, omega arith))) (λ v. rw (bullet_sign o ob) refl) d)

-- without steps nothing is read
no_steps_mended : (lim : Bool) (most base : ℕ) → (lim ≡ true → base ≤ most) → Mends lim most base no_steps first_needs
no_steps_mended lim most base low = record {
  expr = λ e c n ts u o. nothing lim most base low e ts u (right_after e, prime_fits c (some e) refl) (left_is {A = Phrase} {ts = ts} {u = u} o);
  set = λ e p x q ts u o. better (λ a g. g.0) (λ a f. inl f) (λ a fix g k. plain_few p x q a g.1 fix k) (nothing {R = λ a. Good e a × (is_infix a ≡ false)} lim most base low e ts u (right_after e, refl) (left_is {A = Phrase} {ts = ts} {u = u} o));
  short = λ e ts u o. nothing lim most base low e ts u (right_after e, refl) (left_is {A = Phrase} {ts = ts} {u = u} o);
  postfix = λ e b g f z ts u o. missing (λ v. spell b v) (ahead b) [] b (g, f) z (λ n. cut_missing (λ u. (counts n b u)) (then_ahead (cnt.ahead_counts n b) (held)) (λ u. u) [] (λ u. refl) (λ u. omega arith) (inl (refl, λ u. refl))) (λ v. refl) (ap (spell b) (left_is {A = Phrase} {ts = ts} {u = u} o));
  climb = λ e c n b g f z ts u o. missing (λ v. spell b v) (ahead b) [] b (g, f) z (λ n. cut_missing (λ u. (counts n b u)) (then_ahead (cnt.ahead_counts n b) (held)) (λ u. u) [] (λ u. refl) (λ u. omega arith) (inl (refl, λ u. refl))) (λ v. refl) (ap (spell b) (left_is {A = Phrase} {ts = ts} {u = u} o));
  climb_set = λ e p x q b g z ts u o. missing (λ v. spell b v) (ahead b) [] b g z (uncut b, λ c i. uncut c) (λ v. refl) (ap (spell b) (left_is {A = Phrase} {ts = ts} {u = u} o));
  phrases = λ e ts u o. no_phrases lim most base low e ts u (left_is {A = Phrases} {ts = ts} {u = u} o);
  binds = λ e p x g ts u o. no_binds lim most base low e p x g ts u (left_is {A = Binds} {ts = ts} {u = u} o);
  fields = λ e m f g ts u o. no_fields lim most base low e m f g ts u (left_is {A = Fields} {ts = ts} {u = u} o);
  settings = λ e ts u o. no_settings lim most base low e ts u (left_is {A = Settings} {ts = ts} {u = u} o);
  path = λ e ts u o. no_path lim most base low e ts u (left_is {A = Path} {ts = ts} {u = u} o);
  bullets = λ e o c ob gc ts p at u i. no_bullets lim most base e o c ob gc ts u (left_is {A = Bullets} {ts = ts} {u = u} i);
  arms = λ e ts u o. no_arms lim most base low e ts u (left_is {A = Arms} {ts = ts} {u = u} o);
  locals = λ e ts u o. no_locals lim most base low e ts u (left_is {A = Locals} {ts = ts} {u = u} o);
}

-- without a limit
mends_any : (most base : ℕ) (r : Readers) (nd : Needs) → ((c : ℕ) → Mends false most c r nd) → MendsRoom false most base (any r) nd
mends_any most base r nd h = record { at = λ j c e. h c; linked = refl }

pub mended : (most n base : ℕ) → Mends false most base (readers n None) (needs n)
unfolding readers_in needs
mended most zero base = no_steps_mended false most base (λ e. absurd cc)
mended most (suc n) base = step_mended false most base (any (readers n None)) (readers n None) (readers n None) (sound n) (unlimited true most n base) (any_room true most base (readers n None) (unlimited true most n)) (mended most n base) (mends_any most base (readers n None) (needs n) (mended most n))

-- within a limit, whatever is wanted
mends_room : (most n base b : ℕ) → base + b ≡ most → ((c b : ℕ) → c + b ≡ most → Mends true most c (readers n (Some b)) first_needs) → MendsRoom true most base (room true (readers n) (Some b)) first_needs
mends_room most n base b e h = record { at = λ j c w. by j c w (nat_le j b) refl; linked = refl }
  where
    by : (j c : ℕ) → c ≡ base + j → (f : Bool) → nat_le j b ≡ f → ReadersMend true most c first_needs (option_map (readers n) (less f b j))
    by j c w true f = (let i = leb-true j b f in h c (b - j) (omega (arith, e, w, i)))
    by j c w false f = refl

pub mended_within : (most n base b : ℕ) → base + b ≡ most → Mends true most base (readers n (Some b)) first_needs
unfolding readers_in
mended_within most zero base b e = no_steps_mended true most base (λ i. omega (arith, e))
mended_within most (suc n) base b e = any_needs most base _ _ first_needs (step_mended true most base (room true (readers n) (Some b)) (readers n (Some b)) (readers n None) (sound n) (limited true most n base b e) (limited_room true most n base b e (limited true most n)) (mended_within most n base b e) (mends_room most n base b e (mended_within most n)))

-- ---- for each form that is open at the first of the tokens that complete, 16 are enough
heads_at : (pre back : List ℕ) (n : ℕ) → Heads n back → get_or (pre ++ back) (length pre) 0 ≡ n
heads_at [] [] n h = absurd h
heads_at [] (x ∷ back) n h = sym h
heads_at (y ∷ pre) back n h = heads_at pre back n h

pub few_for_open : (a : Phrase) (passed fix : List Token) → spell a [] ≡ passed ++ fix → Cut (counts 0 a) 0 1 fix → length fix ≤ 16 * get_or (counts 0 a []) (length passed) 0 + 1
few_for_open a passed fix s k = by k.enough
  where
    is_counts : counts 0 a [] ≡ k.front [] ++ k.back []
    is_counts = k.splits [] ∙ k.is_front.is [] (k.back [])

    as_long : length (k.front []) ≡ length passed
    as_long =
        let m = sym (ap length is_counts) ∙ as_many_counts 0 a ∙ ap length s in
        let i = length-append (k.front []) (k.back []) in
        let j = length-append passed fix in
        let l = k.long [] in
        omega (arith, m, i, j, l)

    by : ((fix ≡ []) × ((u : List ℕ) → k.back u ≡ u)) ⊎ ((m : ℕ) × ((u : List ℕ) → Heads m (k.back u)) × (length fix + 16 * 0 ≤ 16 * m + 1)) → length fix ≤ 16 * get_or (counts 0 a []) (length passed) 0 + 1
    by (inl e) = rw e.0 (omega arith)
    by (inr (m, h, less)) =
        let at : get_or (counts 0 a []) (length passed) 0 ≡ m = ap (λ (i : ℕ). get_or (counts 0 a []) i 0) (sym as_long) ∙ ap (λ (xs : List ℕ). get_or xs (length (k.front [])) 0) is_counts ∙ heads_at (k.front []) (k.back []) m (h []) in
        omega (arith, at, less)

-- the tokens before a refused one, and those that are wanted there
pub refused_is_given : (e : ℕ) (ts : List Token) (s : Stop) → read e ts ≡ Err s → (passed : List Token) × (a : Phrase) × (ts ≡ passed ++ s.1) × Good e a × (spell a [] ≡ passed ++ completing ((needs (4 * length ts)).expr e free ts)) × (length (completing ((needs (4 * length ts)).expr e free ts)) ≤ 16 * get_or (counts 0 a []) (length passed) 0 + 1)
refused_is_given e ts s o =
    let m = (mended 0 (4 * length ts) 0).expr e free refl ts s o in
    let t = m.tokens [] ∙ ap (λ (vs : List Token). m.read ++ vs) (append-nil m.fix) in
    let g = m.given refl in
    (m.read, m.whole, m.parts, m.good.0, t ∙ ap (λ (vs : List Token). m.read ++ vs) g, subst (λ (vs : List Token). length vs ≤ 16 * get_or (counts 0 m.whole []) (length m.read) 0 + 1) g (few_for_open m.whole m.read m.fix t (m.few 0)))

pub refused_is_mended : (e : ℕ) (ts : List Token) (s : Stop) → read e ts ≡ Err s → (passed fix : List Token) × (a : Phrase) × (ts ≡ passed ++ s.1) × Good e a × (spell a [] ≡ passed ++ fix) × (length fix ≤ 16 * get_or (counts 0 a []) (length passed) 0 + 1)
refused_is_mended e ts s o = (let m = refused_is_given e ts s o in (m.0, completing ((needs (4 * length ts)).expr e free ts), m.1, m.2, m.3, m.4, m.5))

-- and within the limit a whole that fits
pub refused_fits : (ts : List Token) (s : Stop) → read_limited ts ≡ Err s → (passed fix : List Token) × (a : Phrase) × (ts ≡ passed ++ s.1) × Good 0 a × (spell a [] ≡ passed ++ fix) × Fit deepest_expression (counts 0 a []) × (length fix ≤ 16 * get_or (counts 0 a []) (length passed) 0 + 1)
refused_fits ts s o =
    let m = (mended_within deepest_expression (4 * length ts) 0 deepest_expression (omega arith)).expr 0 free refl ts s o in
    let t = m.tokens [] ∙ ap (λ (vs : List Token). m.read ++ vs) (append-nil m.fix) in
    (m.read, m.fix, m.whole, m.parts, m.good.0, t, m.fits refl [] tt, few_for_open m.whole m.read m.fix t (m.few 0))
