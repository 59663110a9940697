-- Reading within a limit behind `x \\in`: a set for x and an element side by side.
use Rattle.std.proofs.Common.{◌≡◌, ◌⊎◌, ℕ, suc, ◌+◌, ◌<◌, ◌≤◌, min, Bool, true, false, ◌||◌, ◌&&◌, not, if◌then◌else◌, List, ◌∷◌, length, Option, Some, None, Ok, Err, inl, inr, refl, sym, ap, ◌∙◌, subst, arith}
use Rattle.std.proofs.lemmas.Bool.{cases_order}
use Rattle.std.proofs.Math.Nat.{min-eq_left, min-eq_right}
use Rattle.tla_token.specs.declared.place.Place.{Place}
use Rattle.tla_token.specs.declared.rule.Rule.{Rule}
use Rattle.tla_token.specs.declared.rule.Rule.TheVariants.{TooDeep, Syntax}
use Rattle.tla_tree.specs.declared.op.Op.{Op}
use Rattle.tla_tree.specs.declared.op.Op.TheVariants as op
use Rattle.tla_tree.specs.Tree.{Word}
use Rattle.tla_tree.specs.Lexical.{TokenView, Token, token}
use Rattle.tla_tree.specs.Lexical as tk
use Rattle.tla_tree.specs.Spelling.{Phrase, name, infix_of, applied, is_above, can_be_left, can_be_right}
use Rattle.tla_tree.specs.Nesting.{chain, counts_in}
use Rattle.tla_tree.specs.Reader.{Stop, Out, Reader, ◌>>=◌, too_deep, any, Room, next, tail, skip, right_of, behind, goes_on, on_left, element, chain_of, at_most, fewest, so_far, Readers, read_by, opened, opened_after, operand, climb_if, climb_by}
use Rattle.tla_tree.proofs.Alike.{rest_of}
use Rattle.tla_tree.proofs.SpellAhead.{Ahead, held, put_ahead, then_ahead}
use Rattle.tla_tree.proofs.DeepCounts.{Fit, Deep, deep_fewer, lift, deep_behind, raised_same, raised_in, ahead_in}
use Rattle.tla_tree.proofs.SoundTokens.{seen, if_some}
use Rattle.tla_tree.proofs.SoundPhrases.{Sound}
use Rattle.tla_tree.proofs.SoundForms.{is_infix, operand_plain}
use Rattle.tla_tree.proofs.Limited.{Fitting, Late, Past, Told, Limited, On, told_err, late_more, limited_bind, limited_gives, limited_next, limited_past}
use Rattle.tla_tree.proofs.LimitedRooms.{Alive, BothFit, BothLate, InLate, AreLimited, ReadersFit, PhraseFits, IsRoom, any_room, dead_late}
use Rattle.tla_tree.proofs.LimitedForms.{limited_operand}

abbrev Xs : Type 0
Xs = List ℕ → List ℕ

abbrev Dead : Bool → ℕ → ℕ → Phrase → Type 0
Dead linked b k a = (s : List ℕ) → Deep b (counts_in linked k a s) (length s)

-- ---- what the element is
pub plain_element : (p : Place) (y : Word) (s : Place) (a c : Phrase) → is_infix a ≡ false → element p y s a ≡ Some c → infix_of (name p y) s op.In a ≡ c
plain_element p y s (infix_of a r o d) c n i = absurd cc
plain_element p y s a c n i = (if_some (can_be_right op.In a) (infix_of (name p y) s op.In a) c i).1

-- with an operator: all of it is to the right of `\\in`, or the operator is after the element
pub above_element : (p : Place) (y : Word) (s : Place) (a : Phrase) (r : Place) (o : Op) (d c : Phrase) → is_above op.In (applied o) ≡ true → element p y s (infix_of a r o d) ≡ Some c → infix_of (name p y) s op.In (infix_of a r o d) ≡ c
above_element p y s a r o d c h i = (let j : Some (infix_of (name p y) s op.In (infix_of a r o d)) ≡ Some c = rw h at i in cc)

pub left_element : (p : Place) (y : Word) (s : Place) (a : Phrase) (r : Place) (o : Op) (d c : Phrase) → is_above op.In (applied o) ≡ false → element p y s (infix_of a r o d) ≡ Some c
    → (z : Phrase) × (element p y s a ≡ Some z) × (can_be_left z r o ≡ true) × (infix_of z r o d ≡ c)
left_element p y s a r o d c h i = by (element p y s a) refl (rw h at i)
  where
    by : (e : Option Phrase) → element p y s a ≡ e → on_left e r o d ≡ Some c → (z : Phrase) × (element p y s a ≡ Some z) × (can_be_left z r o ≡ true) × (infix_of z r o d ≡ c)
    by (Some z) e i = (let w = if_some (can_be_left z r o) (infix_of z r o d) c i in (z, e, w.0, w.1))
    by None e i = absurd cc

made_element : (p : Place) (y : Word) (s : Place) (a : Phrase) (r : Place) (o : Op) (d z : Phrase) → is_above op.In (applied o) ≡ false → element p y s a ≡ Some z → can_be_left z r o ≡ true → element p y s (infix_of a r o d) ≡ Some (infix_of z r o d)
made_element p y s a r o d z h i l = rw (h, i, l) refl

-- all of it being to the right of `\\in`, each count is one more
late_right : (linked : Bool) (b k : ℕ) (p : Place) (y : Word) (s : Place) (x : Xs) → Ahead x → (a : Phrase) (j t : ℕ) → Late b (λ u. x (k ∷ k ∷ counts_in linked k a u)) j t → Late b (λ u. x (counts_in linked k (infix_of (name p y) s op.In a) u)) j t
late_right linked b k p y s x ax a j t l = λ u m i.
    deep_behind ax b 1 (k ∷ k ∷ counts_in linked k a u) (k ∷ (k + 0 + 1) ∷ counts_in linked (k + 0 + 1) a u) m (omega arith, omega arith, (omega arith, omega arith, raised_in linked 0 1 k (k + 0 + 1) (omega arith) (omega arith) a u u (raised_same 1 u))) (l u m i)

shorter : (us : List Token) (w : Stop) (t : Token) (u : List Token) (o : Out Phrase) → length (rest_of o) ≤ length us → o ≡ Err w → w.1 ≡ t ∷ u → length u ≤ length us
shorter us w t u o h i at = (let k : length (rest_of o) ≡ suc (length u) = ap (λ (z : Out Phrase). length (rest_of z)) i ∙ ap length at in omega (arith, k, h))

-- ---- the first operand
module _ (linked l : Bool) (b k : ℕ) (m : Room) (r q : Readers) (h : AreLimited linked l b k r q) (v : IsRoom linked l b k m q) (sound : Sound q) (e : ℕ) (p : Place) (y : Word) (s : Place) (x : Xs) (ax : Ahead x) where
  pub set_operand : (t : Place) (o : TokenView) (ts : List Token) → next e ts ≡ token t o → Limited (Fitting l b x) (InLate b k x) (BothFit linked l b k p y s x) (BothLate linked b k p y s x) ts (operand m r e (behind p y s) t o ts) (operand (any q) q e (behind p y s) t o ts)
  set_operand t o ts i = record {
    told = by (operand m r e (behind p y s) t o ts) as_set.told alone.told;
    on = λ a us w j g. (as_set.on a us w j g.0, λ c z. at_right a us w c z j g.1);
    within = as_set.within;
    left = as_set.left;
  }
    where
      as_set : On l b (λ u. x (k ∷ k ∷ u)) (λ a u. x (k ∷ k ∷ counts_in linked k a u)) ts (operand m r e (behind p y s) t o ts) (operand (any q) q e (behind p y s) t o ts)
      as_set = limited_operand linked l b k m r q h v e (behind p y s) t o (λ u. x (k ∷ k ∷ u)) (then_ahead ax (put_ahead (put_ahead held))) ts i

      alone : On l b (λ u. u) (λ a u. counts_in linked k a u) ts (operand m r e (behind p y s) t o ts) (operand (any q) q e (behind p y s) t o ts)
      alone = limited_operand linked l b k m r q h v e (behind p y s) t o (λ u. u) held ts i

      right : On false b (λ u. x (k ∷ (k + 0 + 1) ∷ u)) (λ a u. x (k ∷ (k + 0 + 1) ∷ counts_in linked (k + 0 + 1) a u)) ts (operand (any q) q e (behind p y s) t o ts) (operand (any q) q e (behind p y s) t o ts)
      right = limited_operand linked false b (k + 0 + 1) (any q) q q (v.unlimited (k + 0 + 1)) (any_room linked b (k + 0 + 1) q v.unlimited) e (behind p y s) t o (λ u. x (k ∷ (k + 0 + 1) ∷ u)) (then_ahead ax (put_ahead (put_ahead held))) ts i

      at_right : (a : Phrase) (us : List Token) → operand (any q) q e (behind p y s) t o ts ≡ Ok (a, us) → (c : Phrase) → element p y s a ≡ Some c → (j : ℕ) → Late b (λ u. x (k ∷ (k + 0 + 1) ∷ u)) j (length ts) → Late b (λ u. x (counts_in linked k c u)) j (length us)
      at_right a us w c z j g = subst (λ (d : Phrase). Late b (λ u. x (counts_in linked k d u)) j (length us)) (plain_element p y s a c (operand_plain q sound e (behind p y s) t o ts a us i w) z) (right.on a us w j g)

      by : (d : Out Phrase) → Told (Fitting l b (λ u. x (k ∷ k ∷ u))) (λ a. Fitting l b (λ u. x (k ∷ k ∷ counts_in linked k a u))) (λ a. Late b (λ u. x (k ∷ k ∷ counts_in linked k a u))) d (operand (any q) q e (behind p y s) t o ts)
          → Told (Fitting l b (λ u. u)) (λ a. Fitting l b (λ u. counts_in linked k a u)) (λ a. Late b (λ u. counts_in linked k a u)) d (operand (any q) q e (behind p y s) t o ts)
          → Told (Fitting l b x) (BothFit linked l b k p y s x) (BothLate linked b k p y s x) d (operand (any q) q e (behind p y s) t o ts)
      by (Ok d) f g = (f.0, λ z. (z, inl (g.1 (λ e u i. i))))
      by (Err d) (inl f) g = inl f
      by (Err d) (inr (t', u, n, z, w, late)) g = inr (
        t',
        u,
        n,
        z,
        w,
        λ a us i'. (
          late a us i',
          λ c z'. subst (λ (d : Phrase). Late b (λ u. x (counts_in linked k d u)) (length u) (length us)) (plain_element p y s a c (operand_plain q sound e (behind p y s) t o ts a us i i') z')
              (late_right linked b k p y s x ax a (length u) (length us) (late a us i')),
        ),
      )

  -- ---- operators after it
  -- late at the operator, in both
  abbrev AtSign : Phrase → Op → Place → ℕ → ℕ → Type 0
  AtSign a o t j n = Late b (λ u. x (k ∷ k ∷ counts_in linked k a ((k + chain a + 1) ∷ u))) j n
      × ((c : Phrase) → element p y s a ≡ Some c → is_above op.In (applied o) ≡ false → can_be_left c t o ≡ true → Late b (λ u. x (counts_in linked k c ((k + chain c + 1) ∷ u))) j n)

  at_sign : (a : Phrase) (o : Op) (t : Place) (j n : ℕ) → BothLate linked b k p y s x a j (suc n) → AtSign a o t j n
  at_sign a o t j n g = (late_more b (λ u. x (k ∷ k ∷ counts_in linked k a u)) (k + chain a + 1) j n g.0, λ c z f w. late_more b (λ u. x (counts_in linked k c u)) (k + chain c + 1) j n (g.1 c z))

  -- the base is not above that of a reading, or that reading is dead
  abbrev Covers : ℕ → Phrase → Type 0
  Covers n a = (n ≤ k + chain a + 1) ⊎ Dead linked b k a

  abbrev CoversBoth : ℕ → Phrase → Op → Place → Type 0
  CoversBoth n a o t = Covers n a × ((c : Phrase) → element p y s a ≡ Some c → is_above op.In (applied o) ≡ false → can_be_left c t o ≡ true → Covers n c)

  dead_at : (z : Xs) → Ahead z → (a : Phrase) → Dead linked b k a → (i j n : ℕ) → j ≤ n → Late b (λ u. z (counts_in linked k a (i ∷ u))) j n
  dead_at z az a d i j n w = dead_late b z az (λ u. counts_in linked k a (i ∷ u)) (λ u. deep_fewer b (counts_in linked k a (i ∷ u)) (suc (length u)) (length u) (omega arith) (d (i ∷ u))) j n w

  -- where the base is above the bound, it is late at the sign
  covered : (z : Xs) → Ahead z → (n : ℕ) (a : Phrase) → b < n → Covers n a → (j : ℕ) → Late b (λ u. z (counts_in linked k a ((k + chain a + 1) ∷ u))) j j
  covered z az n a w (inl i) j = λ u m g. lift (then_ahead az (ahead_in linked k a)) b ((k + chain a + 1) ∷ u) m (inl (omega (arith, w, i), omega (arith, g)))
  covered z az n a w (inr d) j = dead_at z az a d (k + chain a + 1) j j (omega arith)

  covered_both : (n : ℕ) (a : Phrase) (o : Op) (t : Place) → b < n → CoversBoth n a o t → (j : ℕ) → AtSign a o t j j
  covered_both n a o t w c j = (covered (λ u. x (k ∷ k ∷ u)) (then_ahead ax (put_ahead (put_ahead held))) n a w c.0 j, λ z i f g. covered x ax n z w (c.1 z i f g) j)

  -- ---- the operand after the sign
  -- in a reading whose count at the sign is k + chain a + 1, read with n open
  module _ (l' : Bool) (n : ℕ) (d : Readers) (g : AreLimited linked l' b n d q) (a : Phrase) (o : Op) (us : List Token) where
    on_right : (z : Xs) → Ahead z → (c : Phrase) (w : Phrase) (ws : List Token) → q.expr e (right_of o) us ≡ Ok (w, ws) → (j : ℕ) → Late b (λ u. z (counts_in linked k c ((k + chain c + 1) ∷ u))) j (length us) → Late b (λ u. z (counts_in linked k c ((k + chain c + 1) ∷ counts_in linked (k + chain c + 1) w u))) j (length ws)
    on_right z az c w ws i j f = ((v.unlimited (k + chain c + 1)).expr e (right_of o) refl (λ u. z (counts_in linked k c ((k + chain c + 1) ∷ u))) (then_ahead az (then_ahead (ahead_in linked k c) (put_ahead held))) us).on w ws i j f

    -- too deep in it
    past_right : (z : Xs) → Ahead z → (c : Phrase) → Covers n c → (f : Stop) → d.expr e (right_of o) us ≡ Err f → (t : Token) (u : List Token) → f.0 ≡ TooDeep → f.1 ≡ t ∷ u → (w : Phrase) (ws : List Token) → q.expr e (right_of o) us ≡ Ok (w, ws) → length u ≤ length us
        → Late b (λ u. z (counts_in linked k c ((k + chain c + 1) ∷ counts_in linked (k + chain c + 1) w u))) (length u) (length ws)
    past_right z az c (inr dead) f i t u deep at w ws j less = on_right z az c w ws j (length u) (dead_at z az c dead (k + chain c + 1) (length u) (length us) less)
    past_right z az c (inl low) f i t u deep at w ws j less = by (told_err (g.expr e (right_of o) refl (λ u. z (counts_in linked k c (n ∷ u))) (then_ahead az (then_ahead (ahead_in linked k c) (put_ahead held))) us) i)
      where
        by : ((f.0 ≡ Syntax) × ((r : Rule) × (q.expr e (right_of o) us ≡ Err (r, f.1)))) ⊎ Past (λ w. Late b (λ u. z (counts_in linked k c (n ∷ counts_in linked n w u)))) f (q.expr e (right_of o) us) → Late b (λ u. z (counts_in linked k c ((k + chain c + 1) ∷ counts_in linked (k + chain c + 1) w u))) (length u) (length ws)
        by (inl h) = (let no : Syntax ≡ TooDeep = sym h.0 ∙ deep in absurd cc)
        by (inr (t', u', deep', at', within', late)) =
            let same : u' ≡ u = (let both : t' ∷ u' ≡ t ∷ u = sym at' ∙ at in cc) in
            λ r m i. deep_behind (then_ahead az (ahead_in linked k c)) b (k + chain c + 1) (n ∷ counts_in linked n w r) ((k + chain c + 1) ∷ counts_in linked (k + chain c + 1) w r) m
            (omega (arith, low), omega arith, raised_in linked 0 (k + chain c + 1) n (k + chain c + 1) (omega (arith, low)) (omega arith) w r r (raised_same (k + chain c + 1) r)) (late w ws j r m (rw same i))

    abbrev Whole : Place → Phrase → Phrase
    Whole t w = infix_of a t o w

    -- both readings of the whole are late where both are for its parts
    whole_late : (t : Place) (w : Phrase) (j i : ℕ) → Late b (λ u. x (k ∷ k ∷ counts_in linked k a ((k + chain a + 1) ∷ counts_in linked (k + chain a + 1) w u))) j i
        → ((c : Phrase) → element p y s a ≡ Some c → is_above op.In (applied o) ≡ false → can_be_left c t o ≡ true → Late b (λ u. x (counts_in linked k c ((k + chain c + 1) ∷ counts_in linked (k + chain c + 1) w u))) j i)
        → BothLate linked b k p y s x (Whole t w) j i
    whole_late t w j i f h = (f, λ c z. by (is_above op.In (applied o)) refl c z)
      where
        by : (z : Bool) → is_above op.In (applied o) ≡ z → (c : Phrase) → element p y s (Whole t w) ≡ Some c → Late b (λ u. x (counts_in linked k c u)) j i
        by true z c i' = subst (λ (d : Phrase). Late b (λ u. x (counts_in linked k d u)) j i) (above_element p y s a t o w c z i') (late_right linked b k p y s x ax (Whole t w) j i f)
        by false z c i' = (let e' = left_element p y s a t o w c z i' in subst (λ (d : Phrase). Late b (λ u. x (counts_in linked k d u)) j i) e'.3 (h e'.0 e'.1 z e'.2))

    right_read : (t : Place) → CoversBoth n a o t → ((w : Phrase) → Fitting l' b (counts_in linked n w) → Alive linked l' b k p y s (Whole t w))
        → Limited (BothFit linked l' b k p y s x a) (AtSign a o t) (λ w. BothFit linked l' b k p y s x (Whole t w)) (λ w. BothLate linked b k p y s x (Whole t w)) us (d.expr e (right_of o) us) (q.expr e (right_of o) us)
    right_read t cover alive = record {
      told = by (d.expr e (right_of o) us) refl alone.told;
      on = λ w ws i j f. whole_late t w j (length ws) (on_right (λ u. x (k ∷ k ∷ u)) (then_ahead ax (put_ahead (put_ahead held))) a w ws i j f.0) (λ c z i' l. on_right x ax c w ws i j (f.1 c z i' l));
      within = alone.within;
      left = alone.left;
    }
      where
        alone : On l' b (λ u. u) (λ w u. counts_in linked n w u) us (d.expr e (right_of o) us) (q.expr e (right_of o) us)
        alone = g.expr e (right_of o) refl (λ u. u) held us

        by : (z : Out Phrase) → d.expr e (right_of o) us ≡ z → Told (Fitting l' b (λ u. u)) (λ w. Fitting l' b (λ u. counts_in linked n w u)) (λ w. Late b (λ u. counts_in linked n w u)) z (q.expr e (right_of o) us)
            → Told (BothFit linked l' b k p y s x a) (λ w. BothFit linked l' b k p y s x (Whole t w)) (λ w. BothLate linked b k p y s x (Whole t w)) z (q.expr e (right_of o) us)
        by (Ok w) i f = (f.0, λ z. (z.0, alive w.0 (f.1 (λ e u i. i))))
        by (Err w) i (inl f) = inl f
        by (Err w) i (inr (t', u, deep, at, inside, late)) =
            let less : length u ≤ length us = shorter us w t' u (d.expr e (right_of o) us) alone.left i at in
            inr (
              t',
              u,
              deep,
              at,
              inside,
              λ c ws j. whole_late t c (length u) (length ws) (past_right (λ u. x (k ∷ k ∷ u)) (then_ahead ax (put_ahead (put_ahead held))) a cover.0 w i t' u deep at c ws j less)
                  (λ d' z i' f. past_right x ax d' (cover.1 d' z i' f) w i t' u deep at c ws j less),
            )

  -- ---- in a room
  -- the reader of the rest, in both
  abbrev Rest : Readers → Phrase → Op → Place → Readers → Room → Readers → Reader Phrase
  Rest z a o t r' i d = d.expr e (right_of o) >>= λ w. r'.climb e (behind p y s) (infix_of a t o w)

  abbrev SetRead : Phrase → List Token → Out Phrase → Out Phrase → Type 0
  SetRead a ts o o' = Limited (BothFit linked l b k p y s x a) (BothLate linked b k p y s x a) (BothFit linked l b k p y s x) (BothLate linked b k p y s x) ts o o'

  -- too deep at the sign
  deep_sign : (a : Phrase) (o : Op) (t : Place) (ts : List Token) → token t (tk.sign o) ∷ tail ts ≡ ts → (n : ℕ) → CoversBoth n a o t → AtSign a o t (length (tail ts)) (length (tail ts)) → SetRead a ts (too_deep ts) (skip (q.expr e (right_of o) >>= λ w. q.climb e (behind p y s) (infix_of a t o w)) ts)
  deep_sign a o t ts c n cover here = limited_past c (λ j g. at_sign a o t j (length (tail ts)) g) here
      (limited_bind (right_read false n q (v.unlimited n) a o (tail ts) t cover (λ w f. inl (λ e. absurd cc))) (λ w ws i. (v.unlimited k).climb_set e p y s (infix_of a t o w) x ax ws))

  opened_sign : (a : Phrase) (o : Op) (t : Place) (ts : List Token) → token t (tk.sign o) ∷ tail ts ≡ ts → (j n : ℕ) → n ≡ k + suc j → CoversBoth n a o t → ((w : Phrase) → (l ≡ true → n ≤ b) → Fitting l b (counts_in linked n w) → Alive linked l b k p y s (infix_of a t o w))
      → SetRead a ts (opened m j (λ i d. skip (d.expr e (right_of o) >>= λ w. r.climb e (behind p y s) (infix_of a t o w))) ts) (skip (q.expr e (right_of o) >>= λ w. q.climb e (behind p y s) (infix_of a t o w)) ts)
  opened_sign a o t ts c j n eq cover alive = by (m.at (suc j)) (v.at (suc j) n (λ z. eq))
    where
      by : (z : Option Readers) → ReadersFit linked l b n q z → SetRead a ts (read_by z (λ d. skip (d.expr e (right_of o) >>= λ w. r.climb e (behind p y s) (infix_of a t o w))) ts) (skip (q.expr e (right_of o) >>= λ w. q.climb e (behind p y s) (infix_of a t o w)) ts)
      by (Some d) g = limited_next c (λ f. f) (λ j g. at_sign a o t j (length (tail ts)) g)
          (limited_bind (right_read l n d g a o (tail ts) t cover (λ w f. alive w g.low f)) (λ w ws i. h.climb_set e p y s (infix_of a t o w) x ax ws))
      by None less = deep_sign a o t ts c n cover (covered_both n a o t less cover (length (tail ts)))

  -- ---- which reading is open
  abbrev ElementIs : Phrase → Op → Place → Option ℕ → Type 0
  ElementIs a o t (Some j) = (c : Phrase) × (element p y s a ≡ Some c) × (is_above op.In (applied o) ≡ false) × (can_be_left c t o ≡ true) × Fitting l b (counts_in linked k c) × (j ≡ chain c)
  ElementIs a o t None = (c : Phrase) → element p y s a ≡ Some c → is_above op.In (applied o) ≡ false → can_be_left c t o ≡ true → Dead linked b k c

  element_is : (a : Phrase) (o : Op) (t : Place) → ElementIs a o t (chain_of m (element p y s a) t o)
  element_is a o t = by (element p y s a) refl
    where
      at : (c : Phrase) → element p y s a ≡ Some c → (f g z : Bool) → is_above op.In (applied o) ≡ f → can_be_left c t o ≡ g → PhraseFits linked l b k c z → ElementIs a o t (if not f && (g && z) then Some (chain c) else None)
      at c i true g z f' g' z' = λ d i' f g. (let no : true ≡ false = sym f' ∙ f in absurd cc)
      at c i false false z f' g' z' = λ d i' f g. (let same : c ≡ d = (let both : Some c ≡ Some d = sym i ∙ i' in cc) in let no : true ≡ false = sym g ∙ ap (λ (d : Phrase). can_be_left d t o) (sym same) ∙ g' in absurd cc)
      at c i false true false f' g' z' = λ d i' f g. (let same : c ≡ d = (let both : Some c ≡ Some d = sym i ∙ i' in cc) in subst (λ (d : Phrase). Dead linked b k d) same z')
      at c i false true true f' g' z' = (c, i, f', g', z', refl)

      by : (z : Option Phrase) → element p y s a ≡ z → ElementIs a o t (chain_of m z t o)
      by (Some c) i = at c i (is_above op.In (applied o)) (can_be_left c t o) (m.fits 0 c) refl refl (v.fits 0 k (λ z. omega arith) h.low c)
      by None i = λ c i' f g. (let both : ◌≡◌ {A = Option Phrase} None (Some c) = sym i ∙ i' in absurd cc)

  same_min : (i j : ℕ) → ((i ≤ j) × (min i j ≡ i)) ⊎ ((j ≤ i) × (min i j ≡ j))
  same_min i j = elim (cases_order i j) [
    | inl e ↦ inl (omega (arith, e), min-eq_left (omega (arith, e)))
    | inr o ↦ elim o [ inl w ↦ inl (omega (arith, w), min-eq_left (omega (arith, w))) | inr w ↦ inr (omega (arith, w), min-eq_right (omega (arith, w))) ]
  ]

  chain_read : (a : Phrase) (o : Op) (t : Place) (ts : List Token) → token t (tk.sign o) ∷ tail ts ≡ ts
      → SetRead a ts (opened_after m (so_far m (behind p y s) a t o) (λ i d. skip (d.expr e (right_of o) >>= λ w. r.climb e (behind p y s) (infix_of a t o w))) ts) (skip (q.expr e (right_of o) >>= λ w. q.climb e (behind p y s) (infix_of a t o w)) ts)
  chain_read a o t ts c = by (m.fits 0 a) (v.fits 0 k (λ z. omega arith) h.low a) (chain_of m (element p y s a) t o) (element_is a o t)
    where
      as_set : (w : Phrase) → Fitting l b (counts_in linked k a) → (l ≡ true → k + chain a + 1 ≤ b) → Fitting l b (counts_in linked (k + chain a + 1) w) → Alive linked l b k p y s (infix_of a t o w)
      as_set w fit low f = inl (λ e u i. fit e ((k + chain a + 1) ∷ counts_in linked (k + chain a + 1) w u) (low e, f e u i))

      as_element : (d : Phrase) → element p y s a ≡ Some d → is_above op.In (applied o) ≡ false → can_be_left d t o ≡ true → Fitting l b (counts_in linked k d) → (w : Phrase) → (l ≡ true → k + chain d + 1 ≤ b) → Fitting l b (counts_in linked (k + chain d + 1) w) → Alive linked l b k p y s (infix_of a t o w)
      as_element d i z n fit w low f = inr (infix_of d t o w, made_element p y s a t o w d z i n, λ e u i. fit e ((k + chain d + 1) ∷ counts_in linked (k + chain d + 1) w u) (low e, f e u i))

      -- the one reading of an element
      only : (n : ℕ) (d : Phrase) → element p y s a ≡ Some d → n ≤ k + chain d + 1 → (d' : Phrase) → element p y s a ≡ Some d' → is_above op.In (applied o) ≡ false → can_be_left d' t o ≡ true → Covers n d'
      only n d i less d' i' z f = (let same : d ≡ d' = (let both : Some d ≡ Some d' = sym i ∙ i' in cc) in inl (subst (λ (c : Phrase). n ≤ k + chain c + 1) same less))

      Goal : Option ℕ → Type 0
      Goal z = SetRead a ts (opened_after m z (λ i d. skip (d.expr e (right_of o) >>= λ w. r.climb e (behind p y s) (infix_of a t o w))) ts) (skip (q.expr e (right_of o) >>= λ w. q.climb e (behind p y s) (infix_of a t o w)) ts)

      by_element : (j : ℕ) (d : Phrase) → element p y s a ≡ Some d → is_above op.In (applied o) ≡ false → can_be_left d t o ≡ true → Fitting l b (counts_in linked k d) → j ≡ chain d → Covers (k + chain d + 1) a → Goal (Some j)
      by_element j d i z f fit same cover = opened_sign a o t ts c j (k + chain d + 1) (omega (arith, same)) (cover, only (k + chain d + 1) d i (omega arith)) (λ w low g. as_element d i z f fit w low g)

      by_set : Fitting l b (counts_in linked k a) → ((d : Phrase) → element p y s a ≡ Some d → is_above op.In (applied o) ≡ false → can_be_left d t o ≡ true → Covers (k + chain a + 1) d) → Goal (Some (chain a))
      by_set fit cover = opened_sign a o t ts c (chain a) (k + chain a + 1) (omega arith) (inl (omega arith), cover) (λ w low g. as_set w fit low g)

      fits_by : Fitting l b (counts_in linked k a) → (n : Option ℕ) → ElementIs a o t n → Goal (Some (at_most (chain a) n))
      fits_by fit None none = by_set fit (λ d i z f. inr (none d i z f))
      fits_by fit (Some j) f = elim (same_min (chain a) j) [
        | inl w ↦ subst (λ (n : ℕ). Goal (Some n)) (sym w.1) (by_set fit (only (k + chain a + 1) f.0 f.1 (let le = w.0 in let same = f.5 in omega (arith, le, same))))
        | inr w ↦ subst (λ (n : ℕ). Goal (Some n)) (sym w.1) (by_element j f.0 f.1 f.2 f.3 f.4 f.5 (inl (let le = w.0 in let same = f.5 in omega (arith, le, same))))
      ]

      dead_by : Dead linked b k a → (n : Option ℕ) → ElementIs a o t n → Goal n
      dead_by dead None none = deep_sign a o t ts c (k + chain a + 1) (inr dead, λ d i z f. inr (none d i z f)) (
        dead_at (λ u. x (k ∷ k ∷ u)) (then_ahead ax (put_ahead (put_ahead held))) a dead (k + chain a + 1) (length (tail ts)) (length (tail ts)) (omega arith),
        λ d i z f. dead_at x ax d (none d i z f) (k + chain d + 1) (length (tail ts)) (length (tail ts)) (omega arith),
      )
      dead_by dead (Some j) f = by_element j f.0 f.1 f.2 f.3 f.4 f.5 (inr dead)

      by : (z : Bool) → PhraseFits linked l b k a z → (n : Option ℕ) → ElementIs a o t n → Goal (fewest (if z || false then Some (chain a) else None) n)
      by true fit n f = fits_by fit n f
      by false dead n f = dead_by dead n f

  -- where so many are open at the sign, the whole fits if what is after the sign does
  pub alive_after : (a : Phrase) (o : Op) (t : Place) (j : ℕ) → so_far m (behind p y s) a t o ≡ Some j → (n : ℕ) → n ≡ k + suc j → (w : Phrase) → (l ≡ true → n ≤ b) → Fitting l b (counts_in linked n w) → Alive linked l b k p y s (infix_of a t o w)
  alive_after a o t j eq n count w low f = by (m.fits 0 a) (v.fits 0 k (λ z. omega arith) h.low a) (chain_of m (element p y s a) t o) (element_is a o t) eq
    where
      as_set : Fitting l b (counts_in linked k a) → chain a ≡ j → Alive linked l b k p y s (infix_of a t o w)
      as_set fit i =
          let same : n ≡ k + chain a + 1 = omega (arith, count, i) in
          inl (λ e u c. fit e ((k + chain a + 1) ∷ counts_in linked (k + chain a + 1) w u) (subst (λ (c : ℕ). c ≤ b) same (low e), subst (λ (c : ℕ). Fit b (counts_in linked c w u)) same (f e u c)))

      as_element : (i : ℕ) → ElementIs a o t (Some i) → i ≡ j → Alive linked l b k p y s (infix_of a t o w)
      as_element i g z =
          let chain_is = g.5 in
          let same : n ≡ k + chain g.0 + 1 = omega (arith, count, chain_is, z) in
          inr (infix_of g.0 t o w, made_element p y s a t o w g.0 g.2 g.1 g.3, λ e u c. g.4 e ((k + chain g.0 + 1) ∷ counts_in linked (k + chain g.0 + 1) w u) (subst (λ (c : ℕ). c ≤ b) same (low e), subst (λ (c : ℕ). Fit b (counts_in linked c w u)) same (f e u c)))

      fits_by : Fitting l b (counts_in linked k a) → (i : Option ℕ) → ElementIs a o t i → Some (at_most (chain a) i) ≡ Some j → Alive linked l b k p y s (infix_of a t o w)
      fits_by fit None g eq = as_set fit cc
      fits_by fit (Some i) g eq = elim (same_min (chain a) i) [
        | inl d ↦ as_set fit (let now : min (chain a) i ≡ j = cc in sym d.1 ∙ now)
        | inr d ↦ as_element i g (let now : min (chain a) i ≡ j = cc in sym d.1 ∙ now)
      ]

      dead_by : (i : Option ℕ) → ElementIs a o t i → i ≡ Some j → Alive linked l b k p y s (infix_of a t o w)
      dead_by None g eq = absurd cc
      dead_by (Some i) g eq = as_element i g cc

      by : (z : Bool) → PhraseFits linked l b k a z → (i : Option ℕ) → ElementIs a o t i → fewest (if z || false then Some (chain a) else None) i ≡ Some j → Alive linked l b k p y s (infix_of a t o w)
      by true fit i g eq = fits_by fit i g eq
      by false dead i g eq = dead_by i g eq

  set_climb_if : (g : Bool) (a : Phrase) (o : Op) (t : Place) (ts : List Token) → next e ts ≡ token t (tk.sign o) → SetRead a ts (climb_if g m r e (behind p y s) a t o ts) (climb_if g (any q) q e (behind p y s) a t o ts)
  set_climb_if true a o t ts i = chain_read a o t ts (seen e ts t (tk.sign o) i refl).1
  set_climb_if false a o t ts i = limited_gives a ts

  pub limited_set_climb : (a : Phrase) (t : Place) (o : TokenView) (ts : List Token) → next e ts ≡ token t o → SetRead a ts (climb_by m r e (behind p y s) a t o ts) (climb_by (any q) q e (behind p y s) a t o ts)
  limited_set_climb a t (tk.sign o) ts i = set_climb_if (goes_on 0 a t o) a o t ts i
  limited_set_climb a t o ts i = limited_gives a ts
