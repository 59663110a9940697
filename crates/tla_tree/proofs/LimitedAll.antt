-- Reading within a limit: one step more, all steps, and what it says of an expression.
use Rattle.std.proofs.Common.{◌≡◌, ℕ, zero, suc, ◌+◌, ◌-◌, ◌≤◌, nat_le, nat_eq, Bool, true, false, ◌&&◌, List, [], ◌∷◌, length, Some, None, option_map, refl, sym, subst, arith}
use Rattle.std.proofs.lemmas.Bool.{and_parts, leb-true, leb-false}
use Rattle.tla_token.specs.declared.place.Place.{Place}
use Rattle.tla_tree.specs.declared.op.Op.{Op}
use Rattle.tla_tree.specs.Lexical.{Token, token}
use Rattle.tla_tree.specs.Lexical as tk
use Rattle.tla_tree.specs.Spelling.{Phrase, is_some_path}
use Rattle.tla_tree.specs.Nesting.{nesting_in, counts_in}
use Rattle.tla_tree.specs.Reader.{next, tail, is_sign, bullet_of, free, Readers, Room, less, room, any, one_step, no_steps, readers, readers_in}
use Rattle.tla_tree.proofs.SpellAhead.{held, put_ahead, then_ahead}
use Rattle.tla_tree.proofs.DeepCounts.{Fit, Deep, Raised, fit_both, fit_raised, deep_raised, fit_greatest, deep_greatest, deep_before, raised_in, ahead_in}
use Rattle.tla_tree.proofs.SoundTokens.{seen, if_some, sign_is}
use Rattle.tla_tree.proofs.SoundPhrases.{Sound}
use Rattle.tla_tree.proofs.SoundLists.{sound}
use Rattle.tla_tree.proofs.Limited.{limited_bind, limited_refuses, limited_mark, limited_word}
use Rattle.tla_tree.proofs.LimitedRooms.{AreLimited, ReadersFit, PhraseFits, IsRoom, any_room}
use Rattle.tla_tree.proofs.LimitedForms.{limited_operand, limited_short, limited_postfix, limited_climb, limited_phrases, limited_binds, limited_fields, limited_setting, limited_path, limited_bullets, limited_arms, limited_locals}
use Rattle.tla_tree.proofs.LimitedSets.{set_operand, limited_set_climb}

bullet_there : (e : ℕ) (o : Op) (c : ℕ) (ts : List Token) (p : Place) → bullet_of o c (next e ts).place (next e ts).kind ≡ Some p → token (next e ts).place (tk.sign o) ∷ tail ts ≡ ts
bullet_there e o c ts p i =
    let v = if_some (is_sign o (next e ts).kind && nat_eq c (next e ts).place.col) (next e ts).place p i in
    let w = and_parts (is_sign o (next e ts).kind) (nat_eq c (next e ts).place.col) v.0 in
    (seen e ts (next e ts).place (tk.sign o) (λ j. token (next e ts).place (sign_is o (next e ts).kind w.0 j)) refl).1

module _ (linked l : Bool) (b k : ℕ) (m : Room) (r q : Readers) (s : Sound q) (h : AreLimited linked l b k r q) (v : IsRoom linked l b k m q) where
  step_limited : AreLimited linked l b k (one_step m r) (one_step (any q) q)
  step_limited = record {
    low = h.low;
    expr = λ e c n x ax ts. limited_bind (limited_operand linked l b k m r q h v e c (next e ts).place (next e ts).kind x ax ts refl) (λ a us i. h.climb e c n a x ax us);
    set = λ e p y t x ax ts. limited_bind (set_operand linked l b k m r q h v s e p y t x ax (next e ts).place (next e ts).kind ts refl) (λ a us i. h.climb_set e p y t a x ax us);
    short = λ e x ax ts. limited_short linked l b k m r q h v e (next e ts).place (next e ts).kind x ax ts refl;
    postfix = λ e a x ax ts. limited_postfix linked l b k m r q h v e a (next e ts).place (next e ts).kind x ax ts refl;
    climb = λ e c n a x ax ts. limited_climb linked l b k m r q h v e c n a (next e ts).place (next e ts).kind x ax ts refl;
    climb_set = λ e p y t a x ax ts. limited_set_climb linked l b k m r q h v s e p y t x ax a (next e ts).place (next e ts).kind ts refl;
    phrases = λ e x ax ts. limited_bind (h.expr e free refl x ax ts) (λ a us i. limited_phrases linked l b k m r q h v e a (next e us).place (next e us).kind x ax us refl);
    binds = λ e p y x ax ts. limited_binds linked l b k m r q h v e p y (next e ts).place (next e ts).kind x ax ts refl;
    fields = λ e w f x ax ts. limited_bind (limited_mark l b k h.low (λ u. x (k ∷ u)) e w ts)
        (λ p us i. limited_bind (h.expr e free refl (λ u. x (k ∷ k ∷ u)) (then_ahead ax (put_ahead (put_ahead held))) us)
        (λ a ws i. limited_fields linked l b k m r q h v e w f p a (next e ws).place (next e ws).kind x ax ws refl));
    settings = λ e x ax ts. limited_bind (limited_mark l b k h.low x e tk.bang ts)
        (λ p us i. limited_bind (h.path e (λ u. x (k ∷ u)) (then_ahead ax (put_ahead held)) us)
        (λ path ws i. limited_setting linked l b k m r q h v (is_some_path path) e p path x ax ws));
    path = λ e x ax ts. limited_path linked l b k m r q h v e (next e ts).place (next e ts).kind x ax ts refl;
    bullets = λ e o c x ax ts p i. limited_bullets linked l b k m r q h v e o c x ax ts p i (bullet_there e o c ts p i);
    arms = λ e x ax ts. limited_bind (h.expr e free refl x ax ts)
        (λ a us i. limited_bind (limited_mark l b k h.low (λ u. x (counts_in linked k a u)) e tk.arrow us)
        (λ p ws i. limited_bind (h.expr e free refl (λ u. x (counts_in linked k a (k ∷ u))) (then_ahead ax (then_ahead (ahead_in linked k a) (put_ahead held))) ws)
        (λ c zs i. limited_arms linked l b k m r q h v e a p c (next e zs).place (next e zs).kind x ax zs refl)));
    locals = λ e x ax ts. limited_bind (limited_word l b k h.low x e ts)
        (λ y us i. limited_bind (limited_mark l b k h.low (λ u. x (k ∷ u)) e tk.defines us)
        (λ p ws i. limited_bind (h.expr e free refl (λ u. x (k ∷ k ∷ u)) (then_ahead ax (put_ahead (put_ahead held))) ws)
        (λ a zs i. limited_locals linked l b k m r q h v e y.0 y.1 p a (next e zs).place (next e zs).kind x ax zs)));
  }

nothing_limited : (linked l : Bool) (b k : ℕ) → (l ≡ true → k ≤ b) → AreLimited linked l b k no_steps no_steps
nothing_limited linked l b k low = record {
  low = low;
  expr = λ e c n x ax ts. limited_refuses ts;
  set = λ e p y t x ax ts. limited_refuses ts;
  short = λ e x ax ts. limited_refuses ts;
  postfix = λ e a x ax ts. limited_refuses ts;
  climb = λ e c n a x ax ts. limited_refuses ts;
  climb_set = λ e p y t a x ax ts. limited_refuses ts;
  phrases = λ e x ax ts. limited_refuses ts;
  binds = λ e p y x ax ts. limited_refuses ts;
  fields = λ e w f x ax ts. limited_refuses ts;
  settings = λ e x ax ts. limited_refuses ts;
  path = λ e x ax ts. limited_refuses ts;
  bullets = λ e o c x ax ts p i. limited_refuses ts;
  arms = λ e x ax ts. limited_refuses ts;
  locals = λ e x ax ts. limited_refuses ts;
}

-- ---- without a limit beside itself
pub unlimited : (linked : Bool) (b n k : ℕ) → AreLimited linked false b k (readers n None) (readers n None)
unfolding readers_in
unlimited linked b zero k = nothing_limited linked false b k (λ e. absurd cc)
unlimited linked b (suc n) k = step_limited linked false b k (any (readers n None)) (readers n None) (readers n None) (sound n) (unlimited linked b n k) (any_room linked b k (readers n None) (unlimited linked b n))

-- ---- within a limit, beside reading without
phrase_fits : (linked : Bool) (b k d j c : ℕ) → k + d ≡ b → c ≡ k + j → c ≤ b → (a : Phrase) → PhraseFits linked true b c a (nat_le (nesting_in linked a + j) d)
phrase_fits linked b k d j c e w low a = by (nat_le (nesting_in linked a + j) d) refl
  where
    raised : Raised c c (counts_in linked 0 a []) (counts_in linked c a [])
    raised = raised_in linked c c 0 c (omega arith) (omega arith) a [] [] tt

    by : (f : Bool) → nat_le (nesting_in linked a + j) d ≡ f → PhraseFits linked true b c a f
    by true f = λ z r i.
        (let less = leb-true (nesting_in linked a + j) d f in
        let alone = fit_raised (nesting_in linked a) b c c (omega (arith, less, e, w)) (counts_in linked 0 a []) (counts_in linked c a []) raised (fit_greatest (counts_in linked 0 a []) (nesting_in linked a) (omega arith)) in
        subst (λ (s : List ℕ). Fit b s) (sym ((ahead_in linked c a).is [] r)) (fit_both b (counts_in linked c a []) r alone i))
    by false f = λ r.
        (let more = leb-false (nesting_in linked a + j) d f in
        let alone = deep_raised (nesting_in linked a - 1) b c c (omega (arith, more, e, w, low)) (counts_in linked 0 a []) (counts_in linked c a []) 0 raised (deep_greatest (counts_in linked 0 a []) (nesting_in linked a - 1) (omega (arith, more, e, w, low))) in
        subst (λ (s : List ℕ). Deep b s (length r)) (sym ((ahead_in linked c a).is [] r)) (deep_before b (counts_in linked c a []) r alone))

pub limited_room : (linked : Bool) (b n k d : ℕ) → k + d ≡ b → ((c d : ℕ) → c + d ≡ b → AreLimited linked true b c (readers_in linked n (Some d)) (readers n None)) → IsRoom linked true b k (room linked (readers_in linked n) (Some d)) (readers n None)
limited_room linked b n k d e h = record {
  at = λ j c w. by j c (w refl) (nat_le j d) refl;
  fits = λ j c w low a. phrase_fits linked b k d j c e (w refl) (low refl) a;
  unlimited = unlimited linked b n;
  links = λ z. refl;
}
  where
    by : (j c : ℕ) → c ≡ k + j → (f : Bool) → nat_le j d ≡ f → ReadersFit linked true b c (readers n None) (option_map (readers_in linked n) (less f d j))
    by j c w true f = (let i = leb-true j d f in h c (d - j) (omega (arith, e, w, i)))
    by j c w false f = (let i = leb-false j d f in omega (arith, e, w, i))

pub limited : (linked : Bool) (b n k d : ℕ) → k + d ≡ b → AreLimited linked true b k (readers_in linked n (Some d)) (readers n None)
unfolding readers_in
limited linked b zero k d e = nothing_limited linked true b k (λ i. omega (arith, e))
limited linked b (suc n) k d e = step_limited linked true b k (room linked (readers_in linked n) (Some d)) (readers_in linked n (Some d)) (readers n None) (sound n) (limited linked b n k d e) (limited_room linked b n k d e (limited linked b n))
