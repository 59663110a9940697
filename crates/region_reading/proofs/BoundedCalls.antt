-- Reading within a bound beside reading without: calls of actions, ways of a step, fairness, and conjuncts of Spec.
use Rattle.std.proofs.Common.{◌≡◌, ℕ, suc, ◌+◌, ◌≤◌, max, bytes_eq, Bool, true, false, List, codes, Option, Some, None, refl, arith}
use Rattle.tla_token.specs.declared.place.Place.{Place}
use Rattle.tla_tree.specs.declared.op.Op.TheVariants as op
use Rattle.tla_tree.specs.Tree.{Word}
use Rattle.tla_tree.specs.Lexical.{TokenView, Token, mark, key}
use Rattle.tla_tree.specs.Lexical as tk
use Rattle.tla_tree.specs.Spelling.{Phrase}
use Rattle.tla_tree.specs.Reader.{Reader, ◌>>=◌, gives, next, tail, place_if, is_mark, is_sign, word_of}
use Rattle.module_tree.specs.Grammar.{CallForm, call_form, call_with_form, one_form, some_form}
use Rattle.module_tree.specs.Units.{OverForm, GuardForm, FairForm, start_line, steps_line, fair_line}
use Rattle.region_reading.specs.Bound.{unbounded, ReadsWithin}
use Rattle.region_reading.specs.Opens.{call_opens, way_opens, over_opens, guard_opens, fair_opens, spec_opens}
use Rattle.region_reading.specs.NameReader.{is_title}
use Rattle.region_reading.specs.CallReader.{call_from, call_by, call_in, some_way_from, way_by, way_in, over_from, over_by, behind_over, guard_from, guard_by, behind_guard, strong_of, fair_end, fair_with, fair_from, fair_in, start_if, steps_from, spec_by, spec_in}
use Rattle.region_reading.proofs.BoundedSteps.{Bounded, within, bounded_gives, bounded_refuses, bounded_bind, then_part, then_token, then_opening, bounded_opened, bounded_phrase}

module _ (x : ℕ → ℕ → Reader Phrase) (bare : Phrase → ℕ) (w : ReadsWithin x bare) (l : ℕ) where
  -- ---- calls

  bounded_call_from : (d e : ℕ) (p : Place) (y : Word) (q : Place) (ts : List Token)
      → Bounded l (suc d) (λ u. d + call_opens bare u) (call_from (within x l (suc d)) e p y q ts) (call_from unbounded e p y q ts)
  bounded_call_from d e p y q ts =
      then_part (omega arith) (bounded_phrase x bare w l (suc d) e ts)
      (λ a us. then_token e (place_if (is_mark tk.close_bracket)) us
      (λ s vs. bounded_gives (call_with_form p y q a s) vs (omega arith)))

  bounded_call_by : (d e : ℕ) (p : Place) (y : Word) (q : Place) (k : TokenView) (ts : List Token)
      → Bounded l d (λ u. d + call_opens bare u) (call_by (within x l d) e p y q k ts) (call_by unbounded e p y q k ts)
  bounded_call_by d e p y q (mark tk.open_bracket) ts = bounded_opened x l d (λ n ts. call_from n e p y q (tail ts)) ts (bounded_call_from d e p y q (tail ts))
  bounded_call_by d e p y q k ts = bounded_gives (call_form p y) ts (omega arith)

  pub bounded_call : (d e : ℕ) (ts : List Token) → Bounded l d (λ u. d + call_opens bare u) (call_in (within x l d) e ts) (call_in unbounded e ts)
  bounded_call d e ts = then_token e word_of ts (λ y us. bounded_call_by d e y.0 y.1 (next e us).place (next e us).kind us)

  -- ---- ways

  bounded_some_way : (d e : ℕ) (p : Place) (ts : List Token) → Bounded l (suc d) (λ y. d + way_opens bare y) (some_way_from (within x l (suc d)) e p ts) (some_way_from unbounded e p ts)
  bounded_some_way d e p ts =
      then_token e word_of ts
      (λ y us. then_token e (place_if (is_sign op.In)) us
      (λ s vs. then_part (omega arith) (bounded_phrase x bare w l (suc d) e vs)
      (λ a ws. then_token e (place_if (is_mark tk.colon)) ws
      (λ t ys. then_part (omega arith) (bounded_call (suc d) e ys)
      (λ u zs. bounded_gives (some_form p y.0 y.1 s a t u) zs (omega arith))))))

  bounded_one_way : (d e : ℕ) (ts : List Token)
      → Bounded l d (λ y. d + way_opens bare y) ((call_in (within x l d) e >>= λ u. gives (one_form u)) ts) ((call_in unbounded e >>= λ u. gives (one_form u)) ts)
  bounded_one_way d e ts = bounded_bind (bounded_call d e ts) (λ u us. bounded_gives (one_form u) us refl)

  bounded_way_by : (d e : ℕ) (p : Place) (k : TokenView) (ts : List Token) → Bounded l d (λ y. d + way_opens bare y) (way_by (within x l d) e p k ts) (way_by unbounded e p k ts)
  bounded_way_by d e p (key tk.exists_key) ts = bounded_opened x l d (λ n ts. some_way_from n e p (tail ts)) ts (bounded_some_way d e p (tail ts))
  bounded_way_by d e p k ts = bounded_one_way d e ts

  pub bounded_way : (d e : ℕ) (ts : List Token) → Bounded l d (λ y. d + way_opens bare y) (way_in (within x l d) e ts) (way_in unbounded e ts)
  bounded_way d e ts = bounded_way_by d e (next e ts).place (next e ts).kind ts

  -- ---- fairness

  bounded_over_from : (d e : ℕ) (p : Place) (ts : List Token) → Bounded l (suc d) (λ o. d + over_opens bare o 0) (over_from (within x l (suc d)) e p ts) (over_from unbounded e p ts)
  bounded_over_from d e p ts =
      then_token e word_of ts
      (λ y us. then_token e (place_if (is_sign op.In)) us
      (λ s vs. then_part (omega arith) (bounded_phrase x bare w l (suc d) e vs)
      (λ a ws. then_token e (place_if (is_mark tk.colon)) ws
      (λ t zs. bounded_gives (Some (record { all = p; at = y.0; name = y.1; in_at = s; set = a; colon = t })) zs (omega arith)))))

  bounded_over : (d e : ℕ) (p : Place) (k : TokenView) (ts : List Token) → Bounded l d (λ o. d + over_opens bare o 0) (over_by (within x l d) e p k ts) (over_by unbounded e p k ts)
  bounded_over d e p (key tk.for_all_key) ts = bounded_opened x l d (λ n ts. over_from n e p (tail ts)) ts (bounded_over_from d e p (tail ts))
  bounded_over d e p k ts = bounded_gives None ts (omega arith)

  bounded_guard_from : (d e : ℕ) (p : Place) (ts : List Token)
      → Bounded l (suc d) (λ g. d + guard_opens bare g 0) (guard_from (within x l d) (within x l (suc d)) e p ts) (guard_from unbounded unbounded e p ts)
  bounded_guard_from d e p ts =
      then_part (omega arith) (bounded_phrase x bare w l (suc d) e ts)
      (λ a us. then_token e (place_if (is_mark tk.close_bracket)) us
      (λ q vs. then_opening x l d e (place_if (is_sign op.And)) vs
      (λ s zs. bounded_gives (Some (record { left = p; test = a; right = q; and_at = s })) zs (omega arith))))

  bounded_guard : (d e : ℕ) (p : Place) (k : TokenView) (ts : List Token) → Bounded l d (λ g. d + guard_opens bare g 0) (guard_by (within x l d) e p k ts) (guard_by unbounded e p k ts)
  bounded_guard d e p (mark tk.open_bracket) ts = bounded_opened x l d (λ n ts. guard_from (within x l d) n e p (tail ts)) ts (bounded_guard_from d e p (tail ts))
  bounded_guard d e p k ts = bounded_gives None ts (omega arith)

  -- a formula opens as many, beside a, as are open behind `\A x \in S :`, if it is there, where d are open, and k at most before
  module _ (a d k : ℕ) (o : Option OverForm) (low : d ≤ k) (all : (n : ℕ) → max k (d + n) ≡ a + over_opens bare o n) (e : ℕ) where
    abbrev AreFair : ℕ → Reader FairForm → Reader FairForm → List Token → Type 0
    AreFair c f g ts = Bounded l c (λ y. a + fair_opens bare y) (f ts) (g ts)

    bounded_end : (n c : ℕ) (b : Place × Bool) (p : Place) (g : Option GuardForm) → n ≤ c
        → ((u : CallForm) → max c (n + call_opens bare u) ≡ a + over_opens bare o (1 + guard_opens bare g (call_opens bare u)))
        → (ts : List Token) → AreFair c (fair_end (within x l n) e o b p g) (fair_end unbounded e o b p g) ts
    bounded_end n c b p g m h ts =
        then_part m (bounded_call n e ts)
        (λ u us. then_token e (place_if (is_mark tk.close_bracket)) us
        (λ q vs. bounded_gives (record { over = o; at = b.0; strong = b.1; left = p; guard = g; action = u; right = q }) vs (h u)))

    behind_the_guard : (b : Place × Bool) (p : Place) (g : Option GuardForm) (ts : List Token)
        → AreFair (max (max k (suc d)) (suc d + guard_opens bare g 0)) (fair_end (behind_guard (within x l (suc d)) g) e o b p g) (fair_end (behind_guard unbounded g) e o b p g) ts
    behind_the_guard b p (Some g) = bounded_end (suc (suc d)) (max (max k (suc d)) (suc d + max (1 + bare g.test) (1 + 0))) b p (Some g) (omega arith)
        (λ u. (let h = all (1 + max (1 + bare g.test) (1 + call_opens bare u)) in omega (arith, h)))
    behind_the_guard b p None = bounded_end (suc d) (max (max k (suc d)) (suc d + 0)) b p None (omega arith) (λ u. (let h = all (1 + call_opens bare u) in omega (arith, h)))

    bounded_fair_with : (b : Place × Bool) (p : Place) (ts : List Token) → AreFair (max k (suc d)) (fair_with (within x l (suc d)) e o b p) (fair_with unbounded e o b p) ts
    bounded_fair_with b p ts = then_part (omega arith) (bounded_guard (suc d) e (next e ts).place (next e ts).kind ts) (λ g us. behind_the_guard b p g us)

    bounded_fair_from : (ts : List Token) → AreFair k (fair_from (within x l d) e o) (fair_from unbounded e o) ts
    bounded_fair_from ts = then_token e strong_of ts (λ b us. then_opening x l d e (place_if (is_mark tk.open_bracket)) us (λ p vs. bounded_fair_with b p vs))

  behind_all : (d e : ℕ) (o : Option OverForm) (ts : List Token)
      → Bounded l (d + over_opens bare o 0) (λ f. d + fair_opens bare f) (fair_from (behind_over (within x l d) o) e o ts) (fair_from (behind_over unbounded o) e o ts)
  behind_all d e (Some f) ts = bounded_fair_from d (suc d) (d + (1 + max (bare f.set) 0)) (Some f) (omega arith) (λ n. omega arith) e ts
  behind_all d e None ts = bounded_fair_from d d (d + 0) None (omega arith) (λ n. omega arith) e ts

  pub bounded_fair : (d e : ℕ) (ts : List Token) → Bounded l d (λ f. d + fair_opens bare f) (fair_in (within x l d) e ts) (fair_in unbounded e ts)
  bounded_fair d e ts = bounded_bind (bounded_over d e (next e ts).place (next e ts).kind ts) (λ o us. behind_all d e o us)

  -- ---- conjuncts of Spec

  bounded_start : (d : ℕ) (b : Bool) (p : Place) (ts : List Token) → Bounded l d (λ f. d + spec_opens bare f) (start_if b p ts) (start_if b p ts)
  bounded_start d true p ts = bounded_gives (start_line p) (tail ts) (omega arith)
  bounded_start d false p ts = bounded_refuses ts

  bounded_steps : (d e : ℕ) (p : Place) (ts : List Token) → Bounded l (suc d) (λ f. d + spec_opens bare f) (steps_from (within x l (suc d)) e p ts) (steps_from unbounded e p ts)
  bounded_steps d e p ts =
      then_opening x l (suc d) e (place_if (is_mark tk.open_square)) ts
      (λ q us. then_token e (place_if (is_title (codes "Next"))) us
      (λ s vs. then_token e (place_if (is_mark tk.close_square)) vs
      (λ t ws. then_token e (place_if (is_title (codes "_vars"))) ws
      (λ u zs. bounded_gives (steps_line p q s t u) zs (omega arith)))))

  bounded_line : (d e : ℕ) (ts : List Token)
      → Bounded l d (λ f. d + spec_opens bare f) ((fair_in (within x l d) e >>= λ f. gives (fair_line f)) ts) ((fair_in unbounded e >>= λ f. gives (fair_line f)) ts)
  bounded_line d e ts = bounded_bind (bounded_fair d e ts) (λ f us. bounded_gives (fair_line f) us refl)

  bounded_spec_by : (d e : ℕ) (p : Place) (k : TokenView) (ts : List Token) → Bounded l d (λ f. d + spec_opens bare f) (spec_by (within x l d) e p k ts) (spec_by unbounded e p k ts)
  bounded_spec_by d e p (tk.word y) ts = bounded_start d (bytes_eq y (codes "Init")) p ts
  bounded_spec_by d e p (mark tk.box) ts = bounded_opened x l d (λ n ts. steps_from n e p (tail ts)) ts (bounded_steps d e p (tail ts))
  bounded_spec_by d e p k ts = bounded_line d e ts

  pub bounded_spec : (d e : ℕ) (ts : List Token) → Bounded l d (λ f. d + spec_opens bare f) (spec_in (within x l d) e ts) (spec_in unbounded e ts)
  bounded_spec d e ts = bounded_spec_by d e (next e ts).place (next e ts).kind ts
