-- Reading within a limit: behind `{x \\in` and `[x \\in`, and all that is in braces and square brackets.
use Rattle.std.proofs.Common.{◌≡◌, ℕ, suc, ◌+◌, ◌≤◌, Bool, true, false, ◌||◌, not, List, ◌∷◌, length, Option, Some, None, refl, arith}
use Rattle.tla_token.specs.declared.place.Place.{Place}
use Rattle.tla_tree.specs.declared.op.Op.TheVariants as op
use Rattle.tla_tree.specs.Tree.{Word}
use Rattle.tla_tree.specs.Lexical.{TokenView, Token, token}
use Rattle.tla_tree.specs.Lexical as tk
use Rattle.tla_tree.specs.Spelling.{Phrase, no_set, set_of, filter, last, last_bind}
use Rattle.tla_tree.specs.Nesting.{counts_in}
use Rattle.tla_tree.specs.Reader.{Out, ◌>>=◌, ended, any, Room, next, tail, peek, skip, is_mark, is_key, if_fits, free, Readers, element, set_rest, set_from, member_rest, brace_name, braces, function_rest, square_rest, square_from, bind_rest, square_member, plain_field, square_name, squares}
use Rattle.tla_tree.proofs.SpellAhead.{Ahead, held, put_ahead, then_ahead}
use Rattle.tla_tree.proofs.DeepCounts.{deep_fewer}
use Rattle.tla_tree.proofs.SoundTokens.{seen}
use Rattle.tla_tree.proofs.Limited.{Fitting, Late, Limited, On, late_more, limited_bind, limited_gives, limited_refuses, limited_as, limited_next, limited_skip, limited_past}
use Rattle.tla_tree.proofs.LimitedRooms.{BothFit, BothLate, AreLimited, PhraseFits, IsRoom, dead_late, fitting_less}
use Rattle.tla_tree.proofs.LimitedBraces.{limited_from, limited_set_more, limited_set, limited_brace, limited_filter, limited_value, limited_function, limited_arrow, limited_except, limited_square, limited_field_rest, limited_bind_more, limited_bind_rest}

module _ (linked l : Bool) (b k : ℕ) (m : Room) (r q : Readers) (h : AreLimited linked l b (k + 1) r q) (v : IsRoom linked l b (k + 1) m q) (x : List ℕ → List ℕ) (ax : Ahead x) where
  -- after the bracket
  abbrev inside : List ℕ → List ℕ
  inside u = x ((k + 1) ∷ u)

  abbrev ahead_inside : Ahead inside
  ahead_inside = then_ahead ax (put_ahead held)

  -- the form, with what was put before it
  abbrev Fits : Phrase → Type 0
  Fits d = Fitting l b (λ u. x (counts_in linked k d u))

  abbrev IsLate : Phrase → ℕ → ℕ → Type 0
  IsLate d = Late b (λ u. x (counts_in linked k d u))

  here : k + 1 ≡ (k + 1) + 0
  here = omega arith

  -- a set with a count that is too great, before a token more
  dead : (x : List ℕ → List ℕ) → Ahead x → (a : Phrase) (n : ℕ) → PhraseFits linked l b (k + 1) a false → (j t : ℕ) → j ≤ t → Late b (λ u. x (counts_in linked (k + 1) a (n ∷ u))) j t
  dead x ax a n d j t i = dead_late b x ax (λ u. counts_in linked (k + 1) a (n ∷ u)) (λ u. deep_fewer b (counts_in linked (k + 1) a (n ∷ u)) (suc (length u)) (length u) (omega arith) (d (n ∷ u))) j t i

  -- ---- braces
  member_colon : (e : ℕ) (p s : Place) (y : Word) (t : Place) (a : Phrase) (w : Place) (ts : List Token) → next e ts ≡ token w (tk.mark tk.colon)
      → Limited (BothFit linked l b (k + 1) s y t inside a) (BothLate linked b (k + 1) s y t inside a) Fits IsLate ts (member_rest m r e p s y t a w (tk.mark tk.colon) ts) (member_rest (any q) q e p s y t a w (tk.mark tk.colon) ts)
  member_colon e p s y t a w ts i = by (m.fits 0 a) (v.fits 0 (k + 1) (λ z. here) h.low a)
    where
      by : (f : Bool) → PhraseFits linked l b (k + 1) a f → Limited (BothFit linked l b (k + 1) s y t inside a) (BothLate linked b (k + 1) s y t inside a) Fits IsLate ts
          (if_fits f (skip (r.expr e free >>= λ c. ended e tk.close_brace (λ z. filter p s y t a w c z))) ts) (skip (q.expr e free >>= λ c. ended e tk.close_brace (λ z. filter p s y t a w c z)) ts)
      by true fit = limited_next (seen e ts w (tk.mark tk.colon) i refl).1 (λ g. λ e' u i. g.0 e' ((k + 1) ∷ (k + 1) ∷ counts_in linked (k + 1) a ((k + 1) ∷ u)) (h.low e', (h.low e', fit e' ((k + 1) ∷ u) (h.low e', i)))) (λ j g. late_more b (λ u. x ((k + 1) ∷ (k + 1) ∷ (k + 1) ∷ counts_in linked (k + 1) a u)) (k + 1) j (length (tail ts)) g.0)
          (limited_filter linked l b k r q h x ax e p s y t a w (tail ts))
      by false d = limited_past (seen e ts w (tk.mark tk.colon) i refl).1 (λ j g. late_more b (λ u. x ((k + 1) ∷ (k + 1) ∷ (k + 1) ∷ counts_in linked (k + 1) a u)) (k + 1) j (length (tail ts)) g.0) (dead (λ u. x ((k + 1) ∷ (k + 1) ∷ (k + 1) ∷ u)) (then_ahead ax (put_ahead (put_ahead (put_ahead held)))) a (k + 1) d (length (tail ts)) (length (tail ts)) (omega arith))
          (limited_filter linked false b k q q (v.unlimited (k + 1)) x ax e p s y t a w (tail ts))

  -- as an element
  set_at : (e : ℕ) (p s : Place) (y : Word) (t : Place) (a c : Phrase) → element s y t a ≡ Some c → (w : Place) (o : TokenView) (ts : List Token) → next e ts ≡ token w o
      → Limited (BothFit linked l b (k + 1) s y t inside a) (BothLate linked b (k + 1) s y t inside a) Fits IsLate ts (if_fits (m.fits 0 c || not (is_mark tk.comma o || is_mark tk.close_brace o)) (set_rest r e p c w o) ts) (set_rest q e p c w o ts)
  set_at e p s y t a c ci w (tk.mark tk.comma) ts i = by (m.fits 0 c) (v.fits 0 (k + 1) (λ z. here) h.low c)
    where
      by : (f : Bool) → PhraseFits linked l b (k + 1) c f → Limited (BothFit linked l b (k + 1) s y t inside a) (BothLate linked b (k + 1) s y t inside a) Fits IsLate ts (if_fits (f || false) (set_rest r e p c w (tk.mark tk.comma)) ts) (set_rest q e p c w (tk.mark tk.comma) ts)
      by true fit = limited_as (λ g. λ e' u i. g.0 e' (counts_in linked (k + 1) c u) (fit e' u i)) (λ j t g. g.1 c ci) (λ d f g. g) (λ d us i j g. g) (limited_set linked l b k r q h x ax e p c w (tk.mark tk.comma) ts i)
      by false d = limited_past (seen e ts w (tk.mark tk.comma) i refl).1 (λ j g. late_more b (λ u. inside (counts_in linked (k + 1) c u)) (k + 1) j (length (tail ts)) (g.1 c ci)) (dead inside ahead_inside c (k + 1) d (length (tail ts)) (length (tail ts)) (omega arith))
          (limited_set_more linked false b k q q (v.unlimited (k + 1)) x ax e p c w (tail ts))
  set_at e p s y t a c ci w (tk.mark tk.close_brace) ts i = by (m.fits 0 c) (v.fits 0 (k + 1) (λ z. here) h.low c)
    where
      by : (f : Bool) → PhraseFits linked l b (k + 1) c f → Limited (BothFit linked l b (k + 1) s y t inside a) (BothLate linked b (k + 1) s y t inside a) Fits IsLate ts (if_fits (f || false) (set_rest r e p c w (tk.mark tk.close_brace)) ts) (set_rest q e p c w (tk.mark tk.close_brace) ts)
      by true fit = limited_as (λ g. λ e' u i. g.0 e' (counts_in linked (k + 1) c u) (fit e' u i)) (λ j t g. g.1 c ci) (λ d f g. g) (λ d us i j g. g) (limited_set linked l b k r q h x ax e p c w (tk.mark tk.close_brace) ts i)
      by false d = rw i (limited_past (seen e ts w (tk.mark tk.close_brace) i refl).1 (λ j g. late_more b (λ u. inside (counts_in linked (k + 1) c u)) (k + 1) j (length (tail ts)) (g.1 c ci)) (dead inside ahead_inside c (k + 1) d (length (tail ts)) (length (tail ts)) (omega arith))
          (limited_gives {G = λ d. Fitting false b (λ u. x (counts_in linked k d u))} {M = IsLate} (set_of p (last c) w) (tail ts)))
  set_at e p s y t a c ci w o ts i = by (m.fits 0 c)
    where
      by : (f : Bool) → Limited (BothFit linked l b (k + 1) s y t inside a) (BothLate linked b (k + 1) s y t inside a) Fits IsLate ts (if_fits (f || true) (set_rest r e p c w o) ts) (set_rest q e p c w o ts)
      by true = rw i (limited_refuses ts)
      by false = rw i (limited_refuses ts)

  limited_set_from : (e : ℕ) (p s : Place) (y : Word) (t : Place) (a : Phrase) (ts : List Token)
      → Limited (BothFit linked l b (k + 1) s y t inside a) (BothLate linked b (k + 1) s y t inside a) Fits IsLate ts (set_from m r e p (element s y t a) ts) (set_from (any q) q e p (element s y t a) ts)
  limited_set_from e p s y t a ts = by (element s y t a) refl
    where
      by : (c : Option Phrase) → element s y t a ≡ c → Limited (BothFit linked l b (k + 1) s y t inside a) (BothLate linked b (k + 1) s y t inside a) Fits IsLate ts (set_from m r e p c ts) (set_from (any q) q e p c ts)
      by (Some c) i = set_at e p s y t a c i (next e ts).place (next e ts).kind ts refl
      by None i = limited_refuses ts

  limited_member : (e : ℕ) (p s : Place) (y : Word) (t : Place) (a : Phrase) (w : Place) (o : TokenView) (ts : List Token) → next e ts ≡ token w o
      → Limited (BothFit linked l b (k + 1) s y t inside a) (BothLate linked b (k + 1) s y t inside a) Fits IsLate ts (member_rest m r e p s y t a w o ts) (member_rest (any q) q e p s y t a w o ts)
  limited_member e p s y t a w (tk.mark tk.colon) ts i = member_colon e p s y t a w ts i
  limited_member e p s y t a w o ts i = limited_set_from e p s y t a ts

  limited_brace_name : (e : ℕ) (p s : Place) (y : Word) (t : Place) (o : TokenView) (ts : List Token) → next e ts ≡ token t o → On l b (λ u. inside ((k + 1) ∷ u)) (λ d u. x (counts_in linked k d u)) ts (brace_name m r e p s y t o ts) (brace_name (any q) q e p s y t o ts)
  limited_brace_name e p s y t (tk.sign op.In) ts i =
      let n = seen e ts t (tk.sign op.In) i refl in
      limited_next n.1 (fitting_less l b inside ahead_inside (k + 1)) (λ j g. (late_more b (λ u. inside ((k + 1) ∷ u)) (k + 1) j (length (tail ts)) g, late_more b (λ u. inside ((k + 1) ∷ u)) ((k + 1) + 0 + 1) j (length (tail ts)) g))
      (limited_bind (h.set e s y t inside ahead_inside (tail ts)) (λ a us j. limited_member e p s y t a (next e us).place (next e us).kind us refl))
  limited_brace_name e p s y t o ts i =
      limited_bind (limited_from linked l b (k + 1) m r q h v e s y inside ahead_inside ts)
      (λ a us j. limited_bind (h.climb e free refl a inside ahead_inside us)
      (λ c ws j. limited_brace linked l b k r q h x ax e p c (next e ws).place (next e ws).kind ws refl))

  pub limited_braces : (e : ℕ) (p s : Place) (o : TokenView) (ts : List Token) → next e ts ≡ token s o → On l b inside (λ d u. x (counts_in linked k d u)) ts (braces m r e p s o ts) (braces (any q) q e p s o ts)
  limited_braces e p s (tk.mark tk.close_brace) ts i = (let n = seen e ts s (tk.mark tk.close_brace) i refl in limited_skip l b inside (k + 1) n.1 h.low (limited_gives (no_set p s) (tail ts)))
  limited_braces e p s (tk.word y) ts i = (let n = seen e ts s (tk.word y) i refl in limited_skip l b inside (k + 1) n.1 h.low (limited_brace_name e p s y (next e (tail ts)).place (next e (tail ts)).kind (tail ts) refl))
  limited_braces e p s o ts i = limited_bind (h.expr e free refl inside ahead_inside ts) (λ a us j. limited_brace linked l b k r q h x ax e p a (next e us).place (next e us).kind us refl)

  -- ---- squares
  abbrev AtMember : Place → Word → Place → Phrase → (ts : List Token) → Out Phrase → Out Phrase → Type 0
  AtMember s y t a ts o o' = Limited (BothFit linked l b (k + 1) s y t inside a) (BothLate linked b (k + 1) s y t inside a) Fits IsLate ts o o'

  -- the set, before a token more
  as_set : (j : ℕ) (us : List Token) (s : Place) (y : Word) (t : Place) (a : Phrase) → BothLate linked b (k + 1) s y t inside a j (suc (length us)) → Late b (λ u. x ((k + 1) ∷ (k + 1) ∷ (k + 1) ∷ counts_in linked (k + 1) a ((k + 1) ∷ u))) j (length us)
  as_set j us s y t a g = late_more b (λ u. x ((k + 1) ∷ (k + 1) ∷ (k + 1) ∷ counts_in linked (k + 1) a u)) (k + 1) j (length us) g.0

  dead_set : (a : Phrase) → PhraseFits linked l b (k + 1) a false → (n : ℕ) → Late b (λ u. x ((k + 1) ∷ (k + 1) ∷ (k + 1) ∷ counts_in linked (k + 1) a ((k + 1) ∷ u))) n n
  dead_set a d n = dead (λ u. x ((k + 1) ∷ (k + 1) ∷ (k + 1) ∷ u)) (then_ahead ax (put_ahead (put_ahead (put_ahead held)))) a (k + 1) d n n (omega arith)

  fit_set : (s : Place) (y : Word) (t : Place) (a : Phrase) → PhraseFits linked l b (k + 1) a true → BothFit linked l b (k + 1) s y t inside a → Fitting l b (λ u. x ((k + 1) ∷ (k + 1) ∷ (k + 1) ∷ counts_in linked (k + 1) a u))
  fit_set s y t a fit g = λ e' u i. g.0 e' ((k + 1) ∷ (k + 1) ∷ counts_in linked (k + 1) a u) (h.low e', (h.low e', fit e' u i))

  member_maps : (e : ℕ) (p s : Place) (y : Word) (t : Place) (a : Phrase) (w : Place) (ts : List Token) → next e ts ≡ token w (tk.mark tk.maps)
      → AtMember s y t a ts (square_member m r e p s y t a w (tk.mark tk.maps) ts) (square_member (any q) q e p s y t a w (tk.mark tk.maps) ts)
  member_maps e p s y t a w ts i = by (m.fits 0 a) (v.fits 0 (k + 1) (λ z. here) h.low a)
    where
      by : (f : Bool) → PhraseFits linked l b (k + 1) a f → AtMember s y t a ts (if_fits f (function_rest r e p (last_bind s y t a)) ts) (function_rest q e p (last_bind s y t a) ts)
      by true fit = limited_as (fit_set s y t a fit) (λ j t g. g.0) (λ d f g. g) (λ d us i j g. g) (limited_function linked l b k r q h x ax e p (last_bind s y t a) ts)
      by false d = rw i (limited_past (seen e ts w (tk.mark tk.maps) i refl).1 (λ j g. as_set j (tail ts) s y t a g) (dead_set a d (length (tail ts))) (limited_value linked false b k q q (v.unlimited (k + 1)) x ax e p (last_bind s y t a) w (tail ts)))

  member_comma : (e : ℕ) (p s : Place) (y : Word) (t : Place) (a : Phrase) (w : Place) (ts : List Token) → next e ts ≡ token w (tk.mark tk.comma)
      → AtMember s y t a ts (square_member m r e p s y t a w (tk.mark tk.comma) ts) (square_member (any q) q e p s y t a w (tk.mark tk.comma) ts)
  member_comma e p s y t a w ts i = by (m.fits 0 a) (v.fits 0 (k + 1) (λ z. here) h.low a)
    where
      by : (f : Bool) → PhraseFits linked l b (k + 1) a f → AtMember s y t a ts (if_fits f (peek e (bind_rest r e s y t a) >>= λ bs. function_rest r e p bs) ts) ((peek e (bind_rest q e s y t a) >>= λ bs. function_rest q e p bs) ts)
      by true fit = limited_as (fit_set s y t a fit) (λ j t g. g.0) (λ d f g. g) (λ d us i j g. g)
          (limited_bind (limited_bind_rest linked l b (k + 1) r q h inside ahead_inside e s y t a (next e ts).place (next e ts).kind ts refl) (λ bs us j. limited_function linked l b k r q h x ax e p bs us))
      by false d = rw i (limited_past (seen e ts w (tk.mark tk.comma) i refl).1 (λ j g. as_set j (tail ts) s y t a g) (dead_set a d (length (tail ts)))
          (limited_bind (limited_bind_more linked false b (k + 1) q q (v.unlimited (k + 1)) inside ahead_inside e s y t a w (tail ts)) (λ bs us j. limited_function linked false b k q q (v.unlimited (k + 1)) x ax e p bs us)))

  as_element : (j : ℕ) (us : List Token) (s : Place) (y : Word) (t : Place) (a c : Phrase) → element s y t a ≡ Some c → BothLate linked b (k + 1) s y t inside a j (suc (length us)) → Late b (λ u. inside (counts_in linked (k + 1) c ((k + 1) ∷ u))) j (length us)
  as_element j us s y t a c i g = late_more b (λ u. inside (counts_in linked (k + 1) c u)) (k + 1) j (length us) (g.1 c i)

  square_at : (e : ℕ) (p s : Place) (y : Word) (t : Place) (a c : Phrase) → element s y t a ≡ Some c → (w : Place) (o : TokenView) (ts : List Token) → next e ts ≡ token w o
      → AtMember s y t a ts (if_fits (m.fits 0 c || not (is_mark tk.arrow o || is_key tk.except_key o)) (square_rest r e p c w o) ts) (square_rest q e p c w o ts)
  square_at e p s y t a c ci w (tk.mark tk.arrow) ts i = by (m.fits 0 c) (v.fits 0 (k + 1) (λ z. here) h.low c)
    where
      by : (f : Bool) → PhraseFits linked l b (k + 1) c f → AtMember s y t a ts (if_fits (f || false) (square_rest r e p c w (tk.mark tk.arrow)) ts) (square_rest q e p c w (tk.mark tk.arrow) ts)
      by true fit = limited_as (λ g. λ e' u i. g.0 e' (counts_in linked (k + 1) c u) (fit e' u i)) (λ j t g. g.1 c ci) (λ d f g. g) (λ d us i j g. g) (limited_square linked l b k r q h x ax e p c w (tk.mark tk.arrow) ts i)
      by false d = limited_past (seen e ts w (tk.mark tk.arrow) i refl).1 (λ j g. as_element j (tail ts) s y t a c ci g) (dead inside ahead_inside c (k + 1) d (length (tail ts)) (length (tail ts)) (omega arith))
          (limited_arrow linked false b k q q (v.unlimited (k + 1)) x ax e p c w (tail ts))
  square_at e p s y t a c ci w (tk.key tk.except_key) ts i = by (m.fits 0 c) (v.fits 0 (k + 1) (λ z. here) h.low c)
    where
      by : (f : Bool) → PhraseFits linked l b (k + 1) c f → AtMember s y t a ts (if_fits (f || false) (square_rest r e p c w (tk.key tk.except_key)) ts) (square_rest q e p c w (tk.key tk.except_key) ts)
      by true fit = limited_as (λ g. λ e' u i. g.0 e' (counts_in linked (k + 1) c u) (fit e' u i)) (λ j t g. g.1 c ci) (λ d f g. g) (λ d us i j g. g) (limited_square linked l b k r q h x ax e p c w (tk.key tk.except_key) ts i)
      by false d = limited_past (seen e ts w (tk.key tk.except_key) i refl).1 (λ j g. as_element j (tail ts) s y t a c ci g) (dead inside ahead_inside c (k + 1) d (length (tail ts)) (length (tail ts)) (omega arith))
          (limited_except linked false b k q q (v.unlimited (k + 1)) x ax e p c w (tail ts))
  square_at e p s y t a c ci w o ts i = by (m.fits 0 c)
    where
      by : (f : Bool) → AtMember s y t a ts (if_fits (f || true) (square_rest r e p c w o) ts) (square_rest q e p c w o ts)
      by true = limited_refuses ts
      by false = limited_refuses ts

  limited_square_from : (e : ℕ) (p s : Place) (y : Word) (t : Place) (a : Phrase) (ts : List Token) → AtMember s y t a ts (square_from m r e p (element s y t a) ts) (square_from (any q) q e p (element s y t a) ts)
  limited_square_from e p s y t a ts = by (element s y t a) refl
    where
      by : (c : Option Phrase) → element s y t a ≡ c → AtMember s y t a ts (square_from m r e p c ts) (square_from (any q) q e p c ts)
      by (Some c) i = square_at e p s y t a c i (next e ts).place (next e ts).kind ts refl
      by None i = limited_refuses ts

  limited_square_member : (e : ℕ) (p s : Place) (y : Word) (t : Place) (a : Phrase) (w : Place) (o : TokenView) (ts : List Token) → next e ts ≡ token w o
      → AtMember s y t a ts (square_member m r e p s y t a w o ts) (square_member (any q) q e p s y t a w o ts)
  limited_square_member e p s y t a w (tk.mark tk.maps) ts i = member_maps e p s y t a w ts i
  limited_square_member e p s y t a w (tk.mark tk.comma) ts i = member_comma e p s y t a w ts i
  limited_square_member e p s y t a w o ts i = limited_square_from e p s y t a ts

  limited_square_name : (e : ℕ) (p s : Place) (y : Word) (t : Place) (o : TokenView) (ts : List Token) → next e ts ≡ token t o → On l b (λ u. inside ((k + 1) ∷ u)) (λ d u. x (counts_in linked k d u)) ts (square_name m r e p s y t o ts) (square_name (any q) q e p s y t o ts)
  limited_square_name e p s y t (tk.mark tk.maps) ts i = limited_field_rest linked l b k r q h x ax e p (plain_field s y) t (tk.mark tk.maps) ts
  limited_square_name e p s y t (tk.mark tk.colon) ts i = limited_field_rest linked l b k r q h x ax e p (plain_field s y) t (tk.mark tk.colon) ts
  limited_square_name e p s y t (tk.mark tk.comma) ts i = limited_bind (h.binds e s y inside ahead_inside ts) (λ bs us j. limited_function linked l b k r q h x ax e p bs us)
  limited_square_name e p s y t (tk.sign op.In) ts i =
      let n = seen e ts t (tk.sign op.In) i refl in
      limited_next n.1 (fitting_less l b inside ahead_inside (k + 1)) (λ j g. (late_more b (λ u. inside ((k + 1) ∷ u)) (k + 1) j (length (tail ts)) g, late_more b (λ u. inside ((k + 1) ∷ u)) ((k + 1) + 0 + 1) j (length (tail ts)) g))
      (limited_bind (h.set e s y t inside ahead_inside (tail ts)) (λ a us j. limited_square_member e p s y t a (next e us).place (next e us).kind us refl))
  limited_square_name e p s y t o ts i =
      limited_bind (limited_from linked l b (k + 1) m r q h v e s y inside ahead_inside ts)
      (λ a us j. limited_bind (h.climb e free refl a inside ahead_inside us)
      (λ c ws j. limited_square linked l b k r q h x ax e p c (next e ws).place (next e ws).kind ws refl))

  pub limited_squares : (e : ℕ) (p s : Place) (o : TokenView) (ts : List Token) → next e ts ≡ token s o → On l b inside (λ d u. x (counts_in linked k d u)) ts (squares m r e p s o ts) (squares (any q) q e p s o ts)
  limited_squares e p s (tk.reserved y) ts i =
      let n = seen e ts s (tk.reserved y) i refl in
      limited_skip l b inside (k + 1) n.1 h.low (limited_field_rest linked l b k r q h x ax e p (record { place = s; is_reserved = true; text = y }) (next e (tail ts)).place (next e (tail ts)).kind (tail ts))
  limited_squares e p s (tk.word y) ts i = (let n = seen e ts s (tk.word y) i refl in limited_skip l b inside (k + 1) n.1 h.low (limited_square_name e p s y (next e (tail ts)).place (next e (tail ts)).kind (tail ts) refl))
  limited_squares e p s o ts i = limited_bind (h.expr e free refl inside ahead_inside ts) (λ a us j. limited_square linked l b k r q h x ax e p a (next e us).place (next e us).kind us refl)
