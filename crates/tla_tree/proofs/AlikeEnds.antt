-- A reader that ends well at the end of the tokens gives the same before a token, or goes past it.
use Rattle.std.proofs.Common.{◌≡◌, ℕ, ◌+◌, ◌≤◌, List, [], ◌∷◌, ◌++◌, length, Option, Some, None, Ok, Err, ◌⊎◌, inl, inr, refl, sym, ap, ◌∙◌, length-append, arith}
use Rattle.tla_token.specs.declared.place.Place.{Place}
use Rattle.tla_token.specs.Places.{nowhere}
use Rattle.tla_tree.specs.Lexical.{TokenView, Token, token}
use Rattle.tla_tree.specs.Lexical as tk
use Rattle.tla_tree.specs.Reader.{Out, Reader, then_read, ◌>>=◌, gives, refuses, next, peek, skip, took, take}
use Rattle.tla_tree.proofs.SoundTokens.{then_ok}
use Rattle.tla_tree.proofs.Alike.{rest_of, Within, Enough, IsFair, fair_gives, fair_refuses, fair_skip, fair_peek, fair_bind, fair_take, weaker, right_then}

abbrev pub GoesOn : {A : Type 0} → Token → List Token → Out A → Out A → Type 0
GoesOn t r (Ok x) q = (q ≡ Ok (x.0, x.1 ++ t ∷ r)) ⊎ ((x.1 ≡ []) × Within r q)
GoesOn t r (Err u) q = Unit {0}

pub record Ends {A : Type 0} (b : ℕ) (p q : Reader A) : Type 0 where
  pub fair : IsFair b p q
  pub ends : (k : List Token) (t : Token) (r : List Token) → Enough b k → GoesOn t r (p k) (q (k ++ t ∷ r))

pub less : {A : Type 0} {a b : ℕ} {p q : Reader A} → a ≤ b → Ends b p q → Ends a p q
less l h = record { fair = weaker l h.fair; ends = λ k t r m. h.ends k t r (omega (arith, l, m)) }

pub ends_gives : {A : Type 0} {b : ℕ} {a : A} → Ends b (gives a) (gives a)
ends_gives = record { fair = fair_gives; ends = λ k t r m. inl refl }

pub ends_refuses : {A : Type 0} {b : ℕ} → Ends b (refuses {A = A}) (refuses {A = A})
ends_refuses = record { fair = fair_refuses; ends = λ k t r m. tt }

-- nothing is left of nothing
nothing_left : (x v : List Token) → ◌≡◌ {A = List Token} [] (x ++ v) → ◌≡◌ {A = List Token} v []
nothing_left [] v d = sym d
nothing_left (y ∷ x) v d = absurd cc

-- at the end, and past t
pub past_end : {A : Type 0} (t : Token) (r : List Token) (o q : Out A) → Within [] o → Within r q → GoesOn t r o q
past_end t r (Ok (a, v)) q (x, d) w = inr (nothing_left x v d, w)
past_end t r (Err v) q w v2 = tt

module _ {A : Type 0} {b n : ℕ} {p q : Reader A} (l : b ≤ n + 4) (h : Ends n p q) where
  on_skip : (k : List Token) (t : Token) (r : List Token) → Enough b k → GoesOn t r (skip p k) (skip q (k ++ t ∷ r))
  on_skip [] t r m = past_end t r (p []) (q r) (h.fair.left []) (h.fair.right r)
  on_skip (x ∷ k) t r m = h.ends k t r (omega (arith, l, m))

  pub ends_skip : Ends b (skip p) (skip q)
  ends_skip = record { fair = fair_skip l h.fair; ends = on_skip }

-- what is done at the end of the tokens, and before a token
abbrev pub Settles : {A : Type 0} → ℕ → ℕ → (Place → TokenView → Reader A) → (Place → TokenView → Reader A) → Type 0
Settles b e f g = 4 ≤ b → (t : Token) (r : List Token) (p : Place) (k : TokenView) → next e (t ∷ r) ≡ token p k → GoesOn t r (f nowhere (tk.other []) []) (g p k (t ∷ r))

pub ends_peek : {A : Type 0} {b : ℕ} (e : ℕ) {f g : Place → TokenView → Reader A} → ((p : Place) (k : TokenView) → Ends b (f p k) (g p k)) → Settles b e f g → Ends b (peek e f) (peek e g)
ends_peek {A} {b} e {f} {g} h s = record { fair = fair_peek e (λ p k. (h p k).fair); ends = on }
  where
    on : (k : List Token) (t : Token) (r : List Token) → Enough b k → GoesOn t r (peek e f k) (peek e g (k ++ t ∷ r))
    on [] t r m = s (omega (arith, m)) t r (next e (t ∷ r)).place (next e (t ∷ r)).kind refl
    on (x ∷ k) t r m = (h (next e (x ∷ k)).place (next e (x ∷ k)).kind).ends (x ∷ k) t r m

module _ {A B : Type 0} {b : ℕ} {f g : A → Reader B} (h : (a : A) → Ends b (f a) (g a)) where
  on_then : (t : Token) (r : List Token) (k : List Token) → Enough b k → (o q : Out A) → Within k o → GoesOn t r o q → GoesOn t r (then_read o f) (then_read q g)
  on_then t r k m (Ok (a, u)) q w (inl e) = rw e ((h a).ends u t r (omega (arith, m, shorter)))
    where
      shorter : length u ≤ length k
      shorter = (let d = ap length w.1 in omega (arith, d, length-append w.0 u))
  on_then t r k m (Ok (a, u)) q w (inr (e, v)) = rw e (past_end t r (f a []) (then_read q g) ((h a).fair.left []) (right_then (λ a. (h a).fair) r q v))
  on_then t r k m (Err u) q w v = tt

pub ends_bind : {A B : Type 0} {b : ℕ} {p q : Reader A} {f g : A → Reader B} → Ends b p q → ((a : A) → Ends b (f a) (g a)) → Ends b (p >>= f) (q >>= g)
ends_bind {A} {B} {b} {p} {q} {f} {g} h i = record {
  fair = fair_bind h.fair (λ a. (i a).fair);
  ends = λ k t r m. on_then i t r k m (p k) (q (k ++ t ∷ r)) (h.fair.left k) (h.ends k t r m);
}

-- ---- a token of which f tells something, and then on
module _ {A B : Type 0} {b n : ℕ} {g i : A → Reader B} (l : b ≤ n + 4) (h : (a : A) → Ends n (g a) (i a)) where
  on_took : (o : Option A) (x : Token) (k : List Token) (t : Token) (r : List Token) → Enough b (x ∷ k) → GoesOn t r (then_read (took o (x ∷ k)) g) (then_read (took o (x ∷ (k ++ t ∷ r))) i)
  on_took (Some a) x k t r m = (h a).ends k t r (omega (arith, l, m))
  on_took None x k t r m = tt

  none_took : (o : Option A) → o ≡ None → (t : Token) (r : List Token) (q : Out B) → GoesOn t r (then_read (took o []) g) q
  none_took (Some a) e t r q = absurd cc
  none_took None e t r q = tt

  pub ends_take : (e : ℕ) (f : Place → TokenView → Option A) → f nowhere (tk.other []) ≡ None → Ends b (take e f >>= g) (take e f >>= i)
  ends_take e f none = record { fair = fair_take l (λ a. (h a).fair) e f; ends = on }
    where
      on : (k : List Token) (t : Token) (r : List Token) → Enough b k → GoesOn t r ((take e f >>= g) k) ((take e f >>= i) (k ++ t ∷ r))
      on [] t r m = none_took (f nowhere (tk.other [])) none t r ((take e f >>= i) (t ∷ r))
      on (x ∷ k) t r m = on_took (f (next e (x ∷ k)).place (next e (x ∷ k)).kind) x k t r m

-- ---- what is refused at the end of the tokens
abbrev pub Shut : {A : Type 0} → Reader A → Type 0
Shut {A} p = (x : A × List Token) → p [] ≡ Ok x → ⊥

pub shut_on : {A : Type 0} (p : Reader A) → Shut p → (t : Token) (r : List Token) (q : Out A) → GoesOn t r (p []) q
shut_on {A} p h t r q = by (p []) h
  where
    by : (o : Out A) → ((x : A × List Token) → o ≡ Ok x → ⊥) → GoesOn t r o q
    by (Ok x) h = absurd (h x refl)
    by (Err u) h = tt

pub shut_then : {A B : Type 0} (p : Reader A) (f : A → Reader B) → ((ts : List Token) → Within ts (p ts)) → ((a : A) → Shut (f a)) → Shut (p >>= f)
shut_then p f h g x o =
    let v = then_ok {o = p []} {f = f} o in
    let w = ap rest_of v.2 in
    let z = h [] in
    let none = nothing_left z.0 v.1 (z.1 ∙ ap (λ (u : List Token). z.0 ++ u) w) in
    g v.0 x (ap (λ (u : List Token). f v.0 u) (sym none) ∙ v.3)

pub shut_first : {A B : Type 0} (p : Reader A) (f : A → Reader B) → Shut p → Shut (p >>= f)
shut_first p f h x o = (let v = then_ok {o = p []} {f = f} o in h (v.0, v.1) v.2)
