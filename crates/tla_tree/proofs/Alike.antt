-- A reader looks no further than the token at which it stops, and the steps that it has left may differ: two readers of the same make
-- do the same before different rests, as long as both have enough steps.
use Rattle.std.proofs.Common.{◌≡◌, ℕ, ◌+◌, ◌*◌, ◌≤◌, List, [], ◌∷◌, ◌++◌, length, Option, Some, None, Ok, Err, ◌⊎◌, inl, inr, refl, sym, ap, ◌∙◌, append_assoc, arith}
use Rattle.tla_token.specs.declared.place.Place.{Place}
use Rattle.tla_tree.specs.Lexical.{TokenView, Token}
use Rattle.tla_tree.specs.Reader.{Out, Reader, then_read, ◌>>=◌, gives, refuses, too_deep, next, tail, peek, skip, took, take}

abbrev pub rest_of : {A : Type 0} → Out A → List Token
rest_of (Ok x) = x.1
rest_of (Err u) = u.1

-- what was left lies within r
abbrev pub Within : {A : Type 0} → List Token → Out A → Type 0
Within r o = (x : List Token) × (r ≡ x ++ rest_of o)

-- two runs that stopped at the same token t or before it, with no more before it than k
abbrev pub Stopped : {A : Type 0} → List Token → Token → List Token → List Token → Out A → Out A → Type 0
Stopped k t r s (Ok x) o = (j : List Token) × (length j ≤ length k) × (x.1 ≡ j ++ t ∷ r) × (o ≡ Ok (x.0, j ++ t ∷ s))
Stopped k t r s (Err u) o = (j : List Token) × (length j ≤ length k) × (u.1 ≡ j ++ t ∷ r) × (o ≡ Err (u.0, j ++ t ∷ s))

-- or both are past it
abbrev pub Alike : {A : Type 0} → List Token → Token → List Token → List Token → Out A → Out A → Type 0
Alike k t r s o q = Stopped k t r s o q ⊎ (Within r o × Within s q)

-- steps enough for the tokens before t
abbrev pub Enough : ℕ → List Token → Type 0
Enough b k = 4 + 4 * length k ≤ b

pub record IsFair {A : Type 0} (b : ℕ) (p q : Reader A) : Type 0 where
  pub left : (ts : List Token) → Within ts (p ts)
  pub right : (ts : List Token) → Within ts (q ts)
  pub alike : (k : List Token) (t : Token) (r s : List Token) → Enough b k → Alike k t r s (p (k ++ t ∷ r)) (q (k ++ t ∷ s))

pub weaker : {A : Type 0} {a b : ℕ} {p q : Reader A} → a ≤ b → IsFair b p q → IsFair a p q
weaker l h = record { left = h.left; right = h.right; alike = λ k t r s n. h.alike k t r s (omega (arith, l, n)) }

pub fair_gives : {A : Type 0} {b : ℕ} {a : A} → IsFair b (gives a) (gives a)
fair_gives = record {
  left = λ ts. ([], refl);
  right = λ ts. ([], refl);
  alike = λ k t r s n. inl (k, omega arith, refl, refl);
}

pub fair_refuses : {A : Type 0} {b : ℕ} → IsFair b (refuses {A = A}) (refuses {A = A})
fair_refuses = record {
  left = λ ts. ([], refl);
  right = λ ts. ([], refl);
  alike = λ k t r s n. inl (k, omega arith, refl, refl);
}

pub fair_too_deep : {A : Type 0} {b : ℕ} → IsFair b (too_deep {A = A}) (too_deep {A = A})
fair_too_deep = record {
  left = λ ts. ([], refl);
  right = λ ts. ([], refl);
  alike = λ k t r s n. inl (k, omega arith, refl, refl);
}

-- ---- past a token
within_tail : {A : Type 0} (p : Reader A) → ((ts : List Token) → Within ts (p ts)) → (ts : List Token) → Within ts (p (tail ts))
within_tail p h [] = h []
within_tail p h (t ∷ ts) = (let w = h ts in (t ∷ w.0, ap (λ (u : List Token). t ∷ u) w.1))

longer : {A : Type 0} (j k : List Token) (t : Token) (r s : List Token) (o q : Out A) → length j ≤ length k → Alike j t r s o q → Alike k t r s o q
longer j k t r s (Ok x) q l (inl (i, m, e, d)) = inl (i, omega (arith, l, m), e, d)
longer j k t r s (Err u) q l (inl (i, m, e, d)) = inl (i, omega (arith, l, m), e, d)
longer j k t r s o q l (inr w) = inr w

module _ {A : Type 0} {b n : ℕ} {p q : Reader A} (l : b ≤ n + 4) (h : IsFair n p q) where
  alike_skip : (k : List Token) (t : Token) (r s : List Token) → Enough b k → Alike k t r s (skip p (k ++ t ∷ r)) (skip q (k ++ t ∷ s))
  alike_skip [] t r s m = inr (h.left r, h.right s)
  alike_skip (x ∷ k) t r s m = longer k (x ∷ k) t r s (p (k ++ t ∷ r)) (q (k ++ t ∷ s)) (omega arith) (h.alike k t r s (omega (arith, l, m)))

  pub fair_skip : IsFair b (skip p) (skip q)
  fair_skip = record { left = within_tail p h.left; right = within_tail q h.right; alike = alike_skip }

-- ---- by the next token
pub fair_peek : {A : Type 0} {b : ℕ} (e : ℕ) {f g : Place → TokenView → Reader A} → ((p : Place) (k : TokenView) → IsFair b (f p k) (g p k)) → IsFair b (peek e f) (peek e g)
fair_peek {A} {b} e {f} {g} h = record {
  left = λ ts. (h (next e ts).place (next e ts).kind).left ts;
  right = λ ts. (h (next e ts).place (next e ts).kind).right ts;
  alike = both;
}
  where
    both : (k : List Token) (t : Token) (r s : List Token) → Enough b k → Alike k t r s (peek e f (k ++ t ∷ r)) (peek e g (k ++ t ∷ s))
    both [] t r s m = (h (next e (t ∷ r)).place (next e (t ∷ r)).kind).alike [] t r s m
    both (x ∷ k) t r s m = (h (next e (x ∷ (k ++ t ∷ r))).place (next e (x ∷ (k ++ t ∷ r))).kind).alike (x ∷ k) t r s m

-- ---- one after the other
module _ {A B : Type 0} {b : ℕ} {f g : A → Reader B} (h : (a : A) → IsFair b (f a) (g a)) where
  pub left_then : (r : List Token) (o : Out A) → Within r o → Within r (then_read o f)
  left_then r (Ok (a, u)) (x, e) = (let w = (h a).left u in (x ++ w.0, e ∙ ap (λ (v : List Token). x ++ v) w.1 ∙ sym (append_assoc x w.0 (rest_of (f a u)))))
  left_then r (Err u) w = w

  pub right_then : (r : List Token) (o : Out A) → Within r o → Within r (then_read o g)
  right_then r (Ok (a, u)) (x, e) = (let w = (h a).right u in (x ++ w.0, e ∙ ap (λ (v : List Token). x ++ v) w.1 ∙ sym (append_assoc x w.0 (rest_of (g a u)))))
  right_then r (Err u) w = w

  alike_then : (k : List Token) (t : Token) (r s : List Token) → Enough b k → (o q : Out A) → Alike k t r s o q → Alike k t r s (then_read o f) (then_read q g)
  alike_then k t r s m (Ok (a, u)) q (inl (j, l, e, d)) = rw (d, e) (longer j k t r s (f a (j ++ t ∷ r)) (g a (j ++ t ∷ s)) l ((h a).alike j t r s (omega (arith, l, m))))
  alike_then k t r s m (Err u) q (inl (j, l, e, d)) = rw d (inl (j, l, e, refl))
  alike_then k t r s m o q (inr (w, v)) = inr (left_then r o w, right_then s q v)

pub fair_bind : {A B : Type 0} {b : ℕ} {p q : Reader A} {f g : A → Reader B} → IsFair b p q → ((a : A) → IsFair b (f a) (g a)) → IsFair b (p >>= f) (q >>= g)
fair_bind {A} {B} {b} {p} {q} {f} {g} h i = record {
  left = λ ts. left_then i ts (p ts) (h.left ts);
  right = λ ts. right_then i ts (q ts) (h.right ts);
  alike = λ k t r s m. alike_then i k t r s m (p (k ++ t ∷ r)) (q (k ++ t ∷ s)) (h.alike k t r s m);
}

-- ---- a token of which f tells something, and then on
module _ {A B : Type 0} {b n : ℕ} {g i : A → Reader B} (l : b ≤ n + 4) (h : (a : A) → IsFair n (g a) (i a)) where
  left_took : (o : Option A) (ts : List Token) → Within ts (then_read (took o ts) g)
  left_took (Some a) ts = within_tail (g a) (h a).left ts
  left_took None ts = ([], refl)

  right_took : (o : Option A) (ts : List Token) → Within ts (then_read (took o ts) i)
  right_took (Some a) ts = within_tail (i a) (h a).right ts
  right_took None ts = ([], refl)

  alike_took : (o : Option A) (k : List Token) (t : Token) (r s : List Token) → Enough b k → Alike k t r s (then_read (took o (k ++ t ∷ r)) g) (then_read (took o (k ++ t ∷ s)) i)
  alike_took (Some a) k t r s m = alike_skip l (h a) k t r s m
  alike_took None k t r s m = inl (k, omega arith, refl, refl)

  alike_take : (e : ℕ) (f : Place → TokenView → Option A) (k : List Token) (t : Token) (r s : List Token) → Enough b k → Alike k t r s ((take e f >>= g) (k ++ t ∷ r)) ((take e f >>= i) (k ++ t ∷ s))
  alike_take e f [] t r s m = alike_took (f (next e (t ∷ r)).place (next e (t ∷ r)).kind) [] t r s m
  alike_take e f (x ∷ k) t r s m = alike_took (f (next e (x ∷ (k ++ t ∷ r))).place (next e (x ∷ (k ++ t ∷ r))).kind) (x ∷ k) t r s m

  pub fair_take : (e : ℕ) (f : Place → TokenView → Option A) → IsFair b (take e f >>= g) (take e f >>= i)
  fair_take e f = record {
    left = λ ts. left_took (f (next e ts).place (next e ts).kind) ts;
    right = λ ts. right_took (f (next e ts).place (next e ts).kind) ts;
    alike = alike_take e f;
  }
