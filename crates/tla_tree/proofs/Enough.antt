-- Two readers that do the same of so few tokens as both have steps for, and of which the first leaves no more tokens than it was given.
use Rattle.std.proofs.Common.{◌≡◌, ℕ, ◌+◌, ◌*◌, ◌≤◌, Bool, true, false, List, [], ◌∷◌, length, Option, Some, None, Ok, Err, refl, ap, ◌∙◌, arith}
use Rattle.tla_token.specs.declared.place.Place.{Place}
use Rattle.tla_tree.specs.Lexical.{TokenView, Token}
use Rattle.tla_tree.specs.Reader.{Out, Reader, then_read, ◌>>=◌, gives, refuses, too_deep, if_fits, next, peek, skip, took, take}
use Rattle.tla_tree.proofs.Alike.{rest_of}

pub record IsFair {A : Type 0} (b : ℕ) (p q : Reader A) : Type 0 where
  pub less : (ts : List Token) → length (rest_of (p ts)) ≤ length ts
  pub same : (ts : List Token) → 4 * length ts ≤ b → p ts ≡ q ts

pub weaker : {A : Type 0} {a b : ℕ} {p q : Reader A} → a ≤ b → IsFair b p q → IsFair a p q
weaker l h = record { less = h.less; same = λ ts m. h.same ts (omega (arith, l, m)) }

pub fair_gives : {A : Type 0} {b : ℕ} {a : A} → IsFair b (gives a) (gives a)
fair_gives = record { less = λ ts. omega arith; same = λ ts m. refl }

pub fair_refuses : {A : Type 0} {b : ℕ} → IsFair b (refuses {A = A}) (refuses {A = A})
fair_refuses = record { less = λ ts. omega arith; same = λ ts m. refl }

pub fair_deep : {A : Type 0} {b : ℕ} → IsFair b (too_deep {A = A}) (too_deep {A = A})
fair_deep = record { less = λ ts. omega arith; same = λ ts m. refl }

fair_if : {A : Type 0} {b : ℕ} {p q : Reader A} (t : Bool) → IsFair b p q → IsFair b (if_fits t p) (if_fits t q)
fair_if true h = h
fair_if false h = fair_deep

pub fair_fits : {A : Type 0} {b : ℕ} {p q : Reader A} {t u : Bool} → t ≡ u → IsFair b p q → IsFair b (if_fits t p) (if_fits u q)
fair_fits {A} {b} {p} {q} {t} {u} e h = rw e (fair_if u h)

-- ---- past a token
module _ {A : Type 0} {b n : ℕ} {p q : Reader A} (l : b ≤ n + 4) (h : IsFair n p q) where
  less_skip : (ts : List Token) → length (rest_of (skip p ts)) ≤ length ts
  less_skip [] = h.less []
  less_skip (t ∷ ts) = omega (arith, h.less ts)

  same_skip : (ts : List Token) → 4 * length ts ≤ b → skip p ts ≡ skip q ts
  same_skip [] m = h.same [] (omega arith)
  same_skip (t ∷ ts) m = h.same ts (omega (arith, l, m))

  pub fair_skip : IsFair b (skip p) (skip q)
  fair_skip = record { less = less_skip; same = same_skip }

-- ---- by the next token
pub fair_peek : {A : Type 0} {b : ℕ} (e : ℕ) {f g : Place → TokenView → Reader A} → ((p : Place) (k : TokenView) → IsFair b (f p k) (g p k)) → IsFair b (peek e f) (peek e g)
fair_peek e h = record {
  less = λ ts. (h (next e ts).place (next e ts).kind).less ts;
  same = λ ts m. (h (next e ts).place (next e ts).kind).same ts m;
}

-- ---- one after the other
module _ {A B : Type 0} {b : ℕ} {f g : A → Reader B} (h : (a : A) → IsFair b (f a) (g a)) where
  less_then : (n : ℕ) (o : Out A) → length (rest_of o) ≤ n → length (rest_of (then_read o f)) ≤ n
  less_then n (Ok (a, u)) l = omega (arith, l, (h a).less u)
  less_then n (Err u) l = l

  same_then : (n : ℕ) → 4 * n ≤ b → (o : Out A) → length (rest_of o) ≤ n → then_read o f ≡ then_read o g
  same_then n m (Ok (a, u)) l = (h a).same u (omega (arith, l, m))
  same_then n m (Err u) l = refl

pub fair_bind : {A B : Type 0} {b : ℕ} {p q : Reader A} {f g : A → Reader B} → IsFair b p q → ((a : A) → IsFair b (f a) (g a)) → IsFair b (p >>= f) (q >>= g)
fair_bind {A} {B} {b} {p} {q} {f} {g} h i = record {
  less = λ ts. less_then i (length ts) (p ts) (h.less ts);
  same = λ ts m. same_then i (length ts) m (p ts) (h.less ts) ∙ ap (λ (o : Out A). then_read o g) (h.same ts m);
}

-- ---- a token of which f tells something, and then on
module _ {A B : Type 0} {b n : ℕ} {g i : A → Reader B} (l : b ≤ n + 4) (h : (a : A) → IsFair n (g a) (i a)) where
  less_took : (o : Option A) (ts : List Token) → length (rest_of (then_read (took o ts) g)) ≤ length ts
  less_took (Some a) ts = less_skip l (h a) ts
  less_took None ts = omega arith

  same_took : (o : Option A) (ts : List Token) → 4 * length ts ≤ b → then_read (took o ts) g ≡ then_read (took o ts) i
  same_took (Some a) ts m = same_skip l (h a) ts m
  same_took None ts m = refl

  pub fair_take : (e : ℕ) (f : Place → TokenView → Option A) → IsFair b (take e f >>= g) (take e f >>= i)
  fair_take e f = record {
    less = λ ts. less_took (f (next e ts).place (next e ts).kind) ts;
    same = λ ts m. same_took (f (next e ts).place (next e ts).kind) ts m;
  }
