-- A reader looks no further than the token at which it stops: how that goes from readers to those that are made of them.
use Rattle.std.proofs.Common.{◌≡◌, ℕ, zero, suc, ◌+◌, ◌-◌, ◌*◌, ◌≤◌, Bool, true, false, List, [], ◌∷◌, ◌++◌, Option, Some, None, if◌then◌else◌, refl, subst, arith}
use Rattle.std.specs.Str.{bytes_eq}
use Rattle.tla_token.specs.declared.place.Place.{Place}
use Rattle.tla_tree.specs.Tree.{Word, Name}
use Rattle.tla_tree.specs.Lexical.{TokenView, Token}
use Rattle.tla_tree.specs.Lexical as tk
use Rattle.tla_tree.specs.Reader.{Reader, ◌>>=◌, took, if_fits, free, readers}
use Rattle.tla_tree.proofs.Alike.{Alike, Enough, IsFair, weaker, fair_refuses, fair_too_deep, fair_skip}
use Rattle.tla_tree.proofs.AlikeSteps.{fair_readers}
use Rattle.syntax_reading.specs.TokenReaders.{first, by_next, past, name_of, name_if, name_within, pick, Parts, parts_of}

pub fair_next : {A : Type 0} {b : ℕ} {f g : Place → TokenView → Reader A} → ((p : Place) (k : TokenView) → IsFair b (f p k) (g p k)) → IsFair b (by_next f) (by_next g)
fair_next {A} {b} {f} {g} h = record {
  left = λ ts. (h (first ts).place (first ts).kind).left ts;
  right = λ ts. (h (first ts).place (first ts).kind).right ts;
  alike = both;
}
  where
    both : (k : List Token) (t : Token) (r s : List Token) → Enough b k → Alike k t r s (by_next f (k ++ t ∷ r)) (by_next g (k ++ t ∷ s))
    both [] t r s m = (h t.place t.kind).alike [] t r s m
    both (x ∷ k) t r s m = (h x.place x.kind).alike (x ∷ k) t r s m

-- past a token, and then on
pub fair_past : {A B : Type 0} {b n : ℕ} {g i : A → Reader B} (f : Place → TokenView → Option A) → b ≤ n + 4 → ((a : A) → IsFair n (g a) (i a)) → IsFair b (past f >>= g) (past f >>= i)
fair_past {A} {B} {b} {n} {g} {i} f l h = fair_next {f = λ p k. took (f p k) >>= g} {g = λ p k. took (f p k) >>= i} (λ p k. by (f p k))
  where
    by : (o : Option A) → IsFair b (took o >>= g) (took o >>= i)
    by (Some a) = fair_skip l (h a)
    by None = fair_refuses

-- if one more form may be open, which is the same for both
pub fair_fits : {A : Type 0} {b : ℕ} (x y : Bool) {r s : Reader A} → x ≡ y → IsFair b r s → IsFair b (if_fits x r) (if_fits y s)
fair_fits {A} {b} x y {r} {s} e h = subst (λ (z : Bool). IsFair b (if_fits x r) (if_fits z s)) e (by x)
  where
    by : (x : Bool) → IsFair b (if_fits x r) (if_fits x s)
    by true = h
    by false = fair_too_deep

pub fair_name_within : {B : Type 0} {b n : ℕ} {g i : Name → Reader B} (x y : Bool) → x ≡ y → b ≤ n + 4 → ((z : Name) → IsFair n (g z) (i z)) → IsFair b (name_within x >>= g) (name_within y >>= i)
fair_name_within {B} {b} {n} {g} {i} x y e l h = subst (λ (z : Bool). IsFair b (name_within x >>= g) (name_within z >>= i)) e (by x)
  where
    at : (p : Place) (k : TokenView) → IsFair b (name_if false p k >>= g) (name_if false p k >>= i)
    at p (tk.word w) = fair_too_deep
    at p k = fair_refuses

    by : (x : Bool) → IsFair b (name_within x >>= g) (name_within x >>= i)
    by true = fair_past name_of l h
    by false = fair_next {f = λ p k. name_if false p k >>= g} {g = λ p k. name_if false p k >>= i} at

-- ---- what a word stands for
abbrev pub Both : {A : Type 0} → (A → A → Type 0) → List (Word × A) → List (Word × A) → Type 0
Both Q [] [] = Unit {0}
Both Q ((x, a) ∷ xs) ((y, b) ∷ ys) = (x ≡ y) × Q a b × Both Q xs ys
Both Q xs ys = ⊥

pub pick_both : {A : Type 0} (Q : A → A → Type 0) (w : Word) (xs ys : List (Word × A)) (d e : A) → Both Q xs ys → Q d e → Q (pick w xs d) (pick w ys e)
pick_both Q w [] [] d e h k = k
pick_both Q w [] (y ∷ ys) d e h k = absurd h
pick_both Q w (x ∷ xs) [] d e h k = absurd h
pick_both {A} Q w ((x, a) ∷ xs) ((y, b) ∷ ys) d e h k = rw (h.0) (by (bytes_eq y w) (pick_both Q w xs ys d e h.2 k))
  where
    by : (c : Bool) → Q (pick w xs d) (pick w ys e) → Q (if c then a else pick w xs d) (if c then b else pick w ys e)
    by true i = h.1
    by false i = i

-- ---- lists, with so many steps
pub fair_left : {A : Type 0} {b : ℕ} {p q : Reader A} → IsFair b p q → IsFair 0 p p
fair_left h = record { left = h.left; right = h.left; alike = λ k t r s m. absurd (omega (arith, m)) }

pub fair_right : {A : Type 0} {b : ℕ} {p q : Reader A} → IsFair b p q → IsFair 0 q q
fair_right h = record { left = h.right; right = h.right; alike = λ k t r s m. absurd (omega (arith, m)) }

-- one step more on both sides, where each member takes a token
abbrev pub Step : {I A : Type 0} → ℕ → (ℕ → I → Reader A) → (ℕ → I → Reader A) → Type 0
Step {I} {A} d f g = (b c n m : ℕ) → b ≤ d → b ≤ c + 4 → c ≤ b → c ≤ 4 * n → c ≤ 4 * m → ((i : I) → IsFair c (f n i) (g m i)) → (i : I) → IsFair b (f (suc n) i) (g (suc m) i)

module _ {I A : Type 0} where
  same_steps : (f : ℕ → I → Reader A) → ((i : I) → IsFair 0 (f 0 i) (f 0 i)) → Step 0 f f → (n : ℕ) (i : I) → IsFair 0 (f n i) (f n i)
  same_steps f z s zero i = z i
  same_steps f z s (suc n) i = s 0 0 n n (omega arith) (omega arith) (omega arith) (omega arith) (omega arith) (same_steps f z s n) i

  pub fair_steps : (d : ℕ) (f g : ℕ → I → Reader A) → ((i : I) → IsFair 0 (f 0 i) (f 0 i)) → ((i : I) → IsFair 0 (g 0 i) (g 0 i)) → Step 0 f f → Step 0 g g → Step d f g
      → (n m b : ℕ) → b ≤ d → b ≤ 4 * n → b ≤ 4 * m → (i : I) → IsFair b (f n i) (g m i)
  fair_steps d f g y z s t u zero m b l j k i = record { left = (y i).left; right = (same_steps g z t m i).left; alike = λ x v w o e. absurd (omega (arith, e, j)) }
  fair_steps d f g y z s t u (suc n) zero b l j k i = record { left = (same_steps f y s (suc n) i).left; right = (z i).left; alike = λ x v w o e. absurd (omega (arith, e, k)) }
  fair_steps d f g y z s t u (suc n) (suc m) b l j k i =
      u b (b - 4) n m l (omega arith) (omega arith) (omega (arith, j)) (omega (arith, k)) (fair_steps d f g y z s t u n m (b - 4) (omega (arith, l)) (omega (arith, j)) (omega (arith, k))) i

-- ---- the readers of expressions
pub record FairParts (b : ℕ) (m q : Parts) : Type 0 where
  pub expr : IsFair b m.expr q.expr
  pub arguments : IsFair b m.arguments q.arguments
  pub subscripts : IsFair b m.subscripts q.subscripts
  pub room : (d : ℕ) → m.room d ≡ q.room d

pub less_parts : {a b : ℕ} {m q : Parts} → a ≤ b → FairParts b m q → FairParts a m q
less_parts l h = record { expr = weaker l h.expr; arguments = weaker l h.arguments; subscripts = weaker l h.subscripts; room = h.room }

pub left_parts : {b : ℕ} {m q : Parts} → FairParts b m q → FairParts 0 m m
left_parts h = record { expr = fair_left h.expr; arguments = fair_left h.arguments; subscripts = fair_left h.subscripts; room = λ d. refl }

pub right_parts : {b : ℕ} {m q : Parts} → FairParts b m q → FairParts 0 q q
right_parts h = record { expr = fair_right h.expr; arguments = fair_right h.arguments; subscripts = fair_right h.subscripts; room = λ d. refl }

pub parts_fair : (b n m : ℕ) → b ≤ n → b ≤ m → FairParts b (parts_of (readers n None)) (parts_of (readers m None))
parts_fair b n m i j = (let h = fair_readers b n m i j None in record { expr = weaker (omega arith) (h.expr 0 free); arguments = weaker (omega arith) (h.phrases 0); subscripts = weaker (omega arith) (h.phrases 0); room = λ d. refl })
