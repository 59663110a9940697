-- Sums have the values that their parts give.
use Rattle.std.proofs.Common.{◌≡◌, ℕ, ◌+◌, ◌*◌, List, [], ◌∷◌, map, Bool, true, false, cond, max, refl, sym, ap, ◌∙◌, arith}
use Rattle.std.proofs.Math.Nat.{max_comm, max-zero, mul_assoc}
use Rattle.std.proofs.lemmas.Slice.Eq.{bytes_eq-Decides}
use Rattle.macro_expand.specs.laws.Sums.{Unknown, whole, root, same_unknown, Arithmetic, counting, nesting, Sum, number, only, with_term, with_terms, plus, times, put_terms, put, value_of_terms, value}

pub record IsArithmetic (A : Arithmetic) : Type 0 where
  pub comm : (a b : ℕ) → A.plus a b ≡ A.plus b a
  pub assoc : (a b c : ℕ) → A.plus (A.plus a b) c ≡ A.plus a (A.plus b c)
  pub zero : (a : ℕ) → A.plus a 0 ≡ a
  pub over : (k a b : ℕ) → A.times k (A.plus a b) ≡ A.plus (A.times k a) (A.times k b)
  pub under : (a b n : ℕ) → A.times (A.plus a b) n ≡ A.plus (A.times a n) (A.times b n)
  pub twice : (k c n : ℕ) → A.times (A.times k c) n ≡ A.times k (A.times c n)
  pub unit : (n : ℕ) → A.times A.node n ≡ n

over_sum : (k a b : ℕ) → k * (a + b) ≡ k * a + k * b
over_sum k a b = grind (arith)

under_sum : (a b n : ℕ) → (a + b) * n ≡ a * n + b * n
under_sum a b n = grind (arith)

pub max_of_three : (a b c : ℕ) → max (max a b) c ≡ max a (max b c)
max_of_three a b c = omega arith

over_max : (k a b : ℕ) → k + max a b ≡ max (k + a) (k + b)
over_max k a b = omega arith

under_max : (a b n : ℕ) → max a b + n ≡ max (a + n) (b + n)
under_max a b n = omega arith

pub is_counting : IsArithmetic counting
is_counting = record {
  comm = λ a b. omega arith;
  assoc = λ a b c. omega arith;
  zero = λ a. omega arith;
  over = over_sum;
  under = under_sum;
  twice = λ k c n. mul_assoc k c n;
  unit = λ n. omega arith;
}

pub is_nesting : IsArithmetic nesting
is_nesting = record {
  comm = max_comm;
  assoc = max_of_three;
  zero = λ a. max-zero a;
  over = over_max;
  under = under_max;
  twice = λ k c n. omega arith;
  unit = λ n. omega arith;
}

-- ---- values

swap : (A : Arithmetic) (H : IsArithmetic A) (x m v : ℕ) → A.plus x (A.plus m v) ≡ A.plus m (A.plus x v)
swap A H x m v = sym (H.assoc x m v) ∙ ap (λ (z : ℕ). A.plus z v) (H.comm x m) ∙ H.assoc m x v

same_is : (v w : Unknown) → same_unknown v w ≡ true → v ≡ w
same_is (whole x) (whole y) e = ap whole ((bytes_eq-Decides x y).0 e)
same_is (root x) (root y) e = ap root ((bytes_eq-Decides x y).0 e)
same_is (whole x) (root y) e = cc
same_is (root x) (whole y) e = cc

plus_alone : (A : Arithmetic) (H : IsArithmetic A) (f : Unknown → ℕ) (us : List (Unknown × ℕ)) (m n : ℕ) → value_of_terms A f us (A.plus m n) ≡ A.plus m (value_of_terms A f us n)
plus_alone A H f [] m n = refl
plus_alone A H f (t ∷ us) m n = ap (λ (z : ℕ). A.plus (A.times t.1 (f t.0)) z) (plus_alone A H f us m n) ∙ swap A H (A.times t.1 (f t.0)) m (value_of_terms A f us n)

one_term : (A : Arithmetic) (H : IsArithmetic A) (f : Unknown → ℕ) (v : Unknown) (c : ℕ) (ts : List (Unknown × ℕ)) (n : ℕ) → value_of_terms A f (with_term A v c ts) n ≡ A.plus (A.times c (f v)) (value_of_terms A f ts n)
one_term A H f v c [] n = refl
one_term A H f v c (t ∷ ts) n = by (one_term A H f v c ts n) (same_unknown v t.0) refl
  where
    by : value_of_terms A f (with_term A v c ts) n ≡ A.plus (A.times c (f v)) (value_of_terms A f ts n) → (b : Bool) → same_unknown v t.0 ≡ b → value_of_terms A f (cond b ((t.0, A.plus c t.1) ∷ ts) (t ∷ with_term A v c ts)) n ≡ A.plus (A.times c (f v)) (A.plus (A.times t.1 (f t.0)) (value_of_terms A f ts n))
    by h true e =
        ap (λ (z : ℕ). A.plus z (value_of_terms A f ts n)) (H.under c t.1 (f t.0))
        ∙ H.assoc (A.times c (f t.0)) (A.times t.1 (f t.0)) (value_of_terms A f ts n)
        ∙ ap (λ (w : Unknown). A.plus (A.times c (f w)) (A.plus (A.times t.1 (f t.0)) (value_of_terms A f ts n))) (sym (same_is v t.0 e))
    by h false e =
        ap (λ (z : ℕ). A.plus (A.times t.1 (f t.0)) z) h
        ∙ swap A H (A.times t.1 (f t.0)) (A.times c (f v)) (value_of_terms A f ts n)

all_terms : (A : Arithmetic) (H : IsArithmetic A) (f : Unknown → ℕ) (ts us : List (Unknown × ℕ)) (m n : ℕ) → value_of_terms A f (with_terms A ts us) (A.plus m n) ≡ A.plus (value_of_terms A f ts m) (value_of_terms A f us n)
all_terms A H f [] us m n = plus_alone A H f us m n
all_terms A H f (t ∷ ts) us m n =
    one_term A H f t.0 t.1 (with_terms A ts us) (A.plus m n)
    ∙ ap (λ (z : ℕ). A.plus (A.times t.1 (f t.0)) z) (all_terms A H f ts us m n)
    ∙ sym (H.assoc (A.times t.1 (f t.0)) (value_of_terms A f ts m) (value_of_terms A f us n))

pub value_plus : (A : Arithmetic) (H : IsArithmetic A) (f : Unknown → ℕ) (s r : Sum) → value A f (plus A s r) ≡ A.plus (value A f s) (value A f r)
value_plus A H f s r = all_terms A H f s.terms r.terms s.alone r.alone

times_terms : (A : Arithmetic) (H : IsArithmetic A) (f : Unknown → ℕ) (k : ℕ) (ts : List (Unknown × ℕ)) (n : ℕ) → value_of_terms A f (map (λ (t : Unknown × ℕ). (t.0, A.times k t.1)) ts) (A.times k n) ≡ A.times k (value_of_terms A f ts n)
times_terms A H f k [] n = refl
times_terms A H f k (t ∷ ts) n =
    (λ z. A.plus (H.twice k t.1 (f t.0) z) (times_terms A H f k ts n z))
    ∙ sym (H.over k (A.times t.1 (f t.0)) (value_of_terms A f ts n))

pub value_times : (A : Arithmetic) (H : IsArithmetic A) (f : Unknown → ℕ) (k : ℕ) (s : Sum) → value A f (times A k s) ≡ A.times k (value A f s)
value_times A H f k s = times_terms A H f k s.terms s.alone

pub value_only : (A : Arithmetic) (H : IsArithmetic A) (f : Unknown → ℕ) (v : Unknown) → value A f (only A v) ≡ f v
value_only A H f v = H.zero (A.times A.node (f v)) ∙ H.unit (f v)

put_values : (A : Arithmetic) (H : IsArithmetic A) (f : Unknown → ℕ) (g : Unknown → Sum) (ts : List (Unknown × ℕ)) (n : ℕ) → value A f (put_terms A g ts n) ≡ value_of_terms A (λ v. value A f (g v)) ts n
put_values A H f g [] n = refl
put_values A H f g (t ∷ ts) n =
    value_plus A H f (times A t.1 (g t.0)) (put_terms A g ts n)
    ∙ (λ z. A.plus (value_times A H f t.1 (g t.0) z) (put_values A H f g ts n z))

pub value_put : (A : Arithmetic) (H : IsArithmetic A) (f : Unknown → ℕ) (g : Unknown → Sum) (s : Sum) → value A f (put A g s) ≡ value A (λ v. value A f (g v)) s
value_put A H f g s = put_values A H f g s.terms s.alone
