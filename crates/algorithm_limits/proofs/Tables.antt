-- The numbers of names, after one was given, are the new one and the old ones.
use Rattle.std.proofs.Common.{◌≡◌, ℕ, length, arith, Bool, true, false, [], ◌∷◌, Option, Some, None, refl, sym, ap, ◌∙◌, cond, bytes_eq, true≢false, unwrap_or}
use Rattle.std.specs.Prelude.{◌==◌, if◌then◌else◌}
use Rattle.std.specs.Map.{lookup}
use Rattle.std.specs.Cmp.Lexicographic.{pointwise, bytes_decides}
use Rattle.std.proofs.lemmas.Slice.Eq.{bytes_eq-Decides}
use Rattle.tla_tree.specs.Tree.{Word}
use Rattle.algorithm_limits.specs.Numbers.{Numbers, number_of, with_number}

abbrev pub equal : Word → Word → Bool
equal = pointwise ◌==◌

pub equal_is : (x y : Word) → equal x y ≡ true → x ≡ y
equal_is x y h = (bytes_decides x y).0 h

pub equal_itself : (x : Word) → equal x x ≡ true
equal_itself x = (bytes_decides x x).1 refl

not_equal : (x y : Word) → (x ≡ y → ⊥) → equal x y ≡ false
not_equal x y h = by (equal x y) refl
  where
    by : (b : Bool) → equal x y ≡ b → equal x y ≡ false
    by true e = absurd (h (equal_is x y e))
    by false e = e

pub same_test : (x y : Word) → equal x y ≡ bytes_eq y x
same_test x y = by (bytes_eq y x) refl
  where
    by : (b : Bool) → bytes_eq y x ≡ b → equal x y ≡ b
    by true e = (bytes_decides x y).1 (sym ((bytes_eq-Decides y x).0 e))
    by false e = not_equal x y (λ h. true≢false (sym ((bytes_eq-Decides y x).1 (sym h)) ∙ e))

pub none_numbered : (es : Numbers) (x : Word) → length es ≡ 0 → number_of es x ≡ 0
none_numbered [] x e = refl
none_numbered (p ∷ es) x e = absurd (omega (arith, e))

given : (es : Numbers) (x : Word) (n : ℕ) → number_of (with_number es x n) x ≡ n
given [] x n = ap (λ (c : Bool). unwrap_or (cond c (Some n) None) 0) (equal_itself x)
given (e ∷ es) x n = by (equal x e.0) refl (given es x n)
  where
    by : (b : Bool) → equal x e.0 ≡ b → number_of (with_number es x n) x ≡ n → number_of (if b then (e.0, n) ∷ es else e ∷ with_number es x n) x ≡ n
    by true h rest = ap (λ (c : Bool). unwrap_or (cond c (Some n) (lookup (equal x) es)) 0) h
    by false h rest = ap (λ (c : Bool). unwrap_or (cond c (Some e.1) (lookup (equal x) (with_number es x n))) 0) h ∙ rest

or_rest : (c : Bool) (u : ℕ) (a b : Option ℕ) → unwrap_or a 0 ≡ unwrap_or b 0 → unwrap_or (cond c (Some u) a) 0 ≡ unwrap_or (cond c (Some u) b) 0
or_rest true u a b h = refl
or_rest false u a b h = h

kept : (es : Numbers) (x : Word) (n : ℕ) (y : Word) → (x ≡ y → ⊥) → number_of (with_number es x n) y ≡ number_of es y
kept [] x n y h = ap (λ (c : Bool). unwrap_or (cond c (Some n) None) 0) (not_equal y x (λ e. h (sym e)))
kept (e ∷ es) x n y h = by (equal x e.0) refl (kept es x n y h)
  where
    apart : equal x e.0 ≡ true → equal y e.0 ≡ false
    apart k = not_equal y e.0 (λ i. h (equal_is x e.0 k ∙ sym i))

    by : (b : Bool) → equal x e.0 ≡ b → number_of (with_number es x n) y ≡ number_of es y → number_of (if b then (e.0, n) ∷ es else e ∷ with_number es x n) y ≡ number_of (e ∷ es) y
    by true k rest =
        ap (λ (c : Bool). unwrap_or (cond c (Some n) (lookup (equal y) es)) 0) (apart k) ∙ sym (ap (λ (c : Bool). unwrap_or (cond c (Some e.1) (lookup (equal y) es)) 0) (apart k))
    by false k rest = or_rest (equal y e.0) e.1 (lookup (equal y) (with_number es x n)) (lookup (equal y) es) rest

pub number_of_with : (es : Numbers) (x : Word) (n : ℕ) (y : Word) → number_of (with_number es x n) y ≡ cond (bytes_eq x y) n (number_of es y)
number_of_with es x n y = by (bytes_eq x y) refl
  where
    by : (b : Bool) → bytes_eq x y ≡ b → number_of (with_number es x n) y ≡ cond b n (number_of es y)
    by true e = ap (λ (z : Word). number_of (with_number es x n) z) (sym ((bytes_eq-Decides x y).0 e)) ∙ given es x n
    by false e = kept es x n y (λ h. true≢false (sym ((bytes_eq-Decides x y).1 h) ∙ e))
