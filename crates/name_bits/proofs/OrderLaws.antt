-- An order is the list that it is made of, and what has a number in it.
use Rattle.std.proofs.Common.{◌≡◌, ℕ, zero, suc, ◌+◌, ◌<◌, Bool, true, false, ◌||◌, List, [], ◌∷◌, ◌++◌, length, take, get_or, refl, sym, ap, ◌∙◌, arith, bytes_eq, true≢false}
use Rattle.std.specs.Prelude.{◌==◌, if◌then◌else◌}
use Rattle.std.specs.List.{AllByRecursion, IsDistinct, list_any}
use Rattle.std.specs.Cmp.Lexicographic.{pointwise, bytes_decides}
use Rattle.std.proofs.lemmas.Slice.Eq.{bytes_eq-Decides}
use Rattle.std.proofs.lemmas.List.{take_more}
use Rattle.std.proofs.lemmas.Map.Keys.{IsDistinct-head, IsDistinct-tail}
use Rattle.std.proofs.lemmas.List.Folds.{list_any-append}
use Rattle.indexmap.specs.IndexSet.{insert_key}
use Rattle.tla_token.specs.Signs.{is_among}
use Rattle.tla_tree.specs.Tree.{Word}
use Rattle.name_bits.specs.NamesIn.{AllApart}

abbrev pub equal : Word → Word → Bool
equal = pointwise ◌==◌

not_equal : (x y : Word) → (x ≡ y → ⊥) → equal x y ≡ false
not_equal x y h = by (equal x y) refl
  where
    by : (b : Bool) → equal x y ≡ b → equal x y ≡ false
    by true e = absurd (h ((bytes_decides x y).0 e))
    by false e = e

pub same_test : (x y : Word) → equal x y ≡ bytes_eq y x
same_test x y = by (bytes_eq y x) refl
  where
    by : (b : Bool) → bytes_eq y x ≡ b → equal x y ≡ b
    by true e = (bytes_decides x y).1 (sym ((bytes_eq-Decides y x).0 e))
    by false e = not_equal x y (λ h. true≢false (sym ((bytes_eq-Decides y x).1 (sym h)) ∙ e))

pub same_any : (x : Word) (xs : List Word) → list_any (equal x) xs ≡ is_among xs x
same_any x xs = λ i. list_any (λ v. same_test x v i) xs

pub same_names : (x y : Word) → bytes_eq x y ≡ true → x ≡ y
same_names x y h = (bytes_eq-Decides x y).0 h

pub same_itself : (x : Word) → bytes_eq x x ≡ true
same_itself x = (bytes_eq-Decides x x).1 refl

pub among_at : (xs : List Word) (i : ℕ) (d : Word) → i < length xs → is_among xs (get_or xs i d) ≡ true
among_at [] i d l = absurd (let n : ⊥ = omega (arith, l) in n)
among_at (x ∷ xs) zero d l = ap (λ (b : Bool). b || is_among xs x) (same_itself x)
among_at (x ∷ xs) (suc i) d l = ap (λ (b : Bool). bytes_eq x (get_or xs i d) || b) (among_at xs i d (omega (arith, l))) ∙ either_true (bytes_eq x (get_or xs i d))
  where
    either_true : (b : Bool) → (b || true) ≡ true
    either_true true = refl
    either_true false = refl

-- ---- a list without repeats is its own order

new_name : (xs : List Word) (i : ℕ) (d : Word) → AllApart xs → i < length xs → is_among (take i xs) (get_or xs i d) ≡ false
new_name [] i d h l = absurd (let n : ⊥ = omega (arith, l) in n)
new_name (x ∷ xs) zero d h l = refl
new_name (x ∷ xs) (suc i) d h l = by (bytes_eq x (get_or xs i d)) refl (new_name xs i d h.1 (omega (arith, l)))
  where
    by : (b : Bool) → bytes_eq x (get_or xs i d) ≡ b → is_among (take i xs) (get_or xs i d) ≡ false → (bytes_eq x (get_or xs i d) || is_among (take i xs) (get_or xs i d)) ≡ false
    by true e rest = absurd (true≢false (sym (ap (is_among xs) (same_names x (get_or xs i d) e) ∙ among_at xs i d (omega (arith, l))) ∙ h.0))
    by false e rest = ap (λ (b : Bool). b || is_among (take i xs) (get_or xs i d)) e ∙ rest

pub put_more : (xs ks : List Word) (i : ℕ) (x : Word) → AllApart xs → i < length xs → x ≡ get_or xs i x → ks ≡ take i xs → insert_key equal ks x ≡ take (i + 1) xs
put_more xs ks i x h l is e =
    ap (λ (b : Bool). if b then ks else ks ++ x ∷ []) (same_any x ks ∙ (λ j. is_among (e j) (is j)) ∙ new_name xs i x h l)
    ∙ (λ j. e j ++ is j ∷ []) ∙ sym (take_more xs i x l)

known : (ks : List Word) (y x : Word) → is_among ks y ≡ true → is_among ks x ≡ (is_among ks x || (bytes_eq y x || false))
known ks y x h = by (is_among ks x) (bytes_eq y x) refl refl
  where
    by : (a b : Bool) → is_among ks x ≡ a → bytes_eq y x ≡ b → a ≡ (a || (b || false))
    by true b e k = refl
    by false false e k = refl
    by false true e k = sym e ∙ ap (is_among ks) (sym (same_names y x k)) ∙ h

put_among : (ks : List Word) (y x : Word) → is_among (insert_key equal ks y) x ≡ (is_among ks x || (bytes_eq y x || false))
put_among ks y x = by (list_any (equal y) ks) (sym (same_any y ks))
  where
    by : (b : Bool) → is_among ks y ≡ b → is_among (if b then ks else ks ++ y ∷ []) x ≡ (is_among ks x || (bytes_eq y x || false))
    by true e = known ks y x e
    by false e = list_any-append (λ v. bytes_eq v x) ks (y ∷ [])

pub among_more : (xs ks : List Word) (i : ℕ) (y : Word) → i < length xs → y ≡ get_or xs i y → ((x : Word) → is_among ks x ≡ is_among (take i xs) x)
    → (x : Word) → is_among (insert_key equal ks y) x ≡ is_among (take (i + 1) xs) x
among_more xs ks i y l is h x =
    put_among ks y x ∙ (λ j. h x j || (bytes_eq (is j) x || false)) ∙ sym (list_any-append (λ v. bytes_eq v x) (take i xs) (get_or xs i y ∷ []))
    ∙ ap (λ (ys : List Word). is_among ys x) (sym (take_more xs i y l))

-- ---- no name has two numbers

far : (x : Word) (ys : List Word) → AllByRecursion (λ y. equal x y ≡ false) ys → is_among ys x ≡ false
far x [] h = refl
far x (y ∷ ys) h = ap (λ (b : Bool). b || is_among ys x) (sym (same_test x y) ∙ h.0) ∙ far x ys h.1

pub all_apart : (xs : List Word) → IsDistinct equal xs → AllApart xs
all_apart [] h = tt
all_apart (x ∷ xs) h = (far x xs (IsDistinct-head equal x xs h), all_apart xs (IsDistinct-tail equal x xs h))
