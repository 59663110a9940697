-- The numbers of variables tell which are among the first ones, and tests of two lists are turned.
use Rattle.std.proofs.Common.{◌≡◌, ℕ, zero, suc, max, nat_lt, Bool, true, false, ◌&&◌, ◌||◌, not, List, [], ◌∷◌, take, filter, cond, bytes_eq, refl, sym, ap, ◌∙◌, arith, lt-ltb, le-ltb, ltb-true, ltb-false}
use Rattle.std.specs.List.{list_any}
use Rattle.std.proofs.lemmas.Slice.Eq.{bytes_eq-Decides}
use Rattle.tla_token.specs.Signs.{is_among}
use Rattle.tla_tree.specs.Tree.{Word}
use Rattle.pcal_tree.proofs.SelfByMacro.{turned}
use Rattle.pcal_tree.proofs.SetLaws.{any_or, any_same}
use Rattle.read_rules.specs.Levels.{one_further, number_among}

-- ---- numbers

first_further : (n : ℕ) → nat_lt 0 (one_further n) ≡ nat_lt 0 n
first_further zero = refl
first_further (suc n) = lt-ltb 0 (suc (suc n)) (omega arith) ∙ sym (lt-ltb 0 (suc n) (omega arith))

next_further : (i n : ℕ) → nat_lt (suc i) (one_further n) ≡ nat_lt i n
next_further i zero = le-ltb (suc i) 0 (omega arith) ∙ sym (le-ltb i 0 (omega arith))
next_further i (suc n) = by (nat_lt i (suc n)) refl
  where
    by : (b : Bool) → nat_lt i (suc n) ≡ b → nat_lt (suc i) (suc (suc n)) ≡ b
    by true e = lt-ltb (suc i) (suc (suc n)) (let h = ltb-true i (suc n) e in omega arith)
    by false e = le-ltb (suc i) (suc (suc n)) (let h = ltb-false i (suc n) e in omega arith)

-- a variable that isn't among the first i ones has a number past i
pub past_number : (gs : List Word) (i : ℕ) (y : Word) → (is_among gs y && not (is_among (take i gs) y)) ≡ nat_lt i (number_among gs y)
past_number [] i y = sym (le-ltb i 0 (omega arith))
past_number (g ∷ gs) zero y = by (bytes_eq g y) (past_number gs zero y)
  where
    by : (b : Bool) → (is_among gs y && true) ≡ nat_lt 0 (number_among gs y) → ((b || is_among gs y) && true) ≡ nat_lt 0 (cond b 1 (one_further (number_among gs y)))
    by true e = sym (lt-ltb 0 1 (omega arith))
    by false e = e ∙ sym (first_further (number_among gs y))
past_number (g ∷ gs) (suc i) y = by (bytes_eq g y) (past_number gs i y)
  where
    by : (b : Bool) → (is_among gs y && not (is_among (take i gs) y)) ≡ nat_lt i (number_among gs y)
        → ((b || is_among gs y) && not (b || is_among (take i gs) y)) ≡ nat_lt (suc i) (cond b 1 (one_further (number_among gs y)))
    by true e = sym (le-ltb (suc i) 1 (omega arith))
    by false e = e ∙ sym (next_further i (number_among gs y))

pub past_either : (i a b : ℕ) → nat_lt i (max a b) ≡ (nat_lt i a || nat_lt i b)
past_either i a b = by (nat_lt i a) (nat_lt i b) refl refl
  where
    by : (s t : Bool) → nat_lt i a ≡ s → nat_lt i b ≡ t → nat_lt i (max a b) ≡ (s || t)
    by true t h k = lt-ltb i (max a b) (let u = ltb-true i a h in omega arith)
    by false true h k = lt-ltb i (max a b) (let v = ltb-true i b k in omega arith)
    by false false h k = le-ltb i (max a b) (let u = ltb-false i a h in let v = ltb-false i b k in omega arith)

-- ---- tests

pub any_filter : {X : Type 0} (f p : X → Bool) (xs : List X) → list_any f (filter p xs) ≡ list_any (λ x. p x && f x) xs
any_filter f p [] = refl
any_filter f p (x ∷ xs) = by (p x) (any_filter f p xs)
  where
    by : (b : Bool) → list_any f (filter p xs) ≡ list_any (λ x. p x && f x) xs → list_any f (cond b (x ∷ filter p xs) (filter p xs)) ≡ ((b && f x) || list_any (λ x. p x && f x) xs)
    by true e = ap (λ (c : Bool). f x || c) e
    by false e = e

pub any_and : {X : Type 0} (f : X → Bool) (b : Bool) (xs : List X) → (list_any f xs && b) ≡ list_any (λ x. f x && b) xs
any_and f b [] = refl
any_and f b (x ∷ xs) = parts (f x) (list_any f xs) b ∙ ap (λ (c : Bool). (f x && b) || c) (any_and f b xs)
  where
    parts : (s t b : Bool) → ((s || t) && b) ≡ ((s && b) || (t && b))
    parts true true true = refl
    parts true true false = refl
    parts true false true = refl
    parts true false false = refl
    parts false t b = refl

pub any_turned : {X Y : Type 0} (r : X → Y → Bool) (xs : List X) (ys : List Y) → list_any (λ x. list_any (r x) ys) xs ≡ list_any (λ y. list_any (λ x. r x y) xs) ys
any_turned r [] ys = sym (none ys)
  where
    none : {Y : Type 0} (ys : List Y) → list_any (λ y. false) ys ≡ false
    none [] = refl
    none (y ∷ ys) = none ys
any_turned r (x ∷ xs) ys = ap (λ (b : Bool). list_any (r x) ys || b) (any_turned r xs ys) ∙ sym (any_or (r x) (λ y. list_any (λ x. r x y) xs) ys)

-- what a test finds in a list and is among others, it finds among these and in the list
pub found_in_both : (f : Word → Bool) (gs zs : List Word) → list_any (λ y. is_among zs y && f y) gs ≡ list_any (λ z. is_among gs z && f z) zs
found_in_both f gs zs =
    any_same (λ y. is_among zs y && f y) (λ y. list_any (λ z. bytes_eq z y && f y) zs) (λ y. any_and (λ z. bytes_eq z y) (f y) zs) gs
    ∙ any_turned (λ y z. bytes_eq z y && f y) gs zs
    ∙ any_same (λ z. list_any (λ y. bytes_eq z y && f y) gs) (λ z. is_among gs z && f z) (λ z. any_same (λ y. bytes_eq z y && f y) (λ y. bytes_eq y z && f z) (one z) gs ∙ sym (any_and (λ y. bytes_eq y z) (f z) gs)) zs
  where
    one : (z y : Word) → (bytes_eq z y && f y) ≡ (bytes_eq y z && f z)
    one z y = by (bytes_eq z y) refl
      where
        by : (b : Bool) → bytes_eq z y ≡ b → (b && f y) ≡ (bytes_eq y z && f z)
        by true e = ap f (sym ((bytes_eq-Decides z y).0 e)) ∙ ap (λ (c : Bool). c && f z) (sym (sym (turned z y) ∙ e))
        by false e = ap (λ (c : Bool). c && f z) (sym (sym (turned z y) ∙ e))

-- tests that agree on the elements of a list
pub any_inside : (f g : Word → Bool) (gs : List Word) → ((y : Word) → is_among gs y ≡ true → f y ≡ g y) → list_any f gs ≡ list_any g gs
any_inside f g [] h = refl
any_inside f g (y ∷ ys) h =
    λ i. h y (ap (λ (b : Bool). b || is_among ys y) ((bytes_eq-Decides y y).1 refl)) i || any_inside f g ys (λ z e. h z (last (bytes_eq y z) (is_among ys z) e)) i
  where
    last : (a b : Bool) → b ≡ true → (a || b) ≡ true
    last true b e = refl
    last false b e = e
