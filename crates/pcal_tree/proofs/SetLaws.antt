-- Lists that no test tells apart, and lists without repetitions.
use Rattle.std.proofs.Common.{◌≡◌, List, [], ◌∷◌, ◌++◌, Bool, true, false, ◌||◌, cond, bytes_eq, refl, sym, ◌∙◌, ap, map}
use Rattle.std.specs.List.{list_any, flat_map}
use Rattle.std.proofs.lemmas.Bool.{or_parts}
use Rattle.std.proofs.lemmas.List.Folds.{list_any-append}
use Rattle.tla_token.specs.Signs.{is_among}
use Rattle.tla_tree.specs.Tree.{Word}
use Rattle.pcal_tree.specs.Paths.{Effect, meets}
use Rattle.pcal_tree.specs.laws.MacroSummaries.{union}
use Rattle.tla_value.proofs.OrderSets.{either_twice}

-- ---- truth values

pub or_both : (a b c : Bool) → ((a || b) || c) ≡ (a || (b || c))
or_both true b c = refl
or_both false b c = refl

or_later : (a b c : Bool) → c ≡ (a || c) → (b || c) ≡ (a || (b || c))
or_later true true c e = refl
or_later false true c e = refl
or_later a false c e = e

-- ---- some element passes a test

pub any_flat : {X Y : Type 0} (f : Y → Bool) (h : X → List Y) (xs : List X) → list_any f (flat_map h xs) ≡ list_any (λ x. list_any f (h x)) xs
any_flat f h [] = refl
any_flat f h (x ∷ xs) = list_any-append f (h x) (flat_map h xs) ∙ ap (λ (b : Bool). list_any f (h x) || b) (any_flat f h xs)

pub any_map : {X Y : Type 0} (f : Y → Bool) (h : X → Y) (xs : List X) → list_any f (map h xs) ≡ list_any (λ x. f (h x)) xs
any_map f h [] = refl
any_map f h (x ∷ xs) = ap (λ (b : Bool). f (h x) || b) (any_map f h xs)

pub any_same : {X : Type 0} (f g : X → Bool) → ((x : X) → f x ≡ g x) → (xs : List X) → list_any f xs ≡ list_any g xs
any_same f g e [] = refl
any_same f g e (x ∷ xs) = λ i. e x i || any_same f g e xs i

pub or_mixed : (a b c d : Bool) → ((a || b) || (c || d)) ≡ ((a || c) || (b || d))
or_mixed true b c d = refl
or_mixed false true true d = refl
or_mixed false true false d = refl
or_mixed false false c d = refl

pub any_or : {X : Type 0} (f g : X → Bool) (xs : List X) → list_any (λ x. f x || g x) xs ≡ (list_any f xs || list_any g xs)
any_or f g [] = refl
any_or f g (x ∷ xs) = ap (λ (b : Bool). (f x || g x) || b) (any_or f g xs) ∙ or_mixed (f x) (g x) (list_any f xs) (list_any g xs)

pub any_none : {X : Type 0} (f : X → Bool) → ((x : X) → f x ≡ false) → (xs : List X) → list_any f xs ≡ false
any_none f e [] = refl
any_none f e (x ∷ xs) = λ i. e x i || any_none f e xs i

-- ---- no element passes a test

pub neither : {a b : Bool} → a ≡ false → b ≡ false → (a || b) ≡ false
neither e f = λ i. e i || f i

pub none_of_both : {X : Type 0} (f : X → Bool) (xs ys : List X) → list_any f (xs ++ ys) ≡ false → (list_any f xs ≡ false) × (list_any f ys ≡ false)
none_of_both f xs ys e = or_parts (list_any f xs) (list_any f ys) (sym (list_any-append f xs ys) ∙ e)

pub none_together : {X : Type 0} (f : X → Bool) (xs ys : List X) → list_any f xs ≡ false → list_any f ys ≡ false → list_any f (xs ++ ys) ≡ false
none_together f xs ys e h = list_any-append f xs ys ∙ neither e h

-- ---- lists that no test tells apart

abbrev pub Same : {X : Type 0} → List X → List X → Type 0
Same {X = X} xs ys = (f : X → Bool) → list_any f xs ≡ list_any f ys

pub same_both : {X : Type 0} (xs us ys vs : List X) → Same xs us → Same ys vs → Same (xs ++ ys) (us ++ vs)
same_both xs us ys vs s r f = list_any-append f xs ys ∙ (λ i. s f i || r f i) ∙ sym (list_any-append f us vs)

pub among_same : (xs ys : List Word) → Same xs ys → (w : Word) → is_among xs w ≡ is_among ys w
among_same xs ys s w = s (λ v. bytes_eq v w)

pub meets_any : (xs ys : List Word) → meets xs ys ≡ list_any (is_among xs) ys
meets_any xs [] = refl
meets_any xs (y ∷ ys) = ap (λ (b : Bool). is_among xs y || b) (meets_any xs ys)

pub meets_same : (xs us ys vs : List Word) → Same xs us → Same ys vs → meets xs ys ≡ meets us vs
meets_same xs us ys vs s r =
    meets_any xs ys ∙ any_same (is_among xs) (is_among us) (among_same xs us s) ys ∙ r (is_among us) ∙ sym (meets_any us vs)

pub among_flat : {X : Type 0} (h : X → List Word) (xs : List X) (w : Word) → is_among (flat_map h xs) w ≡ list_any (λ x. is_among (h x) w) xs
among_flat h xs w = any_flat (λ v. bytes_eq v w) h xs

-- two effects that no rule tells apart
abbrev pub Agree : Effect → Effect → Type 0
Agree e f = Same e.variables f.variables × (e.twice ≡ f.twice)

-- ---- lists without repetitions

abbrev pub Sound : {X : Type 0} → (X → X → Bool) → Type 0
Sound {X = X} same = (x y : X) → same x y ≡ true → x ≡ y

absorbed : {X : Type 0} (same : X → X → Bool) → Sound same → (f : X → Bool) (x : X) (xs : List X) → list_any (same x) xs ≡ true → list_any f xs ≡ (f x || list_any f xs)
absorbed same sound f x [] e = cc
absorbed {X = X} same sound f x (y ∷ xs) e = by (same x y) refl e (absorbed same sound f x xs)
  where
    by : (b : Bool) → same x y ≡ b → (b || list_any (same x) xs) ≡ true → (list_any (same x) xs ≡ true → list_any f xs ≡ (f x || list_any f xs))
        → (f y || list_any f xs) ≡ (f x || (f y || list_any f xs))
    by true h e rest = either_twice (f y) (list_any f xs) ∙ ap (λ (z : X). f z || (f y || list_any f xs)) (sym (sound x y h))
    by false h e rest = or_later (f x) (f y) (list_any f xs) (rest e)

pub any_union : {X : Type 0} (same : X → X → Bool) → Sound same → (f : X → Bool) (xs ys : List X) → list_any f (union same xs ys) ≡ (list_any f xs || list_any f ys)
any_union same sound f [] ys = refl
any_union {X = X} same sound f (x ∷ xs) ys = by (list_any (same x) all) refl ∙ ap (λ (b : Bool). f x || b) (any_union same sound f xs ys) ∙ sym (or_both (f x) (list_any f xs) (list_any f ys))
  where
    all : List X
    all = union same xs ys

    by : (b : Bool) → list_any (same x) all ≡ b → list_any f (cond b all (x ∷ all)) ≡ (f x || list_any f all)
    by true e = absorbed same sound f x all e
    by false e = refl
