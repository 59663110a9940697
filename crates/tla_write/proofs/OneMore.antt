-- A text that is written element by element: what a loop over a list keeps.
use Rattle.std.proofs.Common.{◌≡◌, ℕ, zero, suc, ◌+◌, ◌<◌, ◌≤◌, Bool, cond, List, [], ◌∷◌, ◌++◌, length, take, get_or, refl, sym, ap, subst, ◌∙◌, arith, append_assoc, append-nil}
use Rattle.std.specs.Prelude.{nat_lt, Result, OnOk}
use Rattle.std.proofs.lemmas.Bool.{lt-ltb}
use Rattle.std.proofs.lemmas.List.{take_more, take_all, length-take-le}

pub same_text : {E : Type 0} (r : Result (Unit {0}) E) (new a b : List ℕ) → OnOk r (new ≡ a) → a ≡ b → OnOk r (new ≡ b)
same_text r new a b h e = subst (λ (w : List ℕ). OnOk r (new ≡ w)) e h

-- F is f of each element, one after another
pub record Listed {A : Type 0} (F : List A → List ℕ) (f : A → List ℕ) : Type 0 where
  pub none : F [] ≡ []
  pub more : (x : A) (xs : List A) → F (x ∷ xs) ≡ f x ++ F xs

pub listed_append : {A : Type 0} (F : List A → List ℕ) (f : A → List ℕ) → Listed F f → (xs ys : List A) → F (xs ++ ys) ≡ F xs ++ F ys
listed_append F f l [] ys = ap (λ (w : List ℕ). w ++ F ys) (sym l.none)
listed_append F f l (x ∷ xs) ys =
    l.more x (xs ++ ys) ∙ ap (λ (w : List ℕ). f x ++ w) (listed_append F f l xs ys) ∙ sym (append_assoc (f x) (F xs) (F ys)) ∙ ap (λ (w : List ℕ). w ++ F ys) (sym (l.more x xs))

pub listed_one : {A : Type 0} (F : List A → List ℕ) (f : A → List ℕ) → Listed F f → (x : A) → F (x ∷ []) ≡ f x
listed_one F f l x = l.more x [] ∙ ap (λ (w : List ℕ). f x ++ w) l.none ∙ append-nil (f x)

-- before the loop
pub listed_none : {A : Type 0} (F : List A → List ℕ) (f : A → List ℕ) → Listed F f → (old : List ℕ) (xs : List A) → old ≡ old ++ F (take 0 xs)
listed_none F f l old [] = sym (ap (λ (w : List ℕ). old ++ w) l.none ∙ append-nil old)
listed_none F f l old (x ∷ xs) = sym (ap (λ (w : List ℕ). old ++ w) l.none ∙ append-nil old)

-- one more of them
pub listed_more : {A : Type 0} (F : List A → List ℕ) (f : A → List ℕ) → Listed F f → (old now new : List ℕ) (xs : List A) (i : ℕ) (x : A) → x ≡ get_or xs i x → i < length xs → now ≡ old ++ F (take i xs) → new ≡ now ++ f x → new ≡ old ++ F (take (i + 1) xs)
listed_more F f l old now new xs i x is lt h e =
    let whole : F (take (i + 1) xs) ≡ F (take i xs) ++ f x = ap F (take_more xs i x lt) ∙ listed_append F f l (take i xs) (get_or xs i x ∷ []) ∙ ap (λ (w : List ℕ). F (take i xs) ++ w) (listed_one F f l (get_or xs i x) ∙ ap f (sym is)) in
    e ∙ ap (λ (w : List ℕ). w ++ f x) h ∙ append_assoc old (F (take i xs)) (f x) ∙ ap (λ (w : List ℕ). old ++ w) (sym whole)

-- after the loop
pub listed_all : {A : Type 0} (F : List A → List ℕ) (old now : List ℕ) (xs : List A) (i : ℕ) → length xs ≤ i → now ≡ old ++ F (take i xs) → now ≡ old ++ F xs
listed_all F old now xs i le h = h ∙ ap (λ (ys : List _). old ++ F ys) (take_all i xs le)

-- ---- with a sign between two

pub record Parted {A : Type 0} (F : List A → List ℕ) (f : A → List ℕ) (sign : List ℕ) : Type 0 where
  pub none : F [] ≡ []
  pub one : (x : A) → F (x ∷ []) ≡ f x
  pub more : (x y : A) (xs : List A) → F (x ∷ y ∷ xs) ≡ f x ++ sign ++ F (y ∷ xs)

abbrev sign_after : {A : Type 0} → List ℕ → List A → List ℕ
sign_after sign [] = []
sign_after sign (x ∷ xs) = sign

parted_append : {A : Type 0} (F : List A → List ℕ) (f : A → List ℕ) (sign : List ℕ) → Parted F f sign → (xs : List A) (x : A) → F (xs ++ x ∷ []) ≡ F xs ++ (sign_after sign xs ++ f x)
parted_append F f sign p [] x = p.one x ∙ ap (λ (w : List ℕ). w ++ f x) (sym p.none)
parted_append F f sign p (y ∷ []) x = p.more y x [] ∙ ap (λ (w : List ℕ). f y ++ sign ++ w) (p.one x) ∙ append_assoc (f y) sign (f x) ∙ ap (λ (w : List ℕ). w ++ (sign ++ f x)) (sym (p.one y))
parted_append F f sign p (y ∷ z ∷ xs) x =
    p.more y z (xs ++ x ∷ []) ∙ ap (λ (w : List ℕ). f y ++ sign ++ w) (parted_append F f sign p (z ∷ xs) x) ∙ sym (append_assoc (f y ++ sign) (F (z ∷ xs)) (sign ++ f x))
    ∙ ap (λ (w : List ℕ). w ++ (sign ++ f x)) (sym (p.more y z xs))

sign_there : {A : Type 0} (sign : List ℕ) (xs : List A) (i : ℕ) → length xs ≡ i → sign_after sign xs ≡ cond (nat_lt 0 i) sign []
sign_there sign [] zero h = refl
sign_there sign [] (suc i) h = absurd (omega (arith, h))
sign_there sign (x ∷ xs) zero h = absurd (omega (arith, h))
sign_there sign (x ∷ xs) (suc i) h = ap (λ (b : Bool). cond b sign []) (sym (lt-ltb 0 (suc i) (omega arith)))

pub parted_more : {A : Type 0} (F : List A → List ℕ) (f : A → List ℕ) (sign : List ℕ) → Parted F f sign → (old now mid new : List ℕ) (xs : List A) (i : ℕ) (x : A) → x ≡ get_or xs i x → i < length xs
    → now ≡ old ++ F (take i xs) → mid ≡ now ++ cond (nat_lt 0 i) sign [] → new ≡ mid ++ f x → new ≡ old ++ F (take (i + 1) xs)
parted_more F f sign p old now mid new xs i x is lt h e g =
    let whole : F (take (i + 1) xs) ≡ F (take i xs) ++ (cond (nat_lt 0 i) sign [] ++ f x) =
    ap F (take_more xs i x lt ∙ ap (λ (y : _). take i xs ++ y ∷ []) (sym is)) ∙ parted_append F f sign p (take i xs) x ∙ ap (λ (w : List ℕ). F (take i xs) ++ (w ++ f x)) (sign_there sign (take i xs) i (length-take-le i xs (omega (arith, lt)))) in
    g ∙ ap (λ (w : List ℕ). w ++ f x) (e ∙ ap (λ (w : List ℕ). w ++ cond (nat_lt 0 i) sign []) h)
    ∙ append_assoc (old ++ F (take i xs)) (cond (nat_lt 0 i) sign []) (f x)
    ∙ append_assoc old (F (take i xs)) (cond (nat_lt 0 i) sign [] ++ f x)
    ∙ ap (λ (w : List ℕ). old ++ w) (sym whole)
