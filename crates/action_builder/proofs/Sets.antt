-- Sets of names, and the state between two states.
use Rattle.std.proofs.Common.{◌≡◌, List, [], ◌∷◌, ◌++◌, Bool, true, false, cond, ◌||◌, ◌&&◌, bytes_eq, ◌⊎◌, refl, sym, ◌∙◌, ap, subst, ⊎_elim}
use Rattle.std.proofs.lemmas.Bool.{cases_Bool, or_cases, both_ways, and_parts, or_left, or_right}
use Rattle.tla_token.specs.Signs.{is_among}
use Rattle.tla_token.proofs.Spelled.{same_bytes}
use Rattle.tla_tree.specs.Tree.{Word}
use Rattle.tla_value.specs.Order.{same}
use Rattle.tla_value.specs.OrderLaws.{same_is}
use Rattle.action_builder.proofs.Equal.{eq-name, eq-value}
use Rattle.pcal_tree.specs.Scope.{State}
use Rattle.action_builder.specs.Assigned.{Names, more}
use Rattle.action_builder.specs.laws.States.{mid}
use Rattle.action_builder.proofs.Actions.{minus, all_same}

pub member_append : (xs ys : List Word) (x : Word) → is_among (xs ++ ys) x ≡ (is_among xs x || is_among ys x)
member_append [] ys x = refl
member_append (y ∷ xs) ys x = ap (λ b. bytes_eq y x || b) (member_append xs ys x) ∙ or_assoc (bytes_eq y x) (is_among xs x) (is_among ys x)
  where
    or_assoc : (a b c : Bool) → (a || (b || c)) ≡ ((a || b) || c)
    or_assoc true b c = refl
    or_assoc false b c = refl

pub more_append : (A : Names) (xs ys : List Word) → more A (xs ++ ys) ≡ more (more A xs) ys
more_append A xs ys = λ i x. at x i
  where
    or_assoc : (a b c : Bool) → (a || (b || c)) ≡ ((a || b) || c)
    or_assoc true b c = refl
    or_assoc false b c = refl

    at : (x : Word) → more A (xs ++ ys) x ≡ more (more A xs) ys x
    at x = ap (λ b. A x || b) (member_append xs ys x) ∙ or_assoc (A x) (is_among xs x) (is_among ys x)

pub mid_in : (s t : State) (A : Names) (x : Word) → A x ≡ true → mid s t A x ≡ t x
mid_in s t A x e = ap (λ b. cond b (t x) (s x)) e

pub mid_out : (s t : State) (A : Names) (x : Word) → A x ≡ false → mid s t A x ≡ s x
mid_out s t A x e = ap (λ b. cond b (t x) (s x)) e

-- a state that is t on A and s elsewhere
pub is_mid : (s t u : State) (A : Names) → ((x : Word) → A x ≡ true → u x ≡ t x) → ((x : Word) → A x ≡ false → u x ≡ s x) → u ≡ mid s t A
is_mid s t u A h k = λ i x. at x i
  where
    at : (x : Word) → u x ≡ mid s t A x
    at x = ⊎_elim (λ e. h x e ∙ sym (mid_in s t A x e)) (λ e. k x e ∙ sym (mid_out s t A x e)) (cases_Bool (A x))

-- a larger set, where s and t agree on what it has more
pub mid_grow : (s t : State) (A B : Names) → ((x : Word) → A x ≡ true → B x ≡ true) → ((x : Word) → A x ≡ false → B x ≡ true → t x ≡ s x) → mid s t A ≡ mid s t B
mid_grow s t A B h k = is_mid s t (mid s t A) B (λ x e. in_b x e (cases_Bool (A x))) (λ x e. out_b x e (cases_Bool (A x)))
  where
    in_b : (x : Word) → B x ≡ true → (A x ≡ true) ⊎ (A x ≡ false) → mid s t A x ≡ t x
    in_b x e c = ⊎_elim (λ a. mid_in s t A x a) (λ a. mid_out s t A x a ∙ sym (k x a e)) c

    out_b : (x : Word) → B x ≡ false → (A x ≡ true) ⊎ (A x ≡ false) → mid s t A x ≡ s x
    out_b x e c = ⊎_elim (λ a. absurd (both_ways (B x) e (h x a))) (λ a. mid_out s t A x a) c

-- all names of a list that are not in another are the same
pub minus_same : (xs ys : List Word) (s t : State) → all_same (minus xs ys) s t ≡ true → (x : Word) → is_among xs x ≡ true → is_among ys x ≡ false → t x ≡ s x
minus_same [] ys s t h x e f = cc
minus_same (y ∷ xs) ys s t h x e f = by (λ g m. minus_same xs ys s t g x m f) (is_among ys y) refl
  where
    rest : (all_same (minus xs ys) s t ≡ true → is_among xs x ≡ true → t x ≡ s x) → all_same (minus xs ys) s t ≡ true → bytes_eq y x ≡ false → t x ≡ s x
    rest ih g q = ih g (⊎_elim (λ a. absurd (both_ways (bytes_eq y x) q a)) (λ b. b) (or_cases (bytes_eq y x) (is_among xs x) e))

    by : (all_same (minus xs ys) s t ≡ true → is_among xs x ≡ true → t x ≡ s x) → (b : Bool) → is_among ys y ≡ b → t x ≡ s x
    by ih true p =
        let other : bytes_eq y x ≡ false = ⊎_elim (λ a. absurd (both_ways (is_among ys x) f (subst (λ z. is_among ys z ≡ true) (same_bytes y x a) p))) (λ b. b) (cases_Bool (bytes_eq y x)) in
        rest ih (ap (λ b. all_same (cond b (minus xs ys) (y ∷ minus xs ys)) s t) (sym p) ∙ h) other
    by ih false p =
        let g = ap (λ b. all_same (cond b (minus xs ys) (y ∷ minus xs ys)) s t) (sym p) ∙ h in
        let parts = and_parts (same (t y) (s y)) (all_same (minus xs ys) s t) g in
        ⊎_elim (λ a. subst (λ z. t z ≡ s z) (same_bytes y x a) (same_is (t y) (s y) parts.0)) (λ b. rest ih parts.1 b) (cases_Bool (bytes_eq y x))

pub same_minus : (xs ys : List Word) (s t : State) → ((x : Word) → is_among xs x ≡ true → is_among ys x ≡ false → t x ≡ s x) → all_same (minus xs ys) s t ≡ true
same_minus [] ys s t h = refl
same_minus (y ∷ xs) ys s t h = by (same_minus xs ys s t (λ x e f. h x (or_right (bytes_eq y x) (is_among xs x) e) f)) (is_among ys y) refl
  where
    by : all_same (minus xs ys) s t ≡ true → (b : Bool) → is_among ys y ≡ b → all_same (cond (is_among ys y) (minus xs ys) (y ∷ minus xs ys)) s t ≡ true
    by rest true p = ap (λ b. all_same (cond b (minus xs ys) (y ∷ minus xs ys)) s t) p ∙ rest
    by rest false p =
        ap (λ b. all_same (cond b (minus xs ys) (y ∷ minus xs ys)) s t) p
        ∙ ap (λ b. b && all_same (minus xs ys) s t) (eq-value (t y) (s y) (h y (or_left (bytes_eq y y) (is_among xs y) (eq-name y y refl)) p))
        ∙ rest
