-- The last action of a name among the first ones.
use Rattle.std.proofs.Common.{◌≡◌, ℕ, zero, suc, ◌+◌, ◌-◌, ◌<◌, ◌≤◌, List, length, get_or, Bool, true, false, cond, bytes_eq, Option, Some, slice_get, sym, ap, subst, ◌∙◌, arith, add-one}
use Rattle.std.proofs.lemmas.Option.{slice_get-get_or}
use Rattle.tla_tree.specs.Tree.{Word}
use Rattle.algorithm_limits.specs.Numbers.{Numbers, number_of, with_number}
use Rattle.algorithm_limits.proofs.Tables.{number_of_with}
use Rattle.module_write.specs.declared.«module».Action.{Action}
use Rattle.action_truth.specs.AskedOf.{is_titled, last_titled}

pub titled_next : (acts : List Action) (x : Word) (n : ℕ) (a : Action) → a ≡ get_or acts n a → n < length acts → last_titled acts x (suc n) ≡ cond (bytes_eq a.title x) (suc n) (last_titled acts x n)
titled_next acts x n a is less = ap (λ (o : Option Action). cond (is_titled x o) (suc n) (last_titled acts x n)) (slice_get-get_or acts n a less ∙ ap (λ (b : Action). Some b) (sym is))

among_more : (acts : List Action) (x : Word) (n d : ℕ) → last_titled acts x (n + d) ≤ n → last_titled acts x n ≡ last_titled acts x (n + d)
among_more acts x n zero within = ap (last_titled acts x) (let e : n ≡ n + 0 = omega arith in e)
among_more acts x n (suc d) within =
    let e : n + suc d ≡ suc (n + d) = omega arith in
    by (is_titled x (slice_get acts (n + d))) (λ w. among_more acts x n d w) (subst (λ (k : ℕ). last_titled acts x k ≤ n) e within) ∙ sym (ap (last_titled acts x) e)
  where
    by : (b : Bool) → (last_titled acts x (n + d) ≤ n → last_titled acts x n ≡ last_titled acts x (n + d)) → cond b (suc (n + d)) (last_titled acts x (n + d)) ≤ n → last_titled acts x n ≡ cond b (suc (n + d)) (last_titled acts x (n + d))
    by true before w = absurd (let no : ⊥ = omega (arith, w) in no)
    by false before w = before w

-- where the last of more is among these, it is their last
pub titled_among : (acts : List Action) (x : Word) (n m : ℕ) → n ≤ m → last_titled acts x m ≤ n → last_titled acts x n ≡ last_titled acts x m
titled_among acts x n m le within =
    let e : m ≡ n + (m - n) = omega (arith, le) in
    among_more acts x n (m - n) (subst (λ (k : ℕ). last_titled acts x k ≤ n) e within) ∙ sym (ap (last_titled acts x) e)

-- ---- the table

pub table_next : (acts : List Action) (old new : Numbers) (i : ℕ) (a : Action) → a ≡ get_or acts i a → i < length acts → new ≡ with_number old a.title (i + 1) → ((x : Word) → number_of old x ≡ last_titled acts x i) → (x : Word) → number_of new x ≡ last_titled acts x (i + 1)
table_next acts old new i a is less e h x =
    ap (λ (es : Numbers). number_of es x) e
    ∙ number_of_with old a.title (i + 1) x
    ∙ ap (cond (bytes_eq a.title x) (i + 1)) (h x)
    ∙ ap (λ (n : ℕ). cond (bytes_eq a.title x) n (last_titled acts x i)) (add-one i)
    ∙ sym (titled_next acts x i a is less)
    ∙ sym (ap (last_titled acts x) (add-one i))

-- ---- the scan

pub titled_here : (acts : List Action) (x : Word) (n k : ℕ) (a : Action) → n ≡ suc k → k < length acts → a ≡ get_or acts k a → bytes_eq a.title x ≡ true → last_titled acts x n ≡ n
titled_here acts x n k a e less is t = ap (last_titled acts x) e ∙ titled_next acts x k a is less ∙ ap (λ (b : Bool). cond b (suc k) (last_titled acts x k)) t ∙ sym e

pub titled_before : (acts : List Action) (x : Word) (n k : ℕ) (a : Action) → n ≡ suc k → k < length acts → a ≡ get_or acts k a → bytes_eq a.title x ≡ false → last_titled acts x n ≡ last_titled acts x k
titled_before acts x n k a e less is t = ap (last_titled acts x) e ∙ titled_next acts x k a is less ∙ ap (λ (b : Bool). cond b (suc k) (last_titled acts x k)) t
