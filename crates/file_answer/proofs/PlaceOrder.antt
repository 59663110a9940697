-- The refusal that counts among bytes that offend is at the first of them: places come in the order of bytes.
use Rattle.std.proofs.Common.{◌≡◌, ◌⊎◌, inl, inr, ℕ, ◌+◌, ◌*◌, ◌/◌, ◌<◌, ◌≤◌, Bool, true, false, ◌&&◌, ◌||◌, nat_eq, nat_lt, cond, [], ◌∷◌, List, take, Option, Some, None, refl, ap, ◌∙◌, arith, le-ltb, ltb-true, ltb-false, eqb-true}
use Rattle.std.proofs.lemmas.Bool.{and_right, false_from_ne_true}
use Rattle.tla_token.specs.declared.place.Place.{Place}
use Rattle.tla_token.specs.declared.rule.Rule.{Rule}
use Rattle.tla_token.specs.declared.rule.Refusal.{Refusal}
use Rattle.tla_token.specs.Places.{step, after, start, place_at}
use Rattle.tla_token.specs.Rules.{rule_number}
use Rattle.tla_token.specs.Offences.{Offence, or_earlier, least}
use Rattle.tla_tree.proofs.StopLaws.{longer}
use Rattle.pcal_tree.specs.Offences.{is_before, is_sooner, sooner, first}
use Rattle.pcal_tree.proofs.FirstLaws.{same_first}
use Rattle.module_tree.specs.TextFront.{Text}
use Rattle.module_tree.proofs.WalkPlace.{after_both}
use Rattle.algorithm_answer.specs.TokensRefused.{placed}
use Rattle.tla_value.proofs.OrderSets.{either_swap}

-- ---- places go up

abbrev AtMost : Place → Place → Type 0
AtMost p q = (p.line < q.line) ⊎ ((p.line ≡ q.line) × (p.col ≤ q.col))

itself : (p : Place) → AtMost p p
itself p = inr (refl, omega arith)

through : (p q r : Place) → AtMost p q → AtMost q r → AtMost p r
through p q r (inl a) (inl b) = inl (omega (arith, a, b))
through p q r (inl a) (inr b) = (let e = b.0 in inl (omega (arith, a, e)))
through p q r (inr a) (inl b) = (let e = a.0 in inl (omega (arith, b, e)))
through p q r (inr a) (inr b) = (let l = a.1 in let m = b.1 in inr (a.0 ∙ b.0, omega (arith, l, m)))

one_step : (p : Place) (b : ℕ) → AtMost p (step p b)
one_step p b = by (nat_eq b 10) refl (nat_eq b 9) refl
  where
    tabbed : (c : ℕ) → c ≤ 8 * ((c + 7) / 8) + 1
    tabbed c = omega arith

    next_line : p.line < p.line + 1
    next_line = omega arith

    next_col : p.col ≤ p.col + 1
    next_col = omega arith

    by : (k : Bool) → nat_eq b 10 ≡ k → (j : Bool) → nat_eq b 9 ≡ j → AtMost p (step p b)
    by true k j jj = rw k (inl next_line)
    by false k true j = rw (k, j) (inr (refl, tabbed p.col))
    by false k false j = rw (k, j) (inr (refl, next_col))

steps : (p : Place) (bs : Text) → AtMost p (after p bs)
steps p [] = itself p
steps p (b ∷ bs) = through p (step p b) (after (step p b) bs) (one_step p b) (steps (step p b) bs)

not_before : (p q : Place) → AtMost p q → is_before q p ≡ false
not_before p q (inl l) = λ i. le-ltb q.line p.line (omega (arith, l)) i || (apart i && nat_lt q.col p.col)
  where
    apart : nat_eq q.line p.line ≡ false
    apart = false_from_ne_true (nat_eq q.line p.line) (λ h. (let e = eqb-true q.line p.line h in omega (arith, l, e)))
not_before p q (inr h) = (let e = h.0 in λ i. le-ltb q.line p.line (omega (arith, e)) i || and_right (nat_eq q.line p.line) (nat_lt q.col p.col) (le-ltb q.col p.col h.1) i)

in_order : (x : Text) (m n : ℕ) → m ≤ n → is_before (place_at x n) (place_at x m) ≡ false
in_order x m n l =
    let w = longer m n x l in
    let there : place_at x n ≡ after (place_at x m) w.0 = ap (after start) w.1 ∙ after_both start (take m x) w.0 in
    ap (λ (p : Place). is_before p (place_at x m)) there ∙ not_before (place_at x m) (after (place_at x m) w.0) (steps (place_at x m) w.0)

-- ---- of two offences

-- the refusal by an offence of a text
abbrev pub told : Text → Offence → Refusal
told x o = record { rule = o.0; place = place_at x o.1 }

-- one number first, and then what k says
abbrev Before : ℕ → ℕ → Bool → Bool
Before a b k = nat_lt a b || (nat_eq a b && k)

turned : (a b : ℕ) (k j : Bool) → Before a b k ≡ true → (k ≡ true → j ≡ false) → Before b a j ≡ false
turned a b k j e f = by (nat_lt a b) refl (nat_eq a b) refl e
  where
    apart : a < b → nat_eq b a ≡ false
    apart u = false_from_ne_true (nat_eq b a) (λ h. (let s = eqb-true b a h in omega (arith, u, s)))

    by : (l : Bool) → nat_lt a b ≡ l → (m : Bool) → nat_eq a b ≡ m → (l || (m && k)) ≡ true → Before b a j ≡ false
    by true l m mm g = (let u = ltb-true a b l in λ i. le-ltb b a (omega (arith, u)) i || (apart u i && j))
    by false l true m g = (let s = eqb-true a b m in λ i. le-ltb b a (omega (arith, s)) i || and_right (nat_eq b a) j (f g) i)
    by false l false m g = absurd cc

kept : (l m k j : Bool) → (l || (m && k)) ≡ false → (k ≡ false → j ≡ false) → (l || (m && j)) ≡ false
kept true m k j e f = e
kept false true k j e f = f e
kept false false k j e f = refl

later_than : (x : Text) (q o : Offence) → Before (rule_number q.0) (rule_number o.0) (nat_lt q.1 o.1) ≡ true → is_sooner (told x o) (told x q) ≡ false
later_than x q o e =
    turned (rule_number q.0) (rule_number o.0) (nat_lt q.1 o.1) (is_before (place_at x o.1) (place_at x q.1)) e (λ h. in_order x q.1 o.1 (up_to_it (ltb-true q.1 o.1 h)))
  where
    up_to_it : {m n : ℕ} → m < n → m ≤ n
    up_to_it l = omega (arith, l)

no_sooner : (x : Text) (q o : Offence) → Before (rule_number q.0) (rule_number o.0) (nat_lt q.1 o.1) ≡ false → is_sooner (told x q) (told x o) ≡ false
no_sooner x q o e =
    kept (nat_lt (rule_number q.0) (rule_number o.0)) (nat_eq (rule_number q.0) (rule_number o.0)) (nat_lt q.1 o.1) (is_before (place_at x q.1) (place_at x o.1)) e (λ h. in_order x o.1 q.1 (ltb-false q.1 o.1 h))

-- ---- of all

abbrev told_of : Text → Option Offence → Option Refusal
told_of x None = None
told_of x (Some o) = Some (told x o)

first_of_least : (x : Text) (os : List Offence) → first (placed x os) ≡ told_of x (least os)
first_of_least x [] = refl
first_of_least x ((r, at) ∷ os) = ap (λ (q : Option Refusal). Some (sooner t q)) (first_of_least x os) ∙ by (least os)
  where
    t : Refusal
    t = told x (r, at)

    of_two : (q : Rule) (n : ℕ) (k : Bool) → Before (rule_number q) (rule_number r) (nat_lt n at) ≡ k → Some (sooner t (Some (told x (q, n)))) ≡ Some (told x (cond k (q, n) (r, at)))
    of_two q n true e =
        let u = told x (q, n) in
        same_first (t ∷ u ∷ []) (u ∷ t ∷ []) (λ f. either_swap (f t) (f u) false) ∙ ap (λ (b : Bool). Some (cond b t u)) (later_than x (q, n) (r, at) e)
    of_two q n false e = ap (λ (b : Bool). Some (cond b (told x (q, n)) t)) (no_sooner x (q, n) (r, at) e)

    by : (m : Option Offence) → Some (sooner t (told_of x m)) ≡ told_of x (or_earlier (r, at) m)
    by None = refl
    by (Some (q, n)) = of_two q n (Before (rule_number q) (rule_number r) (nat_lt n at)) refl

pub first_told : (x : Text) (os : List Offence) (b : Offence) → least os ≡ Some b → first (placed x os) ≡ Some (told x b)
first_told x os b e = first_of_least x os ∙ ap (told_of x) e
