-- Truths that tell of facts: of conjunctions, disjunctions and members of a set.
use Rattle.std.proofs.Common.{◌≡◌, Bool, true, false, ◌||◌, ◌⊎◌, inl, inr, refl, ap, ◌∙◌, Ok, Err}
use Rattle.std.proofs.lemmas.Bool.{or_cases, or_left, or_right, both_ways}
use Rattle.tla_value.specs.Value.{Value, Values, no_values, and, and_then, or_all, Outcome, TrueExactly}
use Rattle.module_tree.specs.ActionTruth.{Verdict, some_member}
use Rattle.tla_value.specs.laws.Places.{AgreeButPlaces}

-- the second is looked at only where the first is so
pub tells_and : (p q : Verdict) (P Q : Type 0) → TrueExactly p P → (P → TrueExactly q Q) → TrueExactly (and_then p q) (P × Q)
tells_and p q P Q (true, e, h) k =
    let f = h.0 refl in
    let w = k f in
    (w.0, ap (λ p. and_then p q) e ∙ w.1, (λ b. (f, w.2.0 b), λ x. w.2.1 x.1))
tells_and p q P Q (false, e, h) k = (false, ap (λ p. and_then p q) e, (λ b. absurd (both_ways false refl b), λ x. absurd (both_ways false refl (h.1 x.0))))

pub tells_or : (p q : Verdict) (P Q : Type 0) → TrueExactly p P → TrueExactly q Q → TrueExactly (or_all p q) (P ⊎ Q)
tells_or p q P Q (a, e, h) (b, f, k) = (a || b, (λ i. or_all (e i) (f i)), (to, from))
  where
    to : (a || b) ≡ true → P ⊎ Q
    to d = elim (or_cases a b d) [ inl x ↦ inl (h.0 x) | inr y ↦ inr (k.0 y) ]

    from : P ⊎ Q → (a || b) ≡ true
    from (inl x) = or_left a b (h.1 x)
    from (inr y) = or_right a b (k.1 y)

pub tells_as : (r : Verdict) (P Q : Type 0) → TrueExactly r P → (P → Q) → (Q → P) → TrueExactly r Q
tells_as r P Q (b, e, h) f g = (b, e, (λ d. f (h.0 d), λ q. h.1 (g q)))

pub tells_of : (r q : Verdict) (P : Type 0) → r ≡ q → TrueExactly q P → TrueExactly r P
tells_of r q P d (b, e, h) = (b, d ∙ e, h)

-- one of these values is so
abbrev pub Some_of : Values → (Value → Type 0) → Type 0
Some_of no_values P = ⊥
Some_of (and v vs) P = P v ⊎ Some_of vs P

pub tells_some : (vs : Values) (go : Value → Verdict) (P : Value → Type 0) → ((v : Value) → TrueExactly (go v) (P v)) → TrueExactly (some_member vs go) (Some_of vs P)
tells_some no_values go P h = (false, refl, (λ b. absurd (both_ways false refl b), λ x. absurd x))
tells_some (and v vs) go P h = tells_or (go v) (some_member vs go) (P v) (Some_of vs P) (h v) (tells_some vs go P h)

-- what is the same but for places, and no trouble, is true of the same
pub tells_placeless : (x y : Verdict) (Q : Type 0) → AgreeButPlaces x y → TrueExactly y Q → TrueExactly x Q
tells_placeless (Ok a) y Q h (b, e, k) = (b, ap (λ z. Ok z) (agreed y h e), k)
  where
    agreed : (y : Verdict) → AgreeButPlaces (Ok a) y → y ≡ Ok b → a ≡ b
    agreed (Ok c) h e = h ∙ ap (λ (o : Outcome Bool). elim o [ Ok z ↦ z | Err k ↦ c ]) e
    agreed (Err z) h e = absurd h
tells_placeless (Err j) y Q h (b, e, k) = never y h e
  where
    never : (y : Verdict) → AgreeButPlaces {X = Bool} (Err j) y → y ≡ Ok b → TrueExactly (Err j) Q
    never (Ok c) h e = absurd h
    never (Err z) h e = cc
