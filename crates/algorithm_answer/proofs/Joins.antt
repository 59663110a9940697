-- The first offence of two lists is the first one of the first ones of each.
use Rattle.std.proofs.Common.{◌≡◌, List, [], ◌∷◌, ◌++◌, Bool, true, false, ◌||◌, Option, Some, None, refl, sym, ap, ◌∙◌}
use Rattle.tla_token.specs.declared.rule.Refusal.{Refusal}
use Rattle.pcal_tree.specs.Offences.{sooner, first}
use Rattle.pcal_tree.proofs.FirstLaws.{same_first}
use Rattle.algorithm_answer.specs.Joined.{joined}

or_turned : (a b : Bool) → (a || (b || false)) ≡ (b || (a || false))
or_turned true true = refl
or_turned true false = refl
or_turned false true = refl
or_turned false false = refl

or_last : (a b c : Bool) → (a || (b || (c || false))) ≡ (c || (a || (b || false)))
or_last true true true = refl
or_last true true false = refl
or_last true false true = refl
or_last true false false = refl
or_last false true true = refl
or_last false true false = refl
or_last false false true = refl
or_last false false false = refl

-- the last one first, and then the other one last
sooner_assoc : (r p q : Refusal) → first (r ∷ p ∷ q ∷ []) ≡ first (sooner r (Some p) ∷ q ∷ [])
sooner_assoc r p q =
    same_first (r ∷ p ∷ q ∷ []) (q ∷ r ∷ p ∷ []) (λ f. or_last (f r) (f p) (f q))
    ∙ same_first (q ∷ sooner r (Some p) ∷ []) (sooner r (Some p) ∷ q ∷ []) (λ f. or_turned (f q) (f (sooner r (Some p))))

pub joined_assoc : (a b c : Option Refusal) → joined (joined a b) c ≡ joined a (joined b c)
joined_assoc None b c = refl
joined_assoc (Some r) None c = refl
joined_assoc (Some r) (Some p) None = refl
joined_assoc (Some r) (Some p) (Some q) = sym (sooner_assoc r p q)

pub joined_none : (a : Option Refusal) → joined a None ≡ a
joined_none None = refl
joined_none (Some r) = refl

pub first_append : (xs ys : List Refusal) → first (xs ++ ys) ≡ joined (first xs) (first ys)
first_append [] ys = refl
first_append (r ∷ rs) ys = ap (λ (o : Option Refusal). Some (sooner r o)) (first_append rs ys) ∙ sym (joined_assoc (Some r) (first rs) (first ys))

pub joined_turned : (a b : Option Refusal) → joined a b ≡ joined b a
joined_turned None b = sym (joined_none b)
joined_turned (Some r) None = refl
joined_turned (Some r) (Some q) = same_first (r ∷ q ∷ []) (q ∷ r ∷ []) (λ f. or_turned (f r) (f q))

-- the two behind it, the other way round
pub joined_swapped : (a b c : Option Refusal) → joined (joined a b) c ≡ joined (joined a c) b
joined_swapped a b c = joined_assoc a b c ∙ ap (joined a) (joined_turned b c) ∙ sym (joined_assoc a c b)
