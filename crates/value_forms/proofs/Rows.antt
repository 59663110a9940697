-- Values in a list, one after the other.
use Rattle.std.proofs.lemmas.List.{take_all}
use Rattle.std.proofs.Common.{◌≡◌, ℕ, zero, suc, ◌+◌, ◌-◌, length-drop, ◌<◌, ◌≤◌, List, [], ◌∷◌, ◌++◌, length, take, drop, get_or, refl, sym, ap, ◌∙◌, arith, Bool, true, false, if◌then◌else◌}
use Rattle.std.proofs.Math.ListN.{drop_of_length-le}
use Rattle.tla_value.specs.Value.{Value, Values, no_values, and, values_in}
use Rattle.tla_value.specs.Order.{IsAscending}
use Rattle.tla_value.proofs.ValueLists.{values_in-drop}
use Rattle.value_forms.specs.Parts.{follow}

pub follow_nothing : (vs : Values) → follow vs no_values ≡ vs
follow_nothing no_values = refl
follow_nothing (and v vs) = ap (and v) (follow_nothing vs)

pub follow_follow : (a b c : Values) → follow (follow a b) c ≡ follow a (follow b c)
follow_follow no_values b c = refl
follow_follow (and v a) b c = ap (and v) (follow_follow a b c)

pub values_append : (xs ys : List Value) → values_in (xs ++ ys) ≡ follow (values_in xs) (values_in ys)
values_append [] ys = refl
values_append (x ∷ xs) ys = ap (and x) (values_append xs ys)

-- the value at a place, and those after it
pub split_at : (xs : List Value) (i : ℕ) (v : Value) → i < length xs → v ≡ get_or xs i v → values_in (drop i xs) ≡ and v (values_in (drop (i + 1) xs))
split_at xs i v lt is = values_in-drop xs i v lt ∙ ap (λ u. and u (values_in (drop (i + 1) xs))) (sym is)

pub nothing_left : (xs : List Value) (i : ℕ) → length xs ≤ i → values_in (drop i xs) ≡ no_values
nothing_left xs i le = ap values_in (drop_of_length-le xs le)

ascending_rest : (vs : Values) → (v : Value) → IsAscending (and v vs) → IsAscending vs
ascending_rest vs v h = h.1

pub ascending_drop : (xs : List Value) (i : ℕ) → IsAscending (values_in xs) → IsAscending (values_in (drop i xs))
ascending_drop [] zero h = tt
ascending_drop [] (suc i) h = tt
ascending_drop (x ∷ xs) zero h = h
ascending_drop (x ∷ xs) (suc i) h = ascending_drop xs i h.1

pub follow_if : (t : Bool) (v : Value) → values_in (if t then v ∷ [] else []) ≡ (if t then and v no_values else no_values)
follow_if true v = refl
follow_if false v = refl

-- the rest of a list, as a range of it is seen
pub rest_is : (xs : List Value) (i : ℕ) → take (length xs - i) (drop i xs) ≡ drop i xs
rest_is xs i = take_all (length xs - i) (drop i xs) (omega (arith, length-drop i xs))
