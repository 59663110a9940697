-- The set of some values is their list, put in order and each taken once.
use Rattle.std.proofs.Common.{◌≡◌, Bool, true, false, List, [], ◌∷◌, refl, sym, ◌∙◌, ap, subst}
use Rattle.std.specs.Prelude.{◌||◌, cond}
use Rattle.std.specs.List.{list_any, dedup, dedup_from}
use Rattle.std.specs.List.Sorted.{IsPermutation, IsSorted, IsStrictlySortedBy}
use Rattle.std.specs.List.Retain.{IsFiltered, DiffersFromLast}
use Rattle.std.proofs.lemmas.List.Sorted.{list_any-IsPermutation}
use Rattle.std.proofs.lemmas.List.Kept.{IsStrictlySortedBy-dedup}
use Rattle.std.proofs.lemmas.List.Filters.{dedup_is}
use Rattle.tla_value.specs.Value.{Value, values_in}
use Rattle.tla_value.specs.Order.{order, same, holds, set_from, IsBefore, IsAscending}
use Rattle.tla_value.specs.OrderLaws.{order_total, same_is}
use Rattle.tla_value.proofs.OrderSets.{either_twice, holds_set_from, set_from_ascending, same_members}

holds_any : (u : Value) (vs : List Value) → holds u (values_in vs) ≡ list_any (same u) vs
holds_any u [] = refl
holds_any u (v ∷ vs) = ap (λ b. same u v || b) (holds_any u vs)

dedup_by : (u k x : Value) (xs : List Value) (b : Bool) → same x k ≡ b → list_any (same u) (dedup_from same k xs) ≡ (same u k || list_any (same u) xs) → list_any (same u) (dedup_from same x xs) ≡ (same u x || list_any (same u) xs) → list_any (same u) (cond b (dedup_from same k xs) (k ∷ dedup_from same x xs)) ≡ (same u k || (same u x || list_any (same u) xs))
dedup_by u k x xs true e left right =
    left ∙ either_twice (same u k) (list_any (same u) xs) ∙ ap (λ z. same u k || (same u z || list_any (same u) xs)) (sym (same_is x k e))
dedup_by u k x xs false e left right = ap (λ b. same u k || b) right

dedup_from_any : (u k : Value) (xs : List Value) → list_any (same u) (dedup_from same k xs) ≡ (same u k || list_any (same u) xs)
dedup_from_any u k [] = refl
dedup_from_any u k (x ∷ xs) = dedup_by u k x xs (same x k) refl (dedup_from_any u k xs) (dedup_from_any u x xs)

dedup_any : (u : Value) (xs : List Value) → list_any (same u) (dedup same xs) ≡ list_any (same u) xs
dedup_any u [] = refl
dedup_any u (x ∷ xs) = dedup_from_any u x xs

before_all : (v : Value) (vs : List Value) → IsStrictlySortedBy order (v ∷ vs) → IsBefore v (values_in vs)
unfolding IsStrictlySortedBy
before_all v [] h = tt
before_all v (w ∷ vs) h = h.0.0

ascending : (vs : List Value) → IsStrictlySortedBy order vs → IsAscending (values_in vs)
unfolding IsStrictlySortedBy
ascending [] h = tt
ascending (v ∷ vs) h = (before_all v vs h, ascending vs h.1)

once : (xs ys : List Value) → IsPermutation xs ys → IsSorted order ys → values_in (dedup same ys) ≡ set_from xs
once xs ys moved sorted =
    same_members (values_in (dedup same ys)) (set_from xs) (ascending (dedup same ys) (IsStrictlySortedBy-dedup order_total (λ x y. refl) ys sorted)) (set_from_ascending xs) (λ u. holds_any u (dedup same ys) ∙ dedup_any u ys ∙ sym (list_any-IsPermutation (same u) xs ys moved) ∙ sym (holds_any u xs) ∙ sym (holds_set_from u xs))

pub sorted_once : (xs ys zs : List Value) → IsPermutation xs ys → IsSorted order ys → IsFiltered (DiffersFromLast same) [] ys zs → values_in zs ≡ set_from xs
sorted_once xs ys zs moved sorted kept = ap values_in (dedup_is same ys zs kept) ∙ once xs ys moved sorted

pub sorted_ascending : (xs ys zs : List Value) → IsPermutation xs ys → IsSorted order ys → IsFiltered (DiffersFromLast same) [] ys zs → IsAscending (values_in zs)
sorted_ascending xs ys zs moved sorted kept =
    subst IsAscending (sym (sorted_once xs ys zs moved sorted kept)) (set_from_ascending xs)
