-- The members of each subset, as rows, and rows that are sets.
use Rattle.std.specs.Prelude.{ℕ, ◌≤◌, List, [], ◌∷◌, ◌++◌, map, length}
use Rattle.tla_value.specs.Value.{Value, set, values_in}
use Rattle.tla_value.specs.Order.{IsAscending}
use Rattle.value_forms.specs.Parts.{AreParts}

abbrev pub sub_lists : List Value → List (List Value)
sub_lists [] = [] ∷ []
sub_lists (v ∷ vs) = sub_lists vs ++ map (λ t. v ∷ t) (sub_lists vs)

abbrev pub row_set : List Value → Value
row_set t = set (values_in t)

abbrev pub IsSetRow : ℕ → List Value → Type 0
IsSetRow n t = IsAscending (values_in t) × AreParts (values_in t) × (length t ≤ n)

abbrev pub AreSetRows : ℕ → List (List Value) → Type 0
AreSetRows n [] = Unit {0}
AreSetRows n (t ∷ ts) = IsSetRow n t × AreSetRows n ts
