-- How many functions a space has, and their values as rows.
use Rattle.std.specs.Prelude.{◌≡◌, ◌*◌, ℕ, zero, suc, Bool, false, List, [], ◌∷◌, map, Option, Some, None}
use Rattle.std.specs.List.{flat_map}
use Rattle.tla_value.specs.Value.{Value, Values, no_values, and, values_in}
use Rattle.tla_value.specs.Order.{count, orders, holds, pairs_of, values_at, IsAscending}
use Rattle.tla_value.specs.Sets.{fronted, members}
use Rattle.std.specs.declared.cmp.Ordering.TheVariants.{Less}
use Rattle.value_forms.specs.Parts.{AreParts}

-- how many ways there are to take one member of each of some sets
abbrev pub ways : Values → ℕ
ways no_values = 1
ways (and s ss) = count (members s) * ways ss

-- each of some values in front of each row
abbrev pub fronted_rows : List Value → List (List Value) → List (List Value)
fronted_rows ws ts = flat_map (λ w. map (λ t. w ∷ t) ts) ws

-- rows of so many members of one set
abbrev pub power_rows : ℕ → List Value → List (List Value)
power_rows zero ws = [] ∷ []
power_rows (suc k) ws = fronted_rows ws (power_rows k ws)

-- the members of a set in front of rows, if there is a set
abbrev pub fronted_by : Option Value → List Values → List Values
fronted_by None ts = ts
fronted_by (Some s) ts = fronted (members s) ts

-- the sets beside the first of the keys that are the members of a domain
abbrev pub beside : List Value → List Value → List Value → Values
beside keys sets domain = values_at (pairs_of (values_in keys) (values_in sets)) (values_in domain)

-- whether a value is in a set, if there is a set
abbrev pub held_by : Option Value → Value → Bool
held_by None v = false
held_by (Some s) v = holds v (members s)

-- members in order, that may be parts of a value
abbrev pub IsSpace : Value → Type 0
IsSpace s = IsAscending (members s) × AreParts (members s)

abbrev pub AreSpaces : Values → Type 0
AreSpaces no_values = Unit {0}
AreSpaces (and s ss) = IsSpace s × AreSpaces ss

-- ---- rows of values of functions with so many arguments

abbrev pub IsRow : ℕ → Values → Type 0
IsRow n t = AreParts t × (count t ≡ n)

abbrev pub AreRows : ℕ → List Values → Type 0
AreRows n [] = Unit {0}
AreRows n (t ∷ ts) = IsRow n t × AreRows n ts

abbrev pub IsRowBefore : Values → List Values → Type 0
IsRowBefore r [] = Unit {0}
IsRowBefore r (t ∷ ts) = orders r t ≡ Less

-- each row before the next
abbrev pub RowsAscend : List Values → Type 0
RowsAscend [] = Unit {0}
RowsAscend (t ∷ ts) = IsRowBefore t ts × RowsAscend ts
