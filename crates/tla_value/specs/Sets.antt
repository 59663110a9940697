-- Sets of sets, of functions and of integers by their members ("Specifying Systems", sections 6.1, 16.1.6 to 16.1.8).
use Rattle.std.specs.Prelude.{ℕ, zero, suc, ℤ, pos, negsuc, ◌+ℤ◌, ◌-ℤ◌, Bool, true, false, ◌&&◌, List, [], ◌∷◌, ◌++◌, map, cond, not, Ok}
use Rattle.std.specs.List.{flat_map}
use Rattle.tla_token.specs.declared.place.Place.{Place}
use Rattle.tla_value.specs.Value.{Value, Values, int, set, fun, no_values, and, Outcome, ◌>>=◌, in_order}
use Rattle.tla_value.specs.Order.{same, holds, set_from, listed}
use Rattle.tla_value.specs.Stops.{members_at}

abbrev pub kept : (Value → Bool) → Values → Values
kept p no_values = no_values
kept p (and v vs) = cond (p v) (and v (kept p vs)) (kept p vs)

-- all are members
abbrev pub all_in : Values → Values → Bool
all_in no_values ws = true
all_in (and v vs) ws = holds v ws && all_in vs ws

abbrev pub cup : Values → Values → Values
cup a b = set_from (listed a ++ listed b)

abbrev pub cap : Values → Values → Values
cap a b = kept (λ v. holds v b) a

abbrev pub without : Values → Values → Values
without a b = kept (λ v. not (holds v b)) a

-- the members of the members; each must be a set
abbrev pub union_of : Place → Values → Outcome (List Value)
union_of at vs = do
  ss ← in_order (members_at at) (listed vs)
  Ok (flat_map listed ss)

-- SUBSET
abbrev pub sublists : Values → List Values
sublists no_values = no_values ∷ []
sublists (and v vs) = sublists vs ++ map (and v) (sublists vs)

abbrev pub subsets : Values → Values
subsets vs = set_from (map set (sublists vs))

abbrev pub natural : ℤ → ℕ
natural (pos n) = n
natural (negsuc n) = 0

-- so many integers from m on
abbrev pub integers : ℕ → ℤ → Values
integers zero m = no_values
integers (suc k) m = and (int m) (integers k (m +ℤ pos 1))

-- m..n
abbrev pub range : ℤ → ℤ → Values
range m n = integers (natural ((n +ℤ pos 1) -ℤ m)) m

-- b for each of ds
abbrev pub repeated : Values → Value → Values
repeated no_values b = no_values
repeated (and d ds) b = and b (repeated ds b)

abbrev pub fronted : Values → List Values → List Values
fronted no_values ts = []
fronted (and w ws) ts = map (and w) ts ++ fronted ws ts

abbrev pub members : Value → Values
members (set ws) = ws
members _ = no_values

-- one member of each of the sets
abbrev pub choices : Values → List Values
choices no_values = no_values ∷ []
choices (and s ss) = fronted (members s) (choices ss)

abbrev pub all_chosen : Values → Values → Bool
all_chosen no_values no_values = true
all_chosen (and v vs) (and s ss) = holds v (members s) && all_chosen vs ss
all_chosen _ _ = false

-- the functions with domain ds and a value of the set beside each argument: [A -> B] and [a : A, b : B]
abbrev pub functions_over : Values → Values → Values
functions_over ds ss = set_from (map (fun ds) (choices ss))

abbrev pub is_function_over : Value → Values → Values → Bool
is_function_over (fun es vs) ds ss = same (set es) (set ds) && all_chosen vs ss
is_function_over _ ds ss = false

abbrev pub is_subset : Value → Values → Bool
is_subset (set vs) ws = all_in vs ws
is_subset _ ws = false
