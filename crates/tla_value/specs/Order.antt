-- The canonical order of values, and sets, functions, tuples and records in that order ("Specifying Systems", sections 16.1.6 to 16.1.10).
use Rattle.std.specs.Prelude.{◌≡◌, ℕ, pos, Bool, true, false, List, [], ◌∷◌, Option, Some, None, if◌then◌else◌, ◌||◌, suc}
use Rattle.std.specs.Cmp.Lexicographic.{slice_cmp}
use Rattle.std.specs.Ordering.{nat_cmp, int_cmp, ordering_then, is_eq}
use Rattle.std.specs.declared.cmp.Ordering.{Ordering}
use Rattle.std.specs.declared.cmp.Ordering.TheVariants.{Less, Equal, Greater}
use Rattle.tla_tree.specs.Tree.{Word}
use Rattle.tla_value.specs.Value.{Value, Values, truth, int, text, model, set, fun, no_values, and, values_in}

-- where a kind is in the order of kinds
abbrev pub kind_of : Value → ℕ
kind_of (truth b) = 0
kind_of (int z) = 1
kind_of (text w) = 2
kind_of (model w) = 3
kind_of (set vs) = 4
kind_of (fun ds vs) = 5

abbrev pub truth_rank : Bool → ℕ
truth_rank false = 0
truth_rank true = 1

abbrev pub count : Values → ℕ
count no_values = 0
count (and v vs) = suc (count vs)

-- by kind first; FALSE before TRUE, strings and model values by their bytes, sets by size and then member by member,
-- functions by their domain and then value by value in the order of the domain
abbrev mutual
  pub order : Value → Value → Ordering
  order (truth a) (truth b) = nat_cmp (truth_rank a) (truth_rank b)
  order (int a) (int b) = int_cmp a b
  order (text a) (text b) = slice_cmp nat_cmp a b
  order (model a) (model b) = slice_cmp nat_cmp a b
  order (set a) (set b) = ordering_then (nat_cmp (count a) (count b)) (orders a b)
  order (fun d a) (fun e b) = ordering_then (ordering_then (nat_cmp (count d) (count e)) (orders d e)) (orders a b)
  order a b = nat_cmp (kind_of a) (kind_of b)

  pub orders : Values → Values → Ordering
  orders no_values no_values = Equal
  orders no_values (and w ws) = Less
  orders (and v vs) no_values = Greater
  orders (and v vs) (and w ws) = ordering_then (order v w) (orders vs ws)

-- fewer members first, then member by member
abbrev pub sized : Values → Values → Ordering
sized a b = ordering_then (nat_cmp (count a) (count b)) (orders a b)

-- v = w
abbrev pub same : Value → Value → Bool
same v w = is_eq (order v w)

-- ---- sets

-- whether a value is a member
abbrev pub holds : Value → Values → Bool
holds v no_values = false
holds v (and w ws) = same v w || holds v ws

-- v before w, in the place of w, or after it, where `more` is what v makes of the members after w
abbrev pub placed : Ordering → Value → Value → Values → Values → Values
placed Less v w ws more = and v (and w ws)
placed Equal v w ws more = and w ws
placed Greater v w ws more = and w more

-- the members of a set with one more, in its canonical place, once
abbrev pub inserted : Value → Values → Values
inserted v no_values = and v no_values
inserted v (and w ws) = placed (order v w) v w ws (inserted v ws)

-- the members of the set of some values
abbrev pub set_from : List Value → Values
set_from [] = no_values
set_from (v ∷ vs) = inserted v (set_from vs)

abbrev pub listed : Values → List Value
listed no_values = []
listed (and v vs) = v ∷ listed vs

-- ---- functions

-- f[v]
abbrev pub found_at : Values → Values → Value → Option Value
found_at no_values vs v = None
found_at (and d ds) no_values v = None
found_at (and d ds) (and w ws) v = if same v d then Some w else found_at ds ws v

-- each argument with its value, in the order of the domain
abbrev pub pairs_of : Values → Values → List (Value × Value)
pairs_of no_values vs = []
pairs_of (and d ds) no_values = []
pairs_of (and d ds) (and w ws) = (d, w) ∷ pairs_of ds ws

abbrev pub arguments : List (Value × Value) → List Value
arguments [] = []
arguments (p ∷ ps) = p.0 ∷ arguments ps

-- the value of the first pair with an argument
abbrev pub first_at : List (Value × Value) → Value → Option Value
first_at [] v = None
first_at (p ∷ ps) v = if same v p.0 then Some p.1 else first_at ps v

abbrev pub in_front : Option Value → Values → Values
in_front None vs = vs
in_front (Some v) vs = and v vs

-- the values at the members of a domain
abbrev pub values_at : List (Value × Value) → Values → Values
values_at ps no_values = no_values
values_at ps (and d ds) = in_front (first_at ps d) (values_at ps ds)

abbrev pub fun_over : List (Value × Value) → Values → Value
fun_over ps ds = fun ds (values_at ps ds)

-- the function of some pairs of argument and value; of a repeated argument the first pair counts.
-- So f @@ g is that of the pairs of f with those of g after them.
abbrev pub fun_from : List (Value × Value) → Value
fun_from ps = fun_over ps (set_from (arguments ps))

-- ---- tuples: functions on 1..n

abbrev pub numbers_from : ℕ → List Value → Values
numbers_from n [] = no_values
numbers_from n (v ∷ vs) = and (int (pos n)) (numbers_from (suc n) vs)

-- <<v, w>>
abbrev pub seq_from : List Value → Value
seq_from vs = fun (numbers_from 1 vs) (values_in vs)

-- the elements of a function that is a sequence
abbrev pub sequence_of : Value → Option (List Value)
sequence_of (fun ds vs) = if is_eq (orders ds (numbers_from 1 (listed vs))) then Some (listed vs) else None
sequence_of _ = None

-- ---- records: functions on strings

abbrev pub field_pairs : List Word → List Value → List (Value × Value)
field_pairs [] vs = []
field_pairs (x ∷ xs) [] = []
field_pairs (x ∷ xs) (v ∷ vs) = (text x, v) ∷ field_pairs xs vs

-- [x |-> v, y |-> w]; of a repeated field the first counts
abbrev pub record_from : List Word → List Value → Value
record_from xs vs = fun_from (field_pairs xs vs)

-- ---- canonical values

-- v is before a list
abbrev pub IsBefore : Value → Values → Type 0
IsBefore v no_values = Unit {0}
IsBefore v (and w ws) = order v w ≡ Less

-- each member before the next
abbrev pub IsAscending : Values → Type 0
IsAscending no_values = Unit {0}
IsAscending (and v vs) = IsBefore v vs × IsAscending vs

-- sets and domains ascend, and a function has a value for each argument, in all parts
abbrev mutual
  pub IsCanonical : Value → Type 0
  IsCanonical (truth b) = Unit {0}
  IsCanonical (int z) = Unit {0}
  IsCanonical (text w) = Unit {0}
  IsCanonical (model w) = Unit {0}
  IsCanonical (set vs) = IsAscending vs × AreCanonical vs
  IsCanonical (fun ds vs) = IsAscending ds × AreCanonical ds × AreCanonical vs × (count ds ≡ count vs)

  pub AreCanonical : Values → Type 0
  AreCanonical no_values = Unit {0}
  AreCanonical (and v vs) = IsCanonical v × AreCanonical vs

abbrev pub ArePairsCanonical : List (Value × Value) → Type 0
ArePairsCanonical [] = Unit {0}
ArePairsCanonical (p ∷ ps) = (IsCanonical p.0 × IsCanonical p.1) × ArePairsCanonical ps
