-- The functions of a space, in order: how many they are, and what they are made of.
use Rattle.std.proofs.Common.{◌≡◌, ℕ, zero, suc, ◌+◌, ◌*◌, ◌<◌, false, List, [], ◌∷◌, ◌++◌, map, length, length-append, take, get_or, Option, Some, None, refl, sym, ap, ◌∙◌, subst, arith}
use Rattle.std.specs.Prelude.{◌^◌, is_some}
use Rattle.std.specs.Ordering.{ordering_then}
use Rattle.std.proofs.Math.Nat.{zero-mul, suc-mul, pow-zero, pow-succ'}
use Rattle.std.proofs.lemmas.List.{length-map, take_more, flat_map_more}
use Rattle.tla_value.specs.Value.{Value, Values, truth, int, text, model, set, fun, no_values, and, values_in}
use Rattle.tla_value.specs.Order.{orders, count, set_from, IsBefore, IsAscending}
use Rattle.tla_value.specs.OrderLaws.{order_self, orders_self, nat_self}
use Rattle.tla_value.specs.Sets.{fronted, members, choices, repeated, functions_over}
use Rattle.tla_value.specs.ValueOf.{IsStored}
use Rattle.tla_value.proofs.OrderSets.{set_from_listed}
use Rattle.tla_value.proofs.OrderFuns.{listed_values}
use Rattle.tla_value.proofs.ValueLists.{count-values_in}
use Rattle.tla_token.specs.Limits.{most_members}
use Rattle.value_forms.specs.Counts.{Counts}
use Rattle.value_forms.specs.Parts.{AreParts}
use Rattle.value_forms.proofs.PartLaws.{set_parts}
use Rattle.space_forms.specs.Spaces.{ways, fronted_rows, power_rows, IsSpace, AreSpaces, IsRow, AreRows, IsRowBefore, RowsAscend}
use Rattle.space_forms.proofs.SubListLaws.{map_append, front_rows}

-- ---- rows in order

abbrev EachBefore : List Values → List Values → Type 0
EachBefore [] ts = Unit {0}
EachBefore (s ∷ ss) ts = IsRowBefore s ts × EachBefore ss ts

before_append : (r : Values) (ss ts : List Values) → IsRowBefore r ss → IsRowBefore r ts → IsRowBefore r (ss ++ ts)
before_append r [] ts h k = k
before_append r (s ∷ ss) ts h k = h

rows_append : (ss ts : List Values) → RowsAscend ss → RowsAscend ts → EachBefore ss ts → RowsAscend (ss ++ ts)
rows_append [] ts h k b = k
rows_append (s ∷ ss) ts h k b = (before_append s ss ts h.0 b.0, rows_append ss ts h.1 k b.1)

front_before : (w : Value) (r : Values) (ts : List Values) → IsRowBefore r ts → IsRowBefore (and w r) (map (and w) ts)
front_before w r [] h = tt
front_before w r (t ∷ ts) h = ap (λ o. ordering_then o (orders r t)) (order_self w) ∙ h

front_ascend : (w : Value) (ts : List Values) → RowsAscend ts → RowsAscend (map (and w) ts)
front_ascend w [] h = tt
front_ascend w (t ∷ ts) h = (front_before w t ts h.0, front_ascend w ts h.1)

fronted_none : (ws : Values) → fronted ws [] ≡ []
fronted_none no_values = refl
fronted_none (and w ws) = fronted_none ws

first_before : (w : Value) (r ws : Values) (ts : List Values) → IsBefore w ws → IsRowBefore (and w r) (fronted ws ts)
first_before w r no_values ts b = tt
first_before w r (and v ws) [] b = subst (IsRowBefore (and w r)) (sym (fronted_none ws)) tt
first_before w r (and v ws) (t ∷ ts) b = ap (λ o. ordering_then o (orders r t)) b

all_before : (w : Value) (us : List Values) (ws : Values) (ts : List Values) → IsBefore w ws → EachBefore (map (and w) us) (fronted ws ts)
all_before w [] ws ts b = tt
all_before w (u ∷ us) ws ts b = (first_before w u ws ts b, all_before w us ws ts b)

fronted_ascend : (ws : Values) (ts : List Values) → IsAscending ws → RowsAscend ts → RowsAscend (fronted ws ts)
fronted_ascend no_values ts a h = tt
fronted_ascend (and w ws) ts a h =
    rows_append (map (and w) ts) (fronted ws ts) (front_ascend w ts h) (fronted_ascend ws ts a.1 h) (all_before w ts ws ts a.0)

pub choices_ascend : (ss : Values) → AreSpaces ss → RowsAscend (choices ss)
choices_ascend no_values h = (tt, tt)
choices_ascend (and s ss) h = fronted_ascend (members s) (choices ss) h.0.0 (choices_ascend ss h.1)

fun_before : (ds r : Values) (ts : List Values) → IsRowBefore r ts → IsBefore (fun ds r) (values_in (map (fun ds) ts))
fun_before ds r [] h = tt
fun_before ds r (t ∷ ts) h = (λ i. ordering_then (ordering_then (nat_self (count ds) i) (orders_self ds i)) (orders r t)) ∙ h

pub functions_ascend : (ds : Values) (ts : List Values) → RowsAscend ts → IsAscending (values_in (map (fun ds) ts))
functions_ascend ds [] h = tt
functions_ascend ds (t ∷ ts) h = (fun_before ds t ts h.0, functions_ascend ds ts h.1)

-- the functions in order, as the rows are
pub functions_listed : (ds ss : Values) → AreSpaces ss → functions_over ds ss ≡ values_in (map (fun ds) (choices ss))
functions_listed ds ss h =
    ap set_from (sym (listed_values (map (fun ds) (choices ss)))) ∙ set_from_listed (values_in (map (fun ds) (choices ss))) (functions_ascend ds (choices ss) (choices_ascend ss h))

-- ---- how many they are

fronted_many : (ws : Values) (ts : List Values) → length (fronted ws ts) ≡ count ws * length ts
fronted_many no_values ts = sym (zero-mul (length ts))
fronted_many (and w ws) ts =
    omega (arith, length-append (map (and w) ts) (fronted ws ts), length-map ts (and w), fronted_many ws ts, suc-mul (count ws) (length ts))

pub choices_many : (ss : Values) → length (choices ss) ≡ ways ss
choices_many no_values = refl
choices_many (and s ss) = fronted_many (members s) (choices ss) ∙ ap (λ n. count (members s) * n) (choices_many ss)

pub functions_counted : (ds ss : Values) → AreSpaces ss → count (functions_over ds ss) ≡ ways ss
functions_counted ds ss h =
    ap count (functions_listed ds ss h) ∙ count-values_in (map (fun ds) (choices ss)) ∙ length-map (choices ss) (fun ds) ∙ choices_many ss

-- ---- what they are made of

rows_both : (n : ℕ) (ss ts : List Values) → AreRows n ss → AreRows n ts → AreRows n (ss ++ ts)
rows_both n [] ts h k = k
rows_both n (s ∷ ss) ts h k = (h.0, rows_both n ss ts h.1 k)

fronted_rows_are : (n : ℕ) (ws : Values) (ts : List Values) → AreParts ws → AreRows n ts → AreRows (suc n) (fronted ws ts)
fronted_rows_are n no_values ts p h = tt
fronted_rows_are n (and w ws) ts p h = rows_both (suc n) (map (and w) ts) (fronted ws ts) (each ts h) (fronted_rows_are n ws ts p.1 h)
  where
    each : (us : List Values) → AreRows n us → AreRows (suc n) (map (and w) us)
    each [] k = tt
    each (u ∷ us) k = (((p.0, k.0.0), ap suc k.0.1), each us k.1)

pub choices_are_rows : (ss : Values) → AreSpaces ss → AreRows (count ss) (choices ss)
choices_are_rows no_values h = ((tt, refl), tt)
choices_are_rows (and s ss) h = fronted_rows_are (count ss) (members s) (choices ss) h.0.1 (choices_are_rows ss h.1)

pub row_at : (n : ℕ) (ts : List (List Value)) (i : ℕ) (t : List Value) → i < length ts → t ≡ get_or ts i t → AreRows n (map values_in ts) → IsRow n (values_in t)
row_at n [] i t l e h = absurd (omega arith)
row_at n (s ∷ ts) zero t l e h = subst (λ u. IsRow n (values_in u)) (sym e) h.0
row_at n (s ∷ ts) (suc i) t l e h = row_at n ts i t (omega arith) e h.1

-- ---- sets in memory

pub is_space : (s : Value) → IsStored s → IsSpace s
is_space (set ws) h = (h.0.0, set_parts ws h)
is_space (truth b) h = (tt, tt)
is_space (int z) h = (tt, tt)
is_space (text w) h = (tt, tt)
is_space (model w) h = (tt, tt)
is_space (fun ds vs) h = (tt, tt)

-- one set for each argument

pub repeated_spaces : (ds : Values) (s : Value) → IsSpace s → AreSpaces (repeated ds s)
repeated_spaces no_values s h = tt
repeated_spaces (and d ds) s h = (h, repeated_spaces ds s h)

pub count_repeated : (ds : Values) (s : Value) → count (repeated ds s) ≡ count ds
count_repeated no_values s = refl
count_repeated (and d ds) s = ap suc (count_repeated ds s)

pub ways_power : (ds : Values) (s : Value) → ways (repeated ds s) ≡ count (members s) ^ count ds
ways_power no_values s = sym (pow-zero (count (members s)))
ways_power (and d ds) s = ap (λ n. count (members s) * n) (ways_power ds s) ∙ sym (pow-succ' (count (members s)) (count ds))

-- ---- rows in code

pub fronted_next : (ws : List Value) (ts : List (List Value)) (i : ℕ) (w : Value) → i < length ws → w ≡ get_or ws i w → (fronted_rows (take i ws) ts ++ map (λ t. w ∷ t) ts) ≡ fronted_rows (take (i + 1) ws) ts
fronted_next ws ts i w lt is =
    flat_map_more (λ v. map (λ t. v ∷ t) ts) [] (take i ws) w ∙ ap (λ v. fronted_rows (take i ws ++ v ∷ []) ts) is ∙ ap (λ l. fronted_rows l ts) (sym (take_more ws i w lt))

pub fronted_values : (ws : List Value) (ts : List (List Value)) → map values_in (fronted_rows ws ts) ≡ fronted (values_in ws) (map values_in ts)
fronted_values [] ts = refl
fronted_values (w ∷ ws) ts = map_append values_in (map (λ t. w ∷ t) ts) (fronted_rows ws ts) ∙ (λ i. front_rows w ts i ++ fronted_values ws ts i)

pub power_choices : (ws : List Value) (ds : Values) → map values_in (power_rows (count ds) ws) ≡ choices (repeated ds (set (values_in ws)))
power_choices ws no_values = refl
power_choices ws (and d ds) = fronted_values ws (power_rows (count ds) ws) ∙ ap (fronted (values_in ws)) (power_choices ws ds)

pub functions_rows : (ds : Values) (ts : List (List Value)) → map (λ t. fun ds (values_in t)) ts ≡ map (fun ds) (map values_in ts)
functions_rows ds [] = refl
functions_rows ds (t ∷ ts) = ap (λ l. fun ds (values_in t) ∷ l) (functions_rows ds ts)

-- ---- what a count tells

pub power_ways : (ds ws : List Value) → length ws ^ length ds ≡ ways (repeated (values_in ds) (set (values_in ws)))
power_ways ds ws =
    (λ i. sym (count-values_in ws) i ^ sym (count-values_in ds) i) ∙ sym (ways_power (values_in ds) (set (values_in ws)))

pub many_over : (ds ws : List Value) (p : Option ℕ) → IsStored (set (values_in ws)) → is_some p ≡ false → Counts p (length ws ^ length ds) → most_members < count (functions_over (values_in ds) (repeated (values_in ds) (set (values_in ws))))
many_over ds ws (Some n) h e k = cc
many_over ds ws None h e k =
    let s = set (values_in ws) in
    subst (λ n. most_members < n) (power_ways ds ws ∙ sym (functions_counted (values_in ds) (repeated (values_in ds) s) (repeated_spaces (values_in ds) s (is_space s h)))) k
