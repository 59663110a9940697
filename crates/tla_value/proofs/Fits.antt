-- What it is for a value to be within the limits, part by part.
use Rattle.std.proofs.Common.{◌≡◌, ℕ, suc, pos, ◌+◌, ◌≤◌, ◌<◌, Bool, true, false, List, [], ◌∷◌, length, refl, sym, ap, ◌∙◌, arith, Ok, Err}
use Rattle.std.specs.Prelude.{◌&&◌, ◌^◌, nat_le, if◌then◌else◌}
use Rattle.std.proofs.lemmas.Bool.{leb-true, le-leb, and_parts, false_from_ne_true}
use Rattle.tla_token.specs.declared.place.Place.{Place}
use Rattle.tla_token.specs.Limits.{most_members, deepest_value}
use Rattle.tla_value.specs.Value.{Value, Values, set, fun, values_in, over}
use Rattle.tla_value.specs.Order.{count, numbers_from, seq_from}
use Rattle.tla_value.specs.Limits.{depth, depths, fits, fits_int, fits_count, fits_parts, all_fit, bounded}
use Rattle.tla_value.proofs.ValueLists.{count-values_in}
use Rattle.tla_value.proofs.OrderFuns.{count_numbered}

pub joined : (a b : Bool) → a ≡ true → b ≡ true → (a && b) ≡ true
joined a b h k = λ i. h i && k i

pub fits_parts_of : (v : Value) → fits v ≡ true → fits_parts v ≡ true
fits_parts_of v h = (and_parts (fits_parts v) (nat_le (depth v) deepest_value) h).0

pub depth_of : (v : Value) → fits v ≡ true → depth v ≤ deepest_value
depth_of v h = leb-true (depth v) deepest_value (and_parts (fits_parts v) (nat_le (depth v) deepest_value) h).1

pub fits_by : (v : Value) → fits_parts v ≡ true → depth v ≤ deepest_value → fits v ≡ true
fits_by v h k = joined (fits_parts v) (nat_le (depth v) deepest_value) h (le-leb (depth v) deepest_value k)

-- ---- sets and functions

count_of : (vs : Values) → fits_count vs ≡ true → count vs ≤ most_members
count_of vs h = leb-true (count vs) most_members h

pub set_many : (vs : Values) → most_members < count vs → fits (set vs) ≡ false
set_many vs l = false_from_ne_true (fits (set vs)) (λ h. omega (arith, count_of vs (and_parts (fits_count vs) (all_fit vs) (fits_parts_of (set vs) h)).0))

pub set_deep : (vs : Values) → deepest_value ≤ depths vs → fits (set vs) ≡ false
set_deep vs l = false_from_ne_true (fits (set vs)) (λ h. omega (arith, depth_of (set vs) h))

pub set_fits : (vs : Values) → count vs ≤ most_members → depths vs < deepest_value → all_fit vs ≡ true → fits (set vs) ≡ true
set_fits vs l d h = fits_by (set vs) (joined (fits_count vs) (all_fit vs) (le-leb (count vs) most_members l) h) (omega arith)

pub fun_many : (ds vs : Values) → most_members < count ds → fits (fun ds vs) ≡ false
fun_many ds vs l =
    false_from_ne_true (fits (fun ds vs)) (λ h. omega (arith, count_of ds (and_parts (fits_count ds) (all_fit ds && all_fit vs) (fits_parts_of (fun ds vs) h)).0))

pub fun_deep : (ds vs : Values) → deepest_value ≤ depths vs → fits (fun ds vs) ≡ false
fun_deep ds vs l = false_from_ne_true (fits (fun ds vs)) (λ h. omega (arith, depth_of (fun ds vs) h))

pub fun_fits : (ds vs : Values) → count ds ≤ most_members → depths ds < deepest_value → depths vs < deepest_value → all_fit ds ≡ true → all_fit vs ≡ true → fits (fun ds vs) ≡ true
fun_fits ds vs l d e h k =
    fits_by (fun ds vs) (joined (fits_count ds) (all_fit ds && all_fit vs) (le-leb (count ds) most_members l) (joined (all_fit ds) (all_fit vs) h k)) (omega arith)

-- ---- the domain of a tuple

pub numbered_flat : (n : ℕ) (vs : List Value) → depths (numbers_from n vs) ≡ 0
numbered_flat n [] = refl
numbered_flat n (v ∷ vs) = omega (arith, numbered_flat (suc n) vs)

pub numbered_fit : (n : ℕ) (vs : List Value) → n + length vs ≤ suc most_members → all_fit (numbers_from n vs) ≡ true
numbered_fit n [] h = refl
numbered_fit n (v ∷ vs) h =
    joined (fits_int (pos n)) (all_fit (numbers_from (suc n) vs)) (le-leb (suc n) (2 ^ 127) (omega arith)) (numbered_fit (suc n) vs (omega arith))

pub seq_fits : (vs : List Value) → length vs ≤ most_members → depths (values_in vs) < deepest_value → all_fit (values_in vs) ≡ true → fits (seq_from vs) ≡ true
seq_fits vs l d h =
    fun_fits (numbers_from 1 vs) (values_in vs) (omega (arith, count_numbered 1 vs, count-values_in vs)) (omega (arith, numbered_flat 1 vs)) d (numbered_fit 1 vs (omega arith)) h

-- ---- a value that is reached

pub bounded_past : (at : Place) (v w : Value) → v ≡ w → fits v ≡ false → bounded at w ≡ Err (over at)
bounded_past at v w e h = ap (bounded at) (sym e) ∙ ap (λ b. if b then Ok v else Err (over at)) h

pub bounded_kept : (at : Place) (v w : Value) → v ≡ w → fits v ≡ true → bounded at w ≡ Ok v
bounded_kept at v w e h = ap (bounded at) (sym e) ∙ ap (λ b. if b then Ok v else Err (over at)) h
