-- Sets and functions in memory by their parts, and parts that are taken over.
use Rattle.std.proofs.Common.{◌≡◌, ◌≤◌, ◌<◌, Bool, true, false, cond, List, [], ◌∷◌, ◌++◌, refl, arith, Ok, Err}
use Rattle.std.specs.Prelude.{◌&&◌}
use Rattle.std.specs.declared.cmp.Ordering.{Ordering}
use Rattle.std.specs.declared.cmp.Ordering.TheVariants.{Less, Equal, Greater}
use Rattle.std.proofs.lemmas.Bool.{leb-true, and_parts}
use Rattle.tla_token.specs.declared.place.Place.{Place}
use Rattle.tla_token.specs.Limits.{most_members, deepest_value}
use Rattle.tla_value.specs.Value.{Value, Values, set, fun, no_values, and, values_in, over}
use Rattle.tla_value.specs.Order.{order, count, inserted, placed, set_from, listed, IsAscending, AreCanonical}
use Rattle.tla_value.specs.Limits.{depths, fits, fits_count, fits_parts, all_fit, bounded}
use Rattle.tla_value.specs.Sets.{kept}
use Rattle.tla_value.specs.ValueOf.{IsStored}
use Rattle.tla_value.proofs.Fits.{joined, fits_parts_of, depth_of, set_fits, set_many, fun_fits, fun_many, bounded_past, bounded_kept}
use Rattle.value_forms.specs.Parts.{IsPart, AreParts}

-- ---- parts of what is in memory

parts_all : (vs : Values) → AreCanonical vs → all_fit vs ≡ true → depths vs < deepest_value → AreParts vs
parts_all no_values c f d = tt
parts_all (and v vs) c f d =
    let b = and_parts (fits_parts v) (all_fit vs) f in ((c.0, b.0, omega arith), parts_all vs c.1 b.1 (omega arith))

pub parts_canonical : (vs : Values) → AreParts vs → AreCanonical vs
parts_canonical no_values h = tt
parts_canonical (and v vs) h = (h.0.0, parts_canonical vs h.1)

pub parts_fit : (vs : Values) → AreParts vs → all_fit vs ≡ true
parts_fit no_values h = refl
parts_fit (and v vs) h = joined (fits_parts v) (all_fit vs) h.0.1 (parts_fit vs h.1)

pub parts_shallow : (vs : Values) → AreParts vs → depths vs < deepest_value
parts_shallow no_values h = omega arith
parts_shallow (and v vs) h = omega (arith, h.0.2, parts_shallow vs h.1)

pub set_parts : (vs : Values) → IsStored (set vs) → AreParts vs
set_parts vs h =
    parts_all vs h.0.1 (and_parts (fits_count vs) (all_fit vs) (fits_parts_of (set vs) h.1)).1 (omega (arith, depth_of (set vs) h.1))

pub fun_parts : (ds vs : Values) → IsStored (fun ds vs) → AreParts ds × AreParts vs
fun_parts ds vs h =
    let b = and_parts (fits_count ds) (all_fit ds && all_fit vs) (fits_parts_of (fun ds vs) h.1) in
    let p = and_parts (all_fit ds) (all_fit vs) b.1 in
    (parts_all ds h.0.1 p.0 (omega (arith, depth_of (fun ds vs) h.1)), parts_all vs h.0.2 p.1 (omega (arith, depth_of (fun ds vs) h.1)))

pub set_count : (vs : Values) → IsStored (set vs) → count vs ≤ most_members
set_count vs h = leb-true (count vs) most_members (and_parts (fits_count vs) (all_fit vs) (fits_parts_of (set vs) h.1)).0

pub fun_count : (ds vs : Values) → IsStored (fun ds vs) → count ds ≤ most_members
fun_count ds vs h = leb-true (count ds) most_members (and_parts (fits_count ds) (all_fit ds && all_fit vs) (fits_parts_of (fun ds vs) h.1)).0

-- ---- what is made of parts

pub set_within : (vs : Values) → AreParts vs → count vs ≤ most_members → fits (set vs) ≡ true
set_within vs h l = set_fits vs l (parts_shallow vs h) (parts_fit vs h)

pub set_stored : (vs : Values) → IsAscending vs → AreParts vs → count vs ≤ most_members → IsStored (set vs)
set_stored vs a h l = ((a, parts_canonical vs h), set_within vs h l)

pub fun_within : (ds vs : Values) → AreParts ds → AreParts vs → count ds ≤ most_members → fits (fun ds vs) ≡ true
fun_within ds vs h k l = fun_fits ds vs l (parts_shallow ds h) (parts_shallow vs k) (parts_fit ds h) (parts_fit vs k)

pub fun_stored : (ds vs : Values) → IsAscending ds → AreParts ds → AreParts vs → count ds ≡ count vs → count ds ≤ most_members → IsStored (fun ds vs)
fun_stored ds vs a h k e l = ((a, parts_canonical ds h, parts_canonical vs k, e), fun_within ds vs h k l)

pub set_over : (at : Place) (vs : Values) → most_members < count vs → bounded at (set vs) ≡ Err (over at)
set_over at vs l = bounded_past at (set vs) (set vs) refl (set_many vs l)

pub set_made : (at : Place) (vs : Values) → AreParts vs → count vs ≤ most_members → bounded at (set vs) ≡ Ok (set vs)
set_made at vs h l = bounded_kept at (set vs) (set vs) refl (set_within vs h l)

pub fun_over : (at : Place) (ds vs : Values) → most_members < count ds → bounded at (fun ds vs) ≡ Err (over at)
fun_over at ds vs l = bounded_past at (fun ds vs) (fun ds vs) refl (fun_many ds vs l)

pub fun_made : (at : Place) (ds vs : Values) → AreParts ds → AreParts vs → count ds ≤ most_members → bounded at (fun ds vs) ≡ Ok (fun ds vs)
fun_made at ds vs h k l = bounded_kept at (fun ds vs) (fun ds vs) refl (fun_within ds vs h k l)

-- ---- parts that are taken over

parts_placed : (v w : Value) (ws more : Values) (r : Ordering) → IsPart v → AreParts (and w ws) → AreParts more → AreParts (placed r v w ws more)
parts_placed v w ws more Less a h rest = (a, h)
parts_placed v w ws more Equal a h rest = h
parts_placed v w ws more Greater a h rest = (h.0, rest)

pub parts_inserted : (v : Value) (vs : Values) → IsPart v → AreParts vs → AreParts (inserted v vs)
parts_inserted v no_values a h = (a, h)
parts_inserted v (and w ws) a h = parts_placed v w ws (inserted v ws) (order v w) a h (parts_inserted v ws a h.1)

pub parts_set_from : (vs : List Value) → AreParts (values_in vs) → AreParts (set_from vs)
parts_set_from [] h = tt
parts_set_from (v ∷ vs) h = parts_inserted v (set_from vs) h.0 (parts_set_from vs h.1)

pub parts_append : (vs ws : List Value) → AreParts (values_in vs) → AreParts (values_in ws) → AreParts (values_in (vs ++ ws))
parts_append [] ws h k = k
parts_append (v ∷ vs) ws h k = (h.0, parts_append vs ws h.1 k)

pub parts_listed : (vs : Values) → AreParts vs → AreParts (values_in (listed vs))
parts_listed no_values h = tt
parts_listed (and v vs) h = (h.0, parts_listed vs h.1)

kept_either : (t : Bool) (v : Value) (vs : Values) → IsPart v → AreParts vs → AreParts (cond t (and v vs) vs)
kept_either true v vs a h = (a, h)
kept_either false v vs a h = h

pub parts_kept : (p : Value → Bool) (vs : Values) → AreParts vs → AreParts (kept p vs)
parts_kept p no_values h = tt
parts_kept p (and v vs) h = kept_either (p v) v (kept p vs) h.0 (parts_kept p vs h.1)
