-- The value of an expression is canonical where its names stand for canonical values.
use Rattle.std.proofs.Common.{◌≡◌, suc, ℤ, pos, ◌+ℤ◌, ◌-ℤ◌, Bool, true, false, if◌then◌else◌, List, [], ◌∷◌, ◌++◌, map, Option, Some, None, refl, ◌∙◌, ap, Ok, Err}
use Rattle.std.specs.Option.{ok_or}
use Rattle.std.specs.List.{flat_map}
use Rattle.std.specs.Ordering.{is_eq}
use Rattle.std.specs.Int.{int_div_euclid, int_rem_euclid}
use Rattle.tla_token.specs.declared.place.Place.{Place}
use Rattle.tla_tree.specs.declared.op.Op.{Op}
use Rattle.tla_tree.specs.declared.op.Op.TheVariants.{Equivalent, Not, Equal, NotEqual, Less, Greater, AtMost, AtLeast, SubsetEq, Override, MapsTo, Cup, Cap, Without, Subset, Union, Range, Domain, Plus, Modulo, Minus, Negate, Times, Concat, Divide}
use Rattle.tla_tree.specs.Tree.{Word, PathStep, index, field, Slot, Strict, operator, set_of, tuple, fields, records, functions, apply, select, except}
use Rattle.std.specs.Prelude.{int_lt}
use Rattle.tla_value.specs.declared.fault.FaultKind.TheVariants.{BadDivisor, NotInDomain, NotSequence}
use Rattle.tla_value.specs.Value.{Value, Values, truth, int, text, model, set, fun, no_values, and, Outcome, fault, values_in, in_order}
use Rattle.tla_value.specs.Order.{same, count, orders, listed, numbers_from, found_at, pairs_of, field_pairs, record_from, IsAscending, IsCanonical, AreCanonical, ArePairsCanonical}
use Rattle.tla_value.specs.Stops.{Check, truth_at, int_at, members_at, function_at, sequence_at, one_of, two_of}
use Rattle.tla_value.specs.Sets.{union_of, natural}
use Rattle.tla_value.specs.Strict.{of_ints, of_sets, of_quotient, operated, space_of, made, applied, changed, changed_at, next_slot, updated, strict_value}
use Rattle.tla_value.specs.laws.CanonicalNames.{Has, Proper, Keeping}
use Rattle.tla_value.proofs.OrderFuns.{fun_from_canonical, seq_from_canonical}
use Rattle.tla_value.proofs.Canonical.{then_has, any_has, has_cond, EachList, IsSet, append_canonical, listed_canonical, set_canonical, kept_canonical, sets_canonical, subsets_canonical, functions_canonical, count_repeated, repeated_canonical, integers_canonical, pairs_canonical}

-- ---- what is needed of a canonical value

abbrev pub AreBoth : Value × Value → Type 0
AreBoth v = IsCanonical v.0 × IsCanonical v.1

abbrev pub AreAll : List Value → Type 0
AreAll vs = AreCanonical (values_in vs)

abbrev pub IsFunction : Values × Values → Type 0
IsFunction f = IsCanonical (fun f.0 f.1)

pub one_proper : (at : Place) (vs : List Value) → AreAll vs → Proper (one_of at vs)
one_proper at [] h = tt
one_proper at (v ∷ []) h = h.0
one_proper at (v ∷ w ∷ vs) h = tt

pub two_proper : (at : Place) (vs : List Value) → AreAll vs → Has AreBoth (two_of at vs)
two_proper at [] h = tt
two_proper at (v ∷ []) h = tt
two_proper at (v ∷ w ∷ []) h = (h.0, h.1.0)
two_proper at (v ∷ w ∷ u ∷ vs) h = tt

pub set_proper : (at : Place) (v : Value) → IsCanonical v → Has IsSet (members_at at v)
set_proper at (set vs) h = h
set_proper at (truth b) h = tt
set_proper at (int n) h = tt
set_proper at (text w) h = tt
set_proper at (model w) h = tt
set_proper at (fun ds rs) h = tt

fun_proper : (at : Place) (v : Value) → IsCanonical v → Has IsFunction (function_at at v)
fun_proper at (fun ds rs) h = h
fun_proper at (truth b) h = tt
fun_proper at (int n) h = tt
fun_proper at (text w) h = tt
fun_proper at (model w) h = tt
fun_proper at (set vs) h = tt

pub sets_proper : (at : Place) (vs : List Value) → AreAll vs → Has (EachList IsSet) (in_order (members_at at) vs)
sets_proper at [] h = tt
sets_proper at (v ∷ vs) h = then_has IsSet (EachList IsSet) (members_at at v) _ (set_proper at v h.0) (λ s i. then_has (EachList IsSet) (EachList IsSet) (in_order (members_at at) vs) _ (sets_proper at vs h.1) (λ ss j. (i, j)))

list_if : (at : Place) (b : Bool) (vs : List Value) → AreAll vs → Has AreAll (ok_or (if b then Some vs else None) (fault NotSequence at))
list_if at true vs h = h
list_if at false vs h = tt

pub sequence_proper : (at : Place) (v : Value) → IsCanonical v → Has AreAll (sequence_at at v)
sequence_proper at (fun ds rs) h = list_if at (is_eq (orders ds (numbers_from 1 (listed rs)))) (listed rs) (listed_canonical rs h.2)
sequence_proper at (truth b) h = tt
sequence_proper at (int n) h = tt
sequence_proper at (text w) h = tt
sequence_proper at (model w) h = tt
sequence_proper at (set vs) h = tt

flat_proper : (ss : List Values) → EachList IsSet ss → AreAll (flat_map listed ss)
flat_proper [] h = tt
flat_proper (s ∷ ss) h = append_canonical (listed s) (flat_map listed ss) (listed_canonical s h.0.1) (flat_proper ss h.1)

joined_proper : (at : Place) (vs : Values) → AreCanonical vs → Has AreAll (union_of at vs)
joined_proper at vs h = then_has (EachList IsSet) AreAll (in_order (members_at at) (listed vs)) _ (sets_proper at (listed vs) (listed_canonical vs h)) flat_proper

-- ---- operators

ints_proper : (at : Place) (vs : List Value) (f : ℤ → ℤ → Value) → ((m n : ℤ) → IsCanonical (f m n)) → Proper (of_ints at vs f)
ints_proper at vs f k = any_has IsCanonical (two_of at vs) _ (λ (a, b). any_has IsCanonical (int_at at a) _ (λ m. any_has IsCanonical (int_at at b) _ (λ n. k m n)))

of_sets_proper : (at : Place) (vs : List Value) (f : Values → Values → Value) → AreAll vs → ((ss ts : Values) → IsSet ss → IsSet ts → IsCanonical (f ss ts)) → Proper (of_sets at vs f)
of_sets_proper at vs f h k =
    then_has AreBoth IsCanonical (two_of at vs) _ (two_proper at vs h) (λ (a, b) c. then_has IsSet IsCanonical (members_at at a) _ (set_proper at a c.0) (λ ss p.
    then_has IsSet IsCanonical (members_at at b) _ (set_proper at b c.1) (λ ts q. k ss ts p q)))

quotient_proper : (at : Place) (vs : List Value) (f : ℤ → ℤ → ℤ) → Proper (of_quotient at vs f)
quotient_proper at vs f =
    any_has IsCanonical (two_of at vs) _ (λ (a, b). any_has IsCanonical (int_at at a) _ (λ m. any_has IsCanonical (int_at at b) _ (λ n.
    has_cond IsCanonical (int_lt (pos 0) n) (Ok (int (f m n))) (Err (fault BadDivisor at)) tt tt)))

pairs_append : (ps qs : List (Value × Value)) → ArePairsCanonical ps → ArePairsCanonical qs → ArePairsCanonical (ps ++ qs)
pairs_append [] qs h k = k
pairs_append (p ∷ ps) qs h k = (h.0, pairs_append ps qs h.1 k)

operated_proper : (o : Op) (at : Place) (vs : List Value) → AreAll vs → Proper (operated o at vs)
operated_proper Equivalent at vs h = any_has IsCanonical (two_of at vs) _ (λ (a, b). any_has IsCanonical (truth_at at a) _ (λ p. any_has IsCanonical (truth_at at b) _ (λ q. tt)))
operated_proper Not at vs h = any_has IsCanonical (one_of at vs) _ (λ a. any_has IsCanonical (truth_at at a) _ (λ p. tt))
operated_proper Equal at vs h = any_has IsCanonical (two_of at vs) _ (λ ab. tt)
operated_proper NotEqual at vs h = any_has IsCanonical (two_of at vs) _ (λ ab. tt)
operated_proper Less at vs h = ints_proper at vs _ (λ m n. tt)
operated_proper Greater at vs h = ints_proper at vs _ (λ m n. tt)
operated_proper AtMost at vs h = ints_proper at vs _ (λ m n. tt)
operated_proper AtLeast at vs h = ints_proper at vs _ (λ m n. tt)
operated_proper SubsetEq at vs h = of_sets_proper at vs _ h (λ ss ts p q. tt)
operated_proper Override at vs h =
    then_has AreBoth IsCanonical (two_of at vs) _ (two_proper at vs h) (λ (f, g) k. then_has IsFunction IsCanonical (function_at at f) _ (fun_proper at f k.0) (λ (ds, rs) p.
    then_has IsFunction IsCanonical (function_at at g) _ (fun_proper at g k.1) (λ (es, qs) q.
    fun_from_canonical (pairs_of ds rs ++ pairs_of es qs) (pairs_append (pairs_of ds rs) (pairs_of es qs) (pairs_canonical ds rs p.1 p.2) (pairs_canonical es qs q.1 q.2)))))
operated_proper MapsTo at vs h = then_has AreBoth IsCanonical (two_of at vs) _ (two_proper at vs h) (λ (d, e) k. ((tt, tt), (k.0, tt), (k.1, tt), refl))
operated_proper Cup at vs h =
    of_sets_proper at vs _ h (λ ss ts p q. set_canonical (listed ss ++ listed ts) (append_canonical (listed ss) (listed ts) (listed_canonical ss p.1) (listed_canonical ts q.1)))
operated_proper Cap at vs h = of_sets_proper at vs _ h (λ ss ts p q. kept_canonical _ ss p.0 p.1)
operated_proper Without at vs h = of_sets_proper at vs _ h (λ ss ts p q. kept_canonical _ ss p.0 p.1)
operated_proper Subset at vs h =
    then_has IsCanonical IsCanonical (one_of at vs) _ (one_proper at vs h) (λ a i. then_has IsSet IsCanonical (members_at at a) _ (set_proper at a i) (λ ss p. subsets_canonical ss p.0 p.1))
operated_proper Union at vs h =
    then_has IsCanonical IsCanonical (one_of at vs) _ (one_proper at vs h) (λ a i. then_has IsSet IsCanonical (members_at at a) _ (set_proper at a i) (λ ss p.
    then_has AreAll IsCanonical (union_of at ss) _ (joined_proper at ss p.1) set_canonical))
operated_proper Range at vs h = ints_proper at vs _ (λ m n. integers_canonical (natural ((n +ℤ pos 1) -ℤ m)) m)
operated_proper Domain at vs h =
    then_has IsCanonical IsCanonical (one_of at vs) _ (one_proper at vs h) (λ f i. then_has IsFunction IsCanonical (function_at at f) _ (fun_proper at f i) (λ g p. (p.0, p.1)))
operated_proper Plus at vs h = ints_proper at vs _ (λ m n. tt)
operated_proper Minus at vs h = ints_proper at vs _ (λ m n. tt)
operated_proper Times at vs h = ints_proper at vs _ (λ m n. tt)
operated_proper Negate at vs h = any_has IsCanonical (one_of at vs) _ (λ a. any_has IsCanonical (int_at at a) _ (λ n. tt))
operated_proper Divide at vs h = quotient_proper at vs int_div_euclid
operated_proper Modulo at vs h = quotient_proper at vs int_rem_euclid
operated_proper Concat at vs h =
    then_has AreBoth IsCanonical (two_of at vs) _ (two_proper at vs h) (λ (a, b) k. then_has AreAll IsCanonical (sequence_at at a) _ (sequence_proper at a k.0) (λ xs p.
    then_has AreAll IsCanonical (sequence_at at b) _ (sequence_proper at b k.1) (λ ys q. seq_from_canonical (xs ++ ys) (append_canonical xs ys p q))))
operated_proper _ at vs h = tt

-- ---- other strict forms

fields_canonical : (xs : List Word) (vs : List Value) → AreAll vs → ArePairsCanonical (field_pairs xs vs)
fields_canonical [] vs h = tt
fields_canonical (x ∷ xs) [] h = tt
fields_canonical (x ∷ xs) (v ∷ vs) h = ((tt, h.0), fields_canonical xs vs h.1)

record_sets : (xs : List Word) (ss : List Values) → EachList IsSet ss → IsCanonical (record_from xs (map set ss))
record_sets xs ss h = fun_from_canonical (field_pairs xs (map set ss)) (fields_canonical xs (map set ss) (sets_canonical ss h))

-- a domain, and as many sets
abbrev IsSpace : Values × Values → Type 0
IsSpace f = IsAscending f.0 × AreCanonical f.0 × AreCanonical f.1 × (count f.0 ≡ count f.1)

space_proper : (o : Strict) (at : Place) (vs : List Value) → AreAll vs → Has IsSpace (space_of o at vs)
space_proper functions at vs h =
    then_has AreBoth IsSpace (two_of at vs) _ (two_proper at vs h) (λ (a, b) k. then_has IsSet IsSpace (members_at at a) _ (set_proper at a k.0) (λ ds p.
    then_has IsSet IsSpace (members_at at b) _ (set_proper at b k.1) (λ ws q. (p.0, p.1, repeated_canonical ds (set ws) q, count_repeated ds (set ws)))))
space_proper (records xs) at vs h =
    then_has (EachList IsSet) IsSpace (in_order (members_at at) vs) _ (sets_proper at vs h) (λ ss k. fun_proper at (record_from xs (map set ss)) (record_sets xs ss k))
space_proper _ at vs h = tt

made_proper : (o : Strict) (at : Place) (vs : List Value) → AreAll vs → Proper (made o at vs)
made_proper (operator o) at vs h = operated_proper o at vs h
made_proper set_of at vs h = set_canonical vs h
made_proper tuple at vs h = seq_from_canonical vs h
made_proper (fields xs) at vs h = fun_from_canonical (field_pairs xs vs) (fields_canonical xs vs h)
made_proper (records xs) at vs h =
    then_has IsSpace IsCanonical (space_of (records xs) at vs) _ (space_proper (records xs) at vs h) (λ (ds, ss) k. functions_canonical ds ss k.0 k.1 k.2 k.3)
made_proper functions at vs h =
    then_has IsSpace IsCanonical (space_of functions at vs) _ (space_proper functions at vs h) (λ (ds, ss) k. functions_canonical ds ss k.0 k.1 k.2 k.3)
made_proper _ at vs h = tt

found_if : (at : Place) (b : Bool) (v : Value) (o : Option Value) → IsCanonical v → Proper (ok_or o (fault NotInDomain at)) → Proper (ok_or (if b then Some v else o) (fault NotInDomain at))
found_if at true v o h k = h
found_if at false v o h k = k

found_proper : (at : Place) (ds rs : Values) (a : Value) → AreCanonical rs → Proper (ok_or (found_at ds rs a) (fault NotInDomain at))
found_proper at no_values rs a h = tt
found_proper at (and d ds) no_values a h = tt
found_proper at (and d ds) (and r rs) a h = found_if at (same a d) r (found_at ds rs a) h.0 (found_proper at ds rs a h.1)

pub applied_proper : (at : Place) (f a : Value) → IsCanonical f → Proper (applied at f a)
applied_proper at f a h = then_has IsFunction IsCanonical (function_at at f) _ (fun_proper at f h) (λ (ds, rs) p. found_proper at ds rs a p.2)

-- as many values
abbrev AsMany : Values → Values → Type 0
AsMany rs us = AreCanonical us × (count rs ≡ count us)

changed_proper : (k : Value) (g : Value → Outcome Value) (ds rs : Values) → AreCanonical rs → ((r : Value) → IsCanonical r → Proper (g r)) → Has (AsMany rs) (changed k g ds rs)
changed_proper k g no_values rs h p = (h, refl)
changed_proper k g (and d ds) no_values h p = (tt, refl)
changed_proper k g (and d ds) (and r rs) h p =
    has_cond (AsMany (and r rs)) (same k d) _ _ (then_has IsCanonical (AsMany (and r rs)) (g r) _ (p r h.0) (λ w c. ((c, h.1), refl)))
    (then_has (AsMany rs) (AsMany (and r rs)) (changed k g ds rs) _ (changed_proper k g ds rs h.1 p) (λ us c. ((h.0, c.0), ap suc c.1)))

path_proper : (at : Place) (ks : List Value) (v old : Value) → IsCanonical v → IsCanonical old → Proper (changed_at at ks v old)
path_proper at [] v old h i = h
path_proper at (k ∷ ks) v old h i =
    then_has IsFunction IsCanonical (function_at at old) _ (fun_proper at old i) (λ (ds, rs) p.
    then_has (AsMany rs) IsCanonical (changed k (changed_at at ks v) ds rs) _ (changed_proper k (changed_at at ks v) ds rs p.2 (λ r c. path_proper at ks v r h c)) (λ us c. (p.0, p.1, c.0, p.3 ∙ c.1)))

abbrev IsSlot : List Value × Value × List Value → Type 0
IsSlot n = IsCanonical n.1 × AreAll n.2

slot_proper : (at : Place) (ps : List PathStep) (vs : List Value) → AreAll vs → Has IsSlot (next_slot at ps vs)
slot_proper at [] [] h = tt
slot_proper at [] (v ∷ vs) h = h
slot_proper at (index ∷ ps) [] h = tt
slot_proper at (index ∷ ps) (w ∷ vs) h = then_has IsSlot IsSlot (next_slot at ps vs) _ (slot_proper at ps vs h.1) (λ n k. k)
slot_proper at (field x ∷ ps) vs h = then_has IsSlot IsSlot (next_slot at ps vs) _ (slot_proper at ps vs h) (λ n k. k)

slots_proper : (c : Check) → Keeping c → (ns : List Slot) (vs : List Value) (old : Value) → AreAll vs → IsCanonical old → Proper (updated c ns vs old)
slots_proper c l [] vs old h i = i
slots_proper c l (n ∷ ns) vs old h i =
    then_has IsSlot IsCanonical (next_slot n.place n.path vs) _ (slot_proper n.place n.path vs h) (λ (path, v, rest) p.
    then_has IsCanonical IsCanonical (changed_at n.place path v old) _ (path_proper n.place path v old p.0 i) (λ new r.
    then_has IsCanonical IsCanonical (c n.place new) _ (l n.place new r) (λ w s. slots_proper c l ns rest w p.1 s)))

-- what a strict form gives for canonical values
pub strict_proper : (c : Check) → Keeping c → (o : Strict) (at : Place) (vs : List Value) → AreAll vs → Proper (strict_value c o at vs)
strict_proper c l apply at vs h = then_has AreBoth IsCanonical (two_of at vs) _ (two_proper at vs h) (λ (f, a) k. applied_proper at f a k.0)
strict_proper c l (select x) at vs h = then_has IsCanonical IsCanonical (one_of at vs) _ (one_proper at vs h) (λ f i. applied_proper at f (text x) i)
strict_proper c l (except ns) at [] h = tt
strict_proper c l (except ns) at (old ∷ vs) h = slots_proper c l ns vs old h.1 h.0
strict_proper c l o at vs h = then_has IsCanonical IsCanonical (made o at vs) (c at) (made_proper o at vs h) (l at)
