-- Functions that are made of pairs: what they give at an argument, and that they are canonical.
use Rattle.std.proofs.Common.{◌≡◌, ℕ, pos, suc, Bool, true, false, List, [], ◌∷◌, refl, sym, ◌∙◌, ap, arith, Option, Some, None}
use Rattle.std.specs.Prelude.{◌||◌, if◌then◌else◌}
use Rattle.std.specs.Cmp.{int_cmp_is}
use Rattle.std.specs.Ordering.{is_eq, ordering_reverse}
use Rattle.std.specs.declared.cmp.Ordering.TheVariants.{Less}
use Rattle.std.proofs.lemmas.Int.{ints}
use Rattle.std.proofs.lemmas.Bool.{or_right}
use Rattle.tla_value.specs.Value.{Value, Values, fun, int, no_values, and, values_in}
use Rattle.tla_value.specs.Order.{order, orders, same, holds, count, set_from, listed, found_at, pairs_of, arguments, first_at, in_front, values_at, fun_from, numbers_from, seq_from, sequence_of, IsBefore, IsAscending, IsCanonical, AreCanonical, ArePairsCanonical}
use Rattle.tla_value.specs.OrderLaws.{order_total, orders_self, same_is, same_self}
use Rattle.tla_value.proofs.OrderSets.{before_next, first_held, holds_set_from, set_from_ascending, set_from_canonical, set_from_listed}

-- ---- what the function of some pairs gives

abbrev HasFirst : List (Value × Value) → Value → Type 0
HasFirst ps v = (w : Value) × (first_at ps v ≡ Some w)

-- each member of a domain has a pair
abbrev pub AreKeyed : List (Value × Value) → Values → Type 0
AreKeyed ps no_values = Unit {0}
AreKeyed ps (and d ds) = HasFirst ps d × AreKeyed ps ds

first_by : (p : Value × Value) (ps : List (Value × Value)) (v : Value) (b : Bool) → same v p.0 ≡ b → (b || holds v (values_in (arguments ps))) ≡ true → (holds v (values_in (arguments ps)) ≡ true → HasFirst ps v) → HasFirst (p ∷ ps) v
first_by p ps v true e h rest = (p.1, ap (λ b. if b then Some p.1 else first_at ps v) e)
first_by p ps v false e h rest =
    let w = rest h in (w.0, ap (λ b. if b then Some p.1 else first_at ps v) e ∙ w.1)

has_first : (ps : List (Value × Value)) (v : Value) → holds v (values_in (arguments ps)) ≡ true → HasFirst ps v
has_first [] v h = cc
has_first (p ∷ ps) v h = first_by p ps v (same v p.0) refl h (has_first ps v)

none_by : (p : Value × Value) (ps : List (Value × Value)) (v : Value) (b : Bool) → (b || holds v (values_in (arguments ps))) ≡ false → (holds v (values_in (arguments ps)) ≡ false → first_at ps v ≡ None) → (if b then Some p.1 else first_at ps v) ≡ None
none_by p ps v true h rest = cc
none_by p ps v false h rest = rest h

has_none : (ps : List (Value × Value)) (v : Value) → holds v (values_in (arguments ps)) ≡ false → first_at ps v ≡ None
has_none [] v h = refl
has_none (p ∷ ps) v h = none_by p ps v (same v p.0) h (has_none ps v)

all_keyed : (ps : List (Value × Value)) (ds : Values) → ((u : Value) → holds u ds ≡ true → holds u (values_in (arguments ps)) ≡ true) → AreKeyed ps ds
all_keyed ps no_values h = tt
all_keyed ps (and d ds) h =
    (has_first ps d (h d (first_held d ds)), all_keyed ps ds (λ u e. h u (or_right (same u d) (holds u ds) e)))

domain_keyed : (ps : List (Value × Value)) → AreKeyed ps (set_from (arguments ps))
domain_keyed ps = all_keyed ps (set_from (arguments ps)) (λ u e. sym (holds_set_from u (arguments ps)) ∙ e)

pub count_values_at : (ps : List (Value × Value)) (ds : Values) → AreKeyed ps ds → count (values_at ps ds) ≡ count ds
count_values_at ps no_values h = refl
count_values_at ps (and d ds) h =
    ap (λ o. count (in_front o (values_at ps ds))) h.0.1 ∙ ap suc (count_values_at ps ds h.1)

found_by : (ps : List (Value × Value)) (d w v : Value) (ds : Values) (rest : Option Value) (b : Bool) → same v d ≡ b → first_at ps d ≡ Some w → rest ≡ (if holds v ds then first_at ps v else None) → (if b then Some w else rest) ≡ (if (b || holds v ds) then first_at ps v else None)
found_by ps d w v ds rest true e first h = sym (ap (first_at ps) (same_is v d e) ∙ first)
found_by ps d w v ds rest false e first h = h

found_values_at : (ps : List (Value × Value)) (ds : Values) (v : Value) → AreKeyed ps ds → found_at ds (values_at ps ds) v ≡ (if holds v ds then first_at ps v else None)
found_values_at ps no_values v h = refl
found_values_at ps (and d ds) v h =
    ap (λ o. found_at (and d ds) (in_front o (values_at ps ds)) v) h.0.1 ∙ found_by ps d h.0.0 v ds (found_at ds (values_at ps ds) v) (same v d) refl h.0.1 (found_values_at ps ds v h.1)

held_or_none : (o : Option Value) (b : Bool) → (b ≡ false → o ≡ None) → (if b then o else None) ≡ o
held_or_none o true h = refl
held_or_none o false h = sym (h refl)

-- at each argument the first pair counts
pub fun_from_at : (ps : List (Value × Value)) (v : Value) → found_at (set_from (arguments ps)) (values_at ps (set_from (arguments ps))) v ≡ first_at ps v
fun_from_at ps v =
    found_values_at ps (set_from (arguments ps)) v (domain_keyed ps) ∙ held_or_none (first_at ps v) (holds v (set_from (arguments ps))) (λ e. has_none ps v (sym (holds_set_from v (arguments ps)) ∙ e))

-- ---- it is canonical

arguments_canonical : (ps : List (Value × Value)) → ArePairsCanonical ps → AreCanonical (values_in (arguments ps))
arguments_canonical [] h = tt
arguments_canonical (p ∷ ps) h = (h.0.0, arguments_canonical ps h.1)

abbrev IsOptionCanonical : Option Value → Type 0
IsOptionCanonical None = Unit {0}
IsOptionCanonical (Some v) = IsCanonical v

choice_canonical : (b : Bool) (v : Value) (o : Option Value) → IsCanonical v → IsOptionCanonical o → IsOptionCanonical (if b then Some v else o)
choice_canonical true v o a h = a
choice_canonical false v o a h = h

first_canonical : (ps : List (Value × Value)) (v : Value) → ArePairsCanonical ps → IsOptionCanonical (first_at ps v)
first_canonical [] v h = tt
first_canonical (p ∷ ps) v h = choice_canonical (same v p.0) p.1 (first_at ps v) h.0.1 (first_canonical ps v h.1)

in_front_canonical : (o : Option Value) (vs : Values) → IsOptionCanonical o → AreCanonical vs → AreCanonical (in_front o vs)
in_front_canonical None vs a h = h
in_front_canonical (Some v) vs a h = (a, h)

values_at_canonical : (ps : List (Value × Value)) (ds : Values) → ArePairsCanonical ps → AreCanonical (values_at ps ds)
values_at_canonical ps no_values h = tt
values_at_canonical ps (and d ds) h =
    in_front_canonical (first_at ps d) (values_at ps ds) (first_canonical ps d h) (values_at_canonical ps ds h)

pub fun_from_canonical : (ps : List (Value × Value)) → ArePairsCanonical ps → IsCanonical (fun_from ps)
fun_from_canonical ps h =
    (set_from_ascending (arguments ps), set_from_canonical (arguments ps) (arguments_canonical ps h), values_at_canonical ps (set_from (arguments ps)) h, sym (count_values_at ps (set_from (arguments ps)) (domain_keyed ps)))

-- ---- tuples

next_above : (n : ℕ) → order (int (pos n)) (int (pos (suc n))) ≡ Less
next_above n = sym (int_cmp_is (pos n) (pos (suc n)) Less (omega (arith, ints)))

numbered_before : (n : ℕ) (vs : List Value) → IsBefore (int (pos n)) (numbers_from (suc n) vs)
numbered_before n [] = tt
numbered_before n (v ∷ vs) = next_above n

pub numbered_ascending : (n : ℕ) (vs : List Value) → IsAscending (numbers_from n vs)
numbered_ascending n [] = tt
numbered_ascending n (v ∷ vs) = (numbered_before n vs, numbered_ascending (suc n) vs)

numbered_canonical : (n : ℕ) (vs : List Value) → AreCanonical (numbers_from n vs)
numbered_canonical n [] = tt
numbered_canonical n (v ∷ vs) = (tt, numbered_canonical (suc n) vs)

pub count_numbered : (n : ℕ) (vs : List Value) → count (numbers_from n vs) ≡ count (values_in vs)
count_numbered n [] = refl
count_numbered n (v ∷ vs) = ap suc (count_numbered (suc n) vs)

pub seq_from_canonical : (vs : List Value) → AreCanonical (values_in vs) → IsCanonical (seq_from vs)
seq_from_canonical vs h = (numbered_ascending 1 vs, numbered_canonical 1 vs, h, count_numbered 1 vs)

pub listed_values : (vs : List Value) → listed (values_in vs) ≡ vs
listed_values [] = refl
listed_values (v ∷ vs) = ap (λ us. v ∷ us) (listed_values vs)

pub values_listed : (vs : Values) → values_in (listed vs) ≡ vs
values_listed no_values = refl
values_listed (and v vs) = ap (and v) (values_listed vs)

-- the elements of a tuple are those that it was made of
pub sequence_of_seq : (vs : List Value) → sequence_of (seq_from vs) ≡ Some vs
sequence_of_seq vs =
    ap (λ us. if is_eq (orders (numbers_from 1 vs) (numbers_from 1 us)) then Some us else None) (listed_values vs) ∙ ap (λ r. if is_eq r then Some vs else None) (orders_self (numbers_from 1 vs))

-- ---- a function is that of its pairs

pub arguments_pairs : (ds vs : Values) → count ds ≡ count vs → arguments (pairs_of ds vs) ≡ listed ds
arguments_pairs no_values vs h = refl
arguments_pairs (and d ds) no_values h = absurd (omega (arith, h))
arguments_pairs (and d ds) (and w ws) h = ap (λ us. d ∷ us) (arguments_pairs ds ws (omega (arith, h)))

after : (d e : Value) → order d e ≡ Less → same e d ≡ false
after d e h = ap is_eq (order_total.antisymm e d ∙ ap ordering_reverse h)

-- a pair whose argument is before a domain gives it nothing
pair_before : (d w : Value) (ps : List (Value × Value)) (ds : Values) → IsBefore d ds → IsAscending ds → values_at ((d, w) ∷ ps) ds ≡ values_at ps ds
pair_before d w ps no_values b h = refl
pair_before d w ps (and e es) b h = λ i. in_front (if after d e b i then Some w else first_at ps e) (pair_before d w ps es (before_next d e es b h.0) h.1 i)

pair_first : (d w : Value) (ps : List (Value × Value)) → first_at ((d, w) ∷ ps) d ≡ Some w
pair_first d w ps = ap (λ b. if b then Some w else first_at ps d) (same_self d)

values_at_pairs : (ds vs : Values) → IsAscending ds → count ds ≡ count vs → values_at (pairs_of ds vs) ds ≡ vs
values_at_pairs no_values no_values a h = refl
values_at_pairs no_values (and w ws) a h = absurd (omega (arith, h))
values_at_pairs (and d ds) no_values a h = absurd (omega (arith, h))
values_at_pairs (and d ds) (and w ws) a h =
    λ i. in_front (pair_first d w (pairs_of ds ws) i) ((pair_before d w (pairs_of ds ws) ds a.0 a.1 ∙ values_at_pairs ds ws a.1 (omega (arith, h))) i)

pub fun_from_pairs : (ds vs : Values) → IsAscending ds → count ds ≡ count vs → fun_from (pairs_of ds vs) ≡ fun ds vs
fun_from_pairs ds vs a h =
    let keys : set_from (arguments (pairs_of ds vs)) ≡ ds = ap set_from (arguments_pairs ds vs h) ∙ set_from_listed ds a in
    ap (λ ks. fun ks (values_at (pairs_of ds vs) ks)) keys ∙ ap (fun ds) (values_at_pairs ds vs a h)
