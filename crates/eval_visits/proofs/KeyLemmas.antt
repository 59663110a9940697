-- Keys of functions that are rows of members, and where what is made of them is past the limits.
use Rattle.std.proofs.Common.{◌≡◌, ℕ, suc, zero, ◌+◌, ◌<◌, ◌≤◌, Bool, true, false, List, [], ◌∷◌, ◌++◌, map, length, min, take, drop, add-one, append_assoc, refl, sym, ap, ◌∙◌, subst, arith, get_or, Ok, Err}
use Rattle.std.specs.Prelude.{◌&&◌}
use Rattle.std.specs.Ordering.{is_lt}
use Rattle.std.specs.declared.cmp.Ordering.{Ordering}
use Rattle.std.specs.declared.cmp.Ordering.TheVariants.{Less, Equal, Greater}
use Rattle.std.proofs.lemmas.Bool.{and_parts}
use Rattle.tla_token.specs.declared.place.Place.{Place}
use Rattle.tla_token.specs.Limits.{deepest_value}
use Rattle.tla_value.specs.declared.stop.EvalStop.{EvalStop}
use Rattle.tla_value.specs.declared.stop.EvalStop.TheVariants.{Memory, Fault, Limit}
use Rattle.tla_value.specs.Value.{Value, Values, set, fun, no_values, and, values_in, Trouble, over, Outcome, ◌>>=◌}
use Rattle.tla_value.specs.Order.{order, count, inserted, placed, set_from, pairs_of, arguments, values_at, fun_from, IsBefore, IsAscending}
use Rattle.tla_value.specs.OrderLaws.{order_equal}
use Rattle.tla_value.specs.Limits.{depth, depths, fits, fits_count, fits_parts, all_fit, bounded}
use Rattle.tla_value.specs.Meaning.{key}
use Rattle.tla_value.proofs.Fits.{fits_parts_of, depth_of, fits_by, bounded_past, bounded_kept}
use Rattle.tla_value.proofs.OrderFuns.{fun_from_pairs}
use Rattle.tla_value.proofs.ValueLists.{count-values_in}
use Rattle.tla_value.proofs.Outcomes.{ok_is, bound_ok}
use Rattle.std.proofs.Math.Seq.{drop-cons}
use Rattle.std.proofs.Math.ListN.{drop_of_length-le}
use Rattle.std.proofs.lemmas.List.{append-nil}
use Rattle.value_forms.specs.Gives.{Stops}
use Rattle.value_forms.proofs.StopLaws.{behind, then_stops}
use Rattle.eval_visits.specs.Visits.{bounded_keys, paired}

-- ---- the parts of what fits

record AllFit (vs : Values) : Type 0 where
  shallow : depths vs < deepest_value
  parts : all_fit vs ≡ true

record OneFits (v : Value) : Type 0 where
  low : depth v < deepest_value
  part : fits_parts v ≡ true

first_fits : (v : Value) (vs : Values) → AllFit (and v vs) → OneFits v
first_fits v vs h = record { low = omega (arith, h.shallow); part = (and_parts (fits_parts v) (all_fit vs) h.parts).0 }

rest_fit : (v : Value) (vs : Values) → AllFit (and v vs) → AllFit vs
rest_fit v vs h = record { shallow = omega (arith, h.shallow); parts = (and_parts (fits_parts v) (all_fit vs) h.parts).1 }

abbrev Both : Value → Values → Type 0
Both v vs = OneFits v × AllFit vs

placed_fit : (v w : Value) (ws more : Values) (r : Ordering) → (r ≡ Equal → v ≡ w) → (AllFit more → Both v ws) → AllFit (placed r v w ws more) → Both v (and w ws)
placed_fit v w ws more Less e go h = (first_fits v (and w ws) h, rest_fit v (and w ws) h)
placed_fit v w ws more Equal e go h = (subst OneFits (sym (e refl)) (first_fits w ws h), h)
placed_fit v w ws more Greater e go h =
    let b = go (rest_fit w more h) in
    let f = first_fits w more h in
    (b.0, record { shallow = omega (arith, f.low, b.1.shallow); parts = joined f.part b.1.parts })
  where
    joined : fits_parts w ≡ true → all_fit ws ≡ true → all_fit (and w ws) ≡ true
    joined p q = Rattle.tla_value.proofs.Fits.joined (fits_parts w) (all_fit ws) p q

inserted_fit : (v : Value) (vs : Values) → AllFit (inserted v vs) → Both v vs
inserted_fit v no_values h = (first_fits v no_values h, rest_fit v no_values h)
inserted_fit v (and w ws) h = placed_fit v w ws (inserted v ws) (order v w) (order_equal v w) (inserted_fit v ws) h

abbrev EachFits : List Value → Type 0
EachFits [] = Unit {0}
EachFits (v ∷ vs) = OneFits v × EachFits vs

each_fits : (vs : List Value) → AllFit (set_from vs) → EachFits vs
each_fits [] h = tt
each_fits (v ∷ vs) h = let b = inserted_fit v (set_from vs) h in (b.0, each_fits vs b.1)

one_kept : (at : Place) (v : Value) → OneFits v → bounded at v ≡ Ok v
one_kept at v h = bounded_kept at v v refl (fits_by v h.part (omega (arith, h.low)))

-- ---- keys that are within the limits, and one that isn't

abbrev value_then : Outcome Value → Outcome (List Value) → Outcome (List Value)
value_then o q = o >>= λ v. q >>= λ vs. Ok (v ∷ vs)

keys_kept : (at : Place) (ks : List (List Value)) → EachFits (map key ks) → bounded_keys at ks ≡ Ok (map key ks)
keys_kept at [] h = refl
keys_kept at (k ∷ ks) h = λ i. value_then (one_kept at (key k) h.0 i) (keys_kept at ks h.1 i)

one_is : (at : Place) (v w : Value) (b : Bool) → fits v ≡ b → bounded at v ≡ Ok w → w ≡ v
one_is at v w true e h = ok_is (sym h ∙ bounded_kept at v v refl e)
one_is at v w false e h = absurd (no (sym (bounded_past at v v refl e) ∙ h))
  where
    no : ◌≡◌ {A = Outcome Value} (Err (over at)) (Ok w) → ⊥
    no q = cc

pub keys_are : (at : Place) (ks : List (List Value)) (vs : List Value) → bounded_keys at ks ≡ Ok vs → vs ≡ map key ks
keys_are at [] vs h = sym (ok_is h)
keys_are at (k ∷ ks) vs h =
    let a = bound_ok (bounded at (key k)) (λ v. bounded_keys at ks >>= λ ws. Ok (v ∷ ws)) vs h in
    let b = bound_ok (bounded_keys at ks) (λ ws. Ok (a.0 ∷ ws)) vs a.2 in
    sym (ok_is b.2) ∙ (λ i. one_is at (key k) a.0 (fits (key k)) refl a.1 i ∷ keys_are at ks b.0 b.1 i)

abbrev IsOver : {X : Type 0} → Place → Outcome X → Type 0
IsOver at (Ok x) = Unit {0}
IsOver at (Err k) = k ≡ over at

one_over : (at : Place) (v : Value) (b : Bool) → fits v ≡ b → IsOver at (bounded at v)
one_over at v true e = subst (IsOver at) (sym (bounded_kept at v v refl e)) tt
one_over at v false e = subst (IsOver at) (sym (bounded_past at v v refl e)) refl

then_over : (at : Place) (o : Outcome Value) (q : Outcome (List Value)) → IsOver at o → IsOver at q → IsOver at (value_then o q)
then_over at (Ok v) (Ok vs) h k = tt
then_over at (Ok v) (Err e) h k = k
then_over at (Err e) q h k = h

keys_over : (at : Place) (ks : List (List Value)) → IsOver at (bounded_keys at ks)
keys_over at [] = tt
keys_over at (k ∷ ks) = then_over at (bounded at (key k)) (bounded_keys at ks) (one_over at (key k) (fits (key k)) refl) (keys_over at ks)

past_by : (at : Place) (ks : List (List Value)) (w : Value) (b : Bool) → fits w ≡ b → (fits w ≡ true → EachFits (map key ks)) → (e : Trouble) → bounded_keys at ks ≡ Err e → bounded at w ≡ Err e
past_by at ks w true f go e h = absurd (no (sym (keys_kept at ks (go f)) ∙ h))
  where
    no : ◌≡◌ {A = Outcome (List Value)} (Ok (map key ks)) (Err e) → ⊥
    no q = cc
past_by at ks w false f go e h = bounded_past at w w refl f ∙ ap (λ t. Err t) (sym (subst (IsOver at) h (keys_over at ks)))

set_each : (vs : List Value) → fits (set (set_from vs)) ≡ true → EachFits vs
set_each vs f =
    let w = set_from vs in
    each_fits vs (record { shallow = omega (arith, depth_of (set w) f); parts = (and_parts (fits_count w) (all_fit w) (fits_parts_of (set w) f)).1 })

fun_each : (ps : List (Value × Value)) → fits (fun_from ps) ≡ true → EachFits (arguments ps)
fun_each ps f =
    let ds = set_from (arguments ps) in
    let vs = values_at ps ds in
    let b = and_parts (fits_count ds) (all_fit ds && all_fit vs) (fits_parts_of (fun ds vs) f) in
    each_fits (arguments ps) (record { shallow = omega (arith, depth_of (fun ds vs) f); parts = (and_parts (all_fit ds) (all_fit vs) b.1).0 })

stops_by : (at : Place) (ks : List (List Value)) (w : Value) (s : EvalStop) → ((e : Trouble) → bounded_keys at ks ≡ Err e → bounded at w ≡ Err e) → Stops s (bounded_keys at ks) → Stops s (bounded at w)
stops_by at ks w Memory go h = tt
stops_by at ks w (Fault k p) go h = go _ h
stops_by at ks w (Limit p) go h = go _ h

pub set_stops : (at : Place) (ks : List (List Value)) (s : EvalStop) → Stops s (bounded_keys at ks) → Stops s (bounded at (set (set_from (map key ks))))
set_stops at ks s h =
    let w = set (set_from (map key ks)) in stops_by at ks w s (past_by at ks w (fits w) refl (set_each (map key ks))) h

-- ---- a function of keys and values

-- no more keys than values
keys_of_pairs : (ks : List (List Value)) (vs : List Value) → length ks ≤ length vs → arguments (paired ks vs) ≡ map key ks
keys_of_pairs [] vs h = refl
keys_of_pairs (k ∷ ks) [] h = absurd (omega arith)
keys_of_pairs (k ∷ ks) (v ∷ vs) h = ap (λ l. key k ∷ l) (keys_of_pairs ks vs (omega arith))

fun_stops : (at : Place) (ks : List (List Value)) (vs : List Value) (s : EvalStop) → length ks ≤ length vs → Stops s (bounded_keys at ks) → Stops s (bounded at (fun_from (paired ks vs)))
fun_stops at ks vs s l h =
    let w = fun_from (paired ks vs) in
    stops_by at ks w s (past_by at ks w (fits w) refl (λ f. subst EachFits (keys_of_pairs ks vs l) (fun_each (paired ks vs) f))) h

no_pairs : (ks : List (List Value)) → paired ks [] ≡ []
no_pairs [] = refl
no_pairs (k ∷ ks) = refl

take_none : {X : Type 0} (n : ℕ) → take {A = X} n [] ≡ []
take_none zero = refl
take_none (suc n) = refl

paired_cut : (ks : List (List Value)) (vs : List Value) (n : ℕ) → n ≡ min (length ks) (length vs) → paired (take n ks) vs ≡ paired ks vs
paired_cut [] vs n h = ap (λ l. paired l vs) (take_none n)
paired_cut (k ∷ ks) [] n h = no_pairs (take n (k ∷ ks))
paired_cut (k ∷ ks) (v ∷ vs) zero h = absurd (omega (arith, h))
paired_cut (k ∷ ks) (v ∷ vs) (suc n) h = ap (λ l. (key k, v) ∷ l) (paired_cut ks vs n (omega (arith, h)))

cut_count : (ks : List (List Value)) (vs : List Value) (n : ℕ) → n ≡ min (length ks) (length vs) → length (take n ks) ≤ length vs
cut_count [] vs n h = omega (arith, ap length (take_none {X = List Value} n))
cut_count (k ∷ ks) [] n h = let e : 0 ≡ n = omega (arith, h) in subst (λ m. length (take m (k ∷ ks)) ≤ 0) e (omega arith)
cut_count (k ∷ ks) (v ∷ vs) zero h = omega arith
cut_count (k ∷ ks) (v ∷ vs) (suc n) h = omega (arith, cut_count ks vs n (omega (arith, h)))

pub table_stops : (at : Place) (ks : List (List Value)) (vs : List Value) (n : ℕ) (s : EvalStop) → n ≡ min (length ks) (length vs) → Stops s (bounded_keys at (take n ks)) → Stops s (bounded at (fun_from (paired ks vs)))
table_stops at ks vs n s e h =
    subst (λ l. Stops s (bounded at (fun_from l))) (paired_cut ks vs n e) (fun_stops at (take n ks) vs s (cut_count ks vs n e) h)

paired_is : (ks : List (List Value)) (vs : List Value) → pairs_of (values_in (map key ks)) (values_in vs) ≡ paired ks vs
paired_is [] vs = refl
paired_is (k ∷ ks) [] = refl
paired_is (k ∷ ks) (v ∷ vs) = ap (λ l. (key k, v) ∷ l) (paired_is ks vs)

-- what is past the shorter of two lists is no pair
pub pairs_cut : (ks vs : List Value) (n : ℕ) → n ≡ min (length ks) (length vs) → pairs_of (values_in (take n ks)) (values_in (take n vs)) ≡ pairs_of (values_in ks) (values_in vs)
pairs_cut [] vs n h = ap (λ l. pairs_of (values_in l) (values_in (take n vs))) (take_none n)
pairs_cut (k ∷ ks) [] n h = ap (λ l. pairs_of (values_in (take n (k ∷ ks))) (values_in l)) (take_none n) ∙ none_beside (values_in (take n (k ∷ ks)))
  where
    none_beside : (ws : Values) → pairs_of ws no_values ≡ []
    none_beside no_values = refl
    none_beside (and w ws) = refl
pairs_cut (k ∷ ks) (v ∷ vs) zero h = absurd (omega (arith, h))
pairs_cut (k ∷ ks) (v ∷ vs) (suc n) h = ap (λ l. (k, v) ∷ l) (pairs_cut ks vs n (omega (arith, h)))

pub table_is : (ks : List (List Value)) (vs args : List Value) (n : ℕ) → n ≡ min (length ks) (length vs) → args ≡ map key (take n ks) → pairs_of (values_in args) (values_in vs) ≡ paired ks vs
table_is ks vs args n e h = ap (λ l. pairs_of (values_in l) (values_in vs)) h ∙ paired_is (take n ks) vs ∙ paired_cut ks vs n e

-- ---- the loop over the keys

one_more : (done : List Value) (v : Value) (o : Outcome (List Value)) → behind (done ++ v ∷ []) o ≡ behind done (value_then (Ok v) o)
one_more done v (Ok vs) = ap Ok (append_assoc done (v ∷ []) vs)
one_more done v (Err k) = refl

first_key : (at : Place) (ks : List (List Value)) (i : ℕ) (k : List Value) → i < length ks → k ≡ get_or ks i k → bounded_keys at (drop i ks) ≡ value_then (bounded at (key k)) (bounded_keys at (drop (i + 1) ks))
first_key at ks i k lt is =
    ap (bounded_keys at) (drop-cons ks i k lt) ∙ (λ n. value_then (bounded at (key (sym is n))) (bounded_keys at (drop (sym (add-one i) n) ks)))

pub keys_next : (at : Place) (ks : List (List Value)) (i : ℕ) (k : List Value) (v : Value) (done done2 : List Value) (all : Outcome (List Value)) → i < length ks → k ≡ get_or ks i k → bounded at (key k) ≡ Ok v → done2 ≡ done ++ v ∷ []
    → behind done (bounded_keys at (drop i ks)) ≡ all → behind done2 (bounded_keys at (drop (i + 1) ks)) ≡ all
keys_next at ks i k v done done2 all lt is e d h =
    let rest = bounded_keys at (drop (i + 1) ks) in
    ap (λ l. behind l rest) d ∙ one_more done v rest ∙ ap (λ o. behind done (value_then o rest)) (sym e) ∙ ap (behind done) (sym (first_key at ks i k lt is)) ∙ h

pub keys_stop : (at : Place) (ks : List (List Value)) (i : ℕ) (k : List Value) (s : EvalStop) (done : List Value) (all : Outcome (List Value)) → i < length ks → k ≡ get_or ks i k → Stops s (bounded at (key k))
    → behind done (bounded_keys at (drop i ks)) ≡ all → Stops s all
keys_stop at ks i k s done all lt is e h =
    let rest = bounded_keys at (drop (i + 1) ks) in
    subst (Stops s) (sym (ap (behind done) (first_key at ks i k lt is)) ∙ h)
    (then_stops s (value_then (bounded at (key k)) rest) (λ vs. Ok (done ++ vs)) (then_stops s (bounded at (key k)) (λ v. rest >>= λ vs. Ok (v ∷ vs)) e))

pub keys_end : (at : Place) (ks : List (List Value)) (i : ℕ) (done : List Value) (all : Outcome (List Value)) → length ks ≤ i → behind done (bounded_keys at (drop i ks)) ≡ all → all ≡ Ok done
keys_end at ks i done all le h = sym h ∙ ap (λ l. behind done (bounded_keys at l)) (drop_of_length-le ks le) ∙ ap Ok (append-nil done)

-- ---- ascending values

lesser : (r : Ordering) → is_lt r ≡ true → r ≡ Less
lesser Less h = refl
lesser Equal h = cc
lesser Greater h = cc

pub rises_by : (xs : List Value) (i : ℕ) (v w : Value) → i + 1 < length xs → v ≡ get_or xs i v → w ≡ get_or xs (i + 1) w → is_lt (order v w) ≡ true
    → IsAscending (values_in (drop (i + 1) xs)) → IsAscending (values_in (drop i xs))
rises_by xs i v w lt is it less h =
    let d : drop (i + 1) xs ≡ w ∷ drop (suc (i + 1)) xs = drop-cons xs (i + 1) w lt ∙ ap (λ u. u ∷ drop (suc (i + 1)) xs) (sym it) in
    let e : drop i xs ≡ v ∷ drop (i + 1) xs = drop-cons xs i v (omega (arith, lt)) ∙ (λ n. sym is n ∷ drop (sym (add-one i) n) xs) in
    subst (λ l. IsAscending (values_in l)) (sym e) (subst (λ l. IsBefore v (values_in l)) (sym d) (lesser (order v w) less), h)

pub ends_ascending : (xs : List Value) (i : ℕ) → length xs ≤ i + 1 → IsAscending (values_in (drop i xs))
ends_ascending [] zero h = tt
ends_ascending [] (suc i) h = tt
ends_ascending (v ∷ []) zero h = (tt, tt)
ends_ascending (v ∷ w ∷ vs) zero h = absurd (omega arith)
ends_ascending (v ∷ vs) (suc i) h = ends_ascending vs i (omega arith)

pub ascending_from : (xs : List Value) (i j : ℕ) → i ≡ j → IsAscending (values_in (drop i xs)) → IsAscending (values_in (drop j xs))
ascending_from xs i j e h = subst (λ n. IsAscending (values_in (drop n xs))) e h

-- ---- the function that is made

pub same_count : (ks vs : List Value) → length ks ≡ length vs → count (values_in ks) ≡ count (values_in vs)
same_count ks vs e = count-values_in ks ∙ e ∙ sym (count-values_in vs)

pub ascending_table : (ks vs : List Value) → IsAscending (values_in ks) → length ks ≡ length vs → fun (values_in ks) (values_in vs) ≡ fun_from (pairs_of (values_in ks) (values_in vs))
ascending_table ks vs a e = sym (fun_from_pairs (values_in ks) (values_in vs) a (same_count ks vs e))
