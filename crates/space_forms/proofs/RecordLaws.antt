-- Sets of records by the sets of their fields.
use Rattle.std.proofs.Common.{◌≡◌, ℕ, zero, suc, ◌+◌, ◌<◌, ◌≤◌, Bool, true, false, List, [], ◌∷◌, map, length, min, take, drop, get_or, Option, Some, None, if◌then◌else◌, Ok, Err, refl, sym, ap, ◌∙◌, subst, arith, add-one}
use Rattle.std.specs.Prelude.{◌&&◌}
use Rattle.std.proofs.Math.Seq.{drop-cons}
use Rattle.std.proofs.Math.ListN.{drop_of_length-le}
use Rattle.std.proofs.lemmas.Bool.{leb-true, and_parts, false_from_ne_true}
use Rattle.tla_token.specs.declared.place.Place.{Place}
use Rattle.tla_token.specs.Limits.{most_members}
use Rattle.tla_tree.specs.Tree.{Word, records}
use Rattle.tla_value.specs.declared.stop.EvalStop.{EvalStop}
use Rattle.tla_value.specs.Value.{Value, Values, truth, int, text, model, set, fun, no_values, and, values_in, over, ◌>>=◌, in_order}
use Rattle.tla_value.specs.Order.{same, count, set_from, found_at, pairs_of, first_at, in_front, values_at, fun_from, record_from}
use Rattle.tla_value.specs.OrderLaws.{same_is}
use Rattle.tla_value.specs.Limits.{fits, fits_count, fits_parts, all_fit, bounded}
use Rattle.tla_value.specs.Stops.{members_at, function_at}
use Rattle.tla_value.specs.Sets.{members, choices, all_chosen, functions_over}
use Rattle.tla_value.specs.Strict.{space_of}
use Rattle.tla_value.specs.ValueOf.{IsStored}
use Rattle.tla_value.proofs.Outcomes.{ok_is, bound_ok}
use Rattle.tla_value.proofs.Fits.{fits_parts_of, bounded_past}
use Rattle.tla_value.proofs.ValueLists.{count-values_in}
use Rattle.value_forms.specs.Gives.{Stops}
use Rattle.value_forms.specs.Parts.{AreParts}
use Rattle.value_forms.specs.Counts.{Counts}
use Rattle.value_forms.proofs.PartLaws.{parts_set_from}
use Rattle.value_forms.proofs.Rows.{split_at, nothing_left}
use Rattle.value_forms.proofs.StopLaws.{then_stops}
use Rattle.function_forms.proofs.FunctionLaws.{first_is_found, fields_cut, keys_domain, pair_counts}
use Rattle.space_forms.specs.Spaces.{ways, beside, fronted_by, held_by, IsSpace, AreSpaces}
use Rattle.space_forms.proofs.MemberLaws.{members_same}
use Rattle.space_forms.proofs.SpaceLaws.{is_space, choices_many, functions_listed, functions_counted}

-- ---- whether all are sets

set_is : (at : Place) (v : Value) (m : Values) → members_at at v ≡ Ok m → v ≡ set m
set_is at (set ws) m e = ap set (ok_is e)
set_is at (truth b) m e = cc
set_is at (int z) m e = cc
set_is at (text w) m e = cc
set_is at (model w) m e = cc
set_is at (fun ds vs) m e = cc

-- what is so of the values that are left is so of all
abbrev pub Leads : Place → List Value → List Value → Type 0
Leads at vs ws =
    ((s : EvalStop) → Stops s (in_order (members_at at) ws) → Stops s (in_order (members_at at) vs)) × (in_order (members_at at) ws ≡ Ok (map members ws) → in_order (members_at at) vs ≡ Ok (map members vs)) × (AreSpaces (values_in ws) → AreSpaces (values_in vs))

first_is : (vs : List Value) (i : ℕ) (v : Value) → i < length vs → v ≡ get_or vs i v → drop i vs ≡ v ∷ drop (i + 1) vs
first_is vs i v lt is = drop-cons vs i v lt ∙ (λ n. sym is n ∷ drop (sym (add-one i) n) vs)

past_set : (at : Place) (m : Values) (vs ws : List Value) → IsStored (set m) → Leads at vs (set m ∷ ws) → Leads at vs ws
past_set at m vs ws h l =
    (λ s k. l.0 s (then_stops s (in_order (members_at at) ws) (λ ys. Ok (m ∷ ys)) k), λ e. l.1 (ap (λ o. o >>= λ ys. Ok (m ∷ ys)) e), λ k. l.2 (is_space (set m) h, k))

pub leads_start : (at : Place) (vs : List Value) → Leads at vs vs
leads_start at vs = (λ s k. k, λ e. e, λ h. h)

pub leads_next : (at : Place) (vs ms : List Value) (i : ℕ) (v : Value) → i < length vs → v ≡ get_or vs i v → members_at at v ≡ Ok (values_in ms) → IsStored (set (values_in ms)) → Leads at vs (drop i vs) → Leads at vs (drop (i + 1) vs)
leads_next at vs ms i v lt is e h l =
    past_set at (values_in ms) vs (drop (i + 1) vs) h (subst (Leads at vs) (first_is vs i v lt is ∙ ap (λ u. u ∷ drop (i + 1) vs) (set_is at v (values_in ms) e)) l)

pub leads_stop : (at : Place) (vs : List Value) (i : ℕ) (v : Value) (s : EvalStop) → i < length vs → v ≡ get_or vs i v → Stops s (members_at at v) → Leads at vs (drop i vs) → Stops s (in_order (members_at at) vs)
leads_stop at vs i v s lt is k l =
    l.0 s (subst (λ ws. Stops s (in_order (members_at at) ws)) (sym (first_is vs i v lt is)) (then_stops s (members_at at v) (λ y. in_order (members_at at) (drop (i + 1) vs) >>= λ ys. Ok (y ∷ ys)) k))

pub leads_end : (at : Place) (vs : List Value) (i : ℕ) → length vs ≤ i → Leads at vs (drop i vs) → (in_order (members_at at) vs ≡ Ok (map members vs)) × AreSpaces (values_in vs)
leads_end at vs i le l =
    let m : Leads at vs [] = subst (Leads at vs) (drop_of_length-le vs le) l in (m.1 refl, m.2 tt)

sets_again : (at : Place) (vs : List Value) (ss : List Values) → in_order (members_at at) vs ≡ Ok ss → map set ss ≡ vs
sets_again at [] ss e = ap (map set) (sym (ok_is e))
sets_again at (v ∷ vs) ss e =
    let a = bound_ok (members_at at v) (λ y. in_order (members_at at) vs >>= λ ys. Ok (y ∷ ys)) ss e in
    let b = bound_ok (in_order (members_at at) vs) (λ ys. Ok (a.0 ∷ ys)) ss a.2 in
    ap (map set) (sym (ok_is b.2)) ∙ (λ i. sym (set_is at v a.0 a.1) i ∷ sets_again at vs b.0 b.1 i)

pub spaces_taken : (k : ℕ) (vs : List Value) → AreSpaces (values_in vs) → AreSpaces (values_in (take k vs))
spaces_taken zero [] h = tt
spaces_taken zero (v ∷ vs) h = tt
spaces_taken (suc k) [] h = tt
spaces_taken (suc k) (v ∷ vs) h = (h.0, spaces_taken k vs h.1)

-- ---- the domain, and the sets beside it

abbrev pub keyed : List Value → List Value → List (Value × Value)
keyed keys sets = pairs_of (values_in keys) (values_in sets)

pub beside_next : (keys sets domain : List Value) (i : ℕ) (d : Value) (o : Option Value) → i < length domain → d ≡ get_or domain i d → o ≡ found_at (values_in keys) (values_in sets) d → in_front o (beside keys sets (drop (i + 1) domain)) ≡ beside keys sets (drop i domain)
beside_next keys sets domain i d o lt is e =
    ap (λ p. in_front p (beside keys sets (drop (i + 1) domain))) (e ∙ sym (first_is_found (values_in keys) (values_in sets) d)) ∙ ap (values_at (keyed keys sets)) (sym (split_at domain i d lt is))

pub choices_in_front : (o : Option Value) (ss : Values) → choices (in_front o ss) ≡ fronted_by o (choices ss)
choices_in_front None ss = refl
choices_in_front (Some s) ss = refl

pub rows_next : (keys sets domain : List Value) (i j : ℕ) (d : Value) (o : Option Value) (ts us : List Values) → j + 1 ≡ i → j < length domain → d ≡ get_or domain j d → o ≡ found_at (values_in keys) (values_in sets) d → us ≡ fronted_by o ts
    → ts ≡ choices (beside keys sets (drop i domain)) → us ≡ choices (beside keys sets (drop j domain))
rows_next keys sets domain i j d o ts us k l is e u h =
    u ∙ ap (fronted_by o) (h ∙ ap (λ n. choices (beside keys sets (drop n domain))) (sym k)) ∙ sym (choices_in_front o (beside keys sets (drop (j + 1) domain))) ∙ ap choices (beside_next keys sets domain j d o l is e)

pub many_next : (keys sets domain : List Value) (i j : ℕ) (d : Value) (o : Option Value) (p q : Option ℕ) → j + 1 ≡ i → j < length domain → d ≡ get_or domain j d → o ≡ found_at (values_in keys) (values_in sets) d → ((ss : Values) → Counts p (ways ss) → Counts q (ways (in_front o ss)))
    → Counts p (ways (beside keys sets (drop i domain))) → Counts q (ways (beside keys sets (drop j domain)))
many_next keys sets domain i j d o p q k l is e step h =
    subst (λ ss. Counts q (ways ss)) (beside_next keys sets domain j d o l is e) (step (beside keys sets (drop (j + 1) domain)) (subst (λ n. Counts p (ways (beside keys sets (drop n domain)))) (sym k) h))

either_space : (b : Bool) (s : Value) (o : Option Value) (ss : Values) → IsSpace s → AreSpaces ss → AreSpaces (in_front o ss) → AreSpaces (in_front (if b then Some s else o) ss)
either_space true s o ss h k l = (h, k)
either_space false s o ss h k l = l

first_space : (ks vs ss : Values) (d : Value) → AreSpaces vs → AreSpaces ss → AreSpaces (in_front (first_at (pairs_of ks vs) d) ss)
first_space no_values vs ss d h k = k
first_space (and x ks) no_values ss d h k = k
first_space (and x ks) (and v vs) ss d h k = either_space (same d x) v (first_at (pairs_of ks vs) d) ss h.0 k (first_space ks vs ss d h.1 k)

spaces_at : (ks vs ds : Values) → AreSpaces vs → AreSpaces (values_at (pairs_of ks vs) ds)
spaces_at ks vs no_values h = tt
spaces_at ks vs (and d ds) h = first_space ks vs (values_at (pairs_of ks vs) ds) d h (spaces_at ks vs ds h)

pub beside_spaces : (keys sets domain : List Value) → AreSpaces (values_in sets) → AreSpaces (beside keys sets domain)
beside_spaces keys sets domain h = spaces_at (values_in keys) (values_in sets) (values_in domain) h

pub beside_counts : (keys sets domain : List Value) → length keys ≡ length sets → values_in domain ≡ set_from keys → count (values_in domain) ≡ count (beside keys sets domain)
beside_counts keys sets domain e h =
    let ps = keyed keys sets in
    let d = h ∙ sym (keys_domain keys sets e) in ap count d ∙ pair_counts ps ∙ ap (λ ds. count (values_at ps ds)) (sym d)

text_parts : (xs : List Word) → AreParts (values_in (map text xs))
text_parts [] = tt
text_parts (x ∷ xs) = ((tt, refl, omega arith), text_parts xs)

pub domain_parts : (xs : List Word) (domain : List Value) → values_in domain ≡ set_from (map text xs) → AreParts (values_in domain)
domain_parts xs domain e = subst AreParts (sym e) (parts_set_from (map text xs) (text_parts xs))

-- ---- what the definition gives

pub cut_lengths : (xs : List Word) (vs : List Value) (k : ℕ) → k ≡ min (length xs) (length vs) → length (map text (take k xs)) ≡ length (take k vs)
cut_lengths [] vs zero e = refl
cut_lengths [] vs (suc k) e = absurd (omega (arith, e))
cut_lengths (x ∷ xs) [] zero e = refl
cut_lengths (x ∷ xs) [] (suc k) e = absurd (omega (arith, e))
cut_lengths (x ∷ xs) (v ∷ vs) zero e = refl
cut_lengths (x ∷ xs) (v ∷ vs) (suc k) e = ap suc (cut_lengths xs vs k (omega (arith, e)))

pub record_parts : (at : Place) (xs : List Word) (vs domain : List Value) (k : ℕ) → k ≡ min (length xs) (length vs) → in_order (members_at at) vs ≡ Ok (map members vs) → values_in domain ≡ set_from (map text (take k xs))
    → space_of (records xs) at vs ≡ Ok (values_in domain, beside (map text (take k xs)) (take k vs) domain)
record_parts at xs vs domain k e h d =
    let keys = map text (take k xs) in
    let ps = keyed keys (take k vs) in
    let ds = d ∙ sym (keys_domain keys (take k vs) (cut_lengths xs vs k e)) in
    ap (λ o. o >>= λ ss. function_at at (record_from xs (map set ss))) h ∙ ap (λ l. function_at at (record_from xs l)) (sets_again at vs (map members vs) h) ∙
    ap (λ qs. function_at at (fun_from qs)) (fields_cut xs vs k e) ∙ (λ i. Ok (sym ds i, values_at ps (sym ds i)))

-- ---- how many there are

no_members : (vs : Values) → count vs ≡ 0 → vs ≡ no_values
no_members no_values e = refl
no_members (and v vs) e = absurd (omega (arith, e))

pub no_functions : (ds ss : Values) → AreSpaces ss → ways ss ≡ 0 → functions_over ds ss ≡ no_values
no_functions ds ss h e = no_members (functions_over ds ss) (functions_counted ds ss h ∙ e)

too_wide : (ds : Values) (ts : List Values) → most_members < count ds → 0 < length ts → fits (set (values_in (map (fun ds) ts))) ≡ false
too_wide ds [] l n = absurd (omega arith)
too_wide ds (t ∷ ts) l n =
    let vs = values_in (map (fun ds) (t ∷ ts)) in
    false_from_ne_true (fits (set vs)) (λ h.
    let a = and_parts (fits_count vs) (all_fit vs) (fits_parts_of (set vs) h) in
    let f = and_parts (fits_parts (fun ds t)) (all_fit (values_in (map (fun ds) ts))) a.1 in
    omega (arith, leb-true (count ds) most_members (and_parts (fits_count ds) (all_fit ds && all_fit t) f.0).0))

pub functions_wide : (at : Place) (ds ss : Values) → AreSpaces ss → most_members < count ds → 0 < ways ss → bounded at (set (functions_over ds ss)) ≡ Err (over at)
functions_wide at ds ss h l n =
    bounded_past at (set (values_in (map (fun ds) (choices ss)))) (set (functions_over ds ss)) (ap set (sym (functions_listed ds ss h))) (too_wide ds (choices ss) l (omega (arith, n, choices_many ss)))

-- ---- a value at a time

one_at_most : (o : Option Value) (vs ds : Values) → count vs ≤ count ds → count (in_front o vs) ≤ suc (count ds)
one_at_most None vs ds h = omega arith
one_at_most (Some v) vs ds h = omega arith

at_most : (ps : List (Value × Value)) (ds : Values) → count (values_at ps ds) ≤ count ds
at_most ps no_values = omega arith
at_most ps (and d ds) = one_at_most (first_at ps d) (values_at ps ds) ds (at_most ps ds)

-- each member has a value, as none is missing
abbrev pub IsFull : List Value → List Value → List Value → Type 0
IsFull keys sets domain = count (values_in domain) ≡ count (beside keys sets domain)

none_missing : (v : Value) (o : Option Value) (vs ss ds : Values) → count ss ≤ count ds → suc (count ds) ≡ count (in_front o ss) → all_chosen (and v vs) (in_front o ss) ≡ (held_by o v && all_chosen vs ss)
none_missing v None vs ss ds l e = absurd (omega (arith, e))
none_missing v (Some w) vs ss ds l e = refl

full_tail : (ps : List (Value × Value)) (d : Value) (ds : Values) → suc (count ds) ≡ count (values_at ps (and d ds)) → count ds ≡ count (values_at ps ds)
full_tail ps d ds = by_first (first_at ps d)
  where
    by_first : (o : Option Value) → suc (count ds) ≡ count (in_front o (values_at ps ds)) → count ds ≡ count (values_at ps ds)
    by_first None e = absurd (omega (arith, e, at_most ps ds))
    by_first (Some v) e = omega (arith, e)

full_drop : (keys sets domain : List Value) (i : ℕ) → IsFull keys sets domain → IsFull keys sets (drop i domain)
full_drop keys sets [] zero h = h
full_drop keys sets [] (suc i) h = h
full_drop keys sets (d ∷ ds) zero h = h
full_drop keys sets (d ∷ ds) (suc i) h = full_drop keys sets ds i (full_tail (keyed keys sets) d (values_in ds) h)

chosen_next : (values keys sets domain : List Value) (i : ℕ) (v d : Value) (o : Option Value) → i < length values → i < length domain → v ≡ get_or values i v → d ≡ get_or domain i d → o ≡ found_at (values_in keys) (values_in sets) d → IsFull keys sets domain
    → all_chosen (values_in (drop i values)) (beside keys sets (drop i domain)) ≡ (held_by o v && all_chosen (values_in (drop (i + 1) values)) (beside keys sets (drop (i + 1) domain)))
chosen_next values keys sets domain i v d o lv ld vi di e full =
    let next = beside_next keys sets domain i d o ld di e in
    let rest = values_in (drop (i + 1) domain) in
    (λ n. all_chosen (split_at values i v lv vi n) (sym next n)) ∙
    none_missing v o (values_in (drop (i + 1) values)) (beside keys sets (drop (i + 1) domain)) rest (at_most (keyed keys sets) rest) (sym (ap count (split_at domain i d ld di)) ∙ full_drop keys sets domain i full ∙ ap count (sym next))

pub beside_step : (values keys sets domain : List Value) (i : ℕ) (v d : Value) (o : Option Value) (b all : Bool) → i < length values → i < length domain → v ≡ get_or values i v → d ≡ get_or domain i d → o ≡ found_at (values_in keys) (values_in sets) d → IsFull keys sets domain → held_by o v ≡ b
    → all_chosen (values_in (drop i values)) (beside keys sets (drop i domain)) ≡ all → (b && all_chosen (values_in (drop (i + 1) values)) (beside keys sets (drop (i + 1) domain))) ≡ all
beside_step values keys sets domain i v d o b all lv ld vi di e full is h =
    ap (λ t. t && all_chosen (values_in (drop (i + 1) values)) (beside keys sets (drop (i + 1) domain))) (sym is) ∙ sym (chosen_next values keys sets domain i v d o lv ld vi di e full) ∙ h

pub beside_end : (values keys sets domain : List Value) (i : ℕ) (all : Bool) → length values ≤ i → length domain ≤ i → all_chosen (values_in (drop i values)) (beside keys sets (drop i domain)) ≡ all → true ≡ all
beside_end values keys sets domain i all lv ld h =
    sym (λ n. all_chosen (nothing_left values i lv n) (values_at (keyed keys sets) (nothing_left domain i ld n))) ∙ h

pub as_long : (es vs ds : List Value) → IsStored (fun (values_in es) (values_in vs)) → same (set (values_in es)) (set (values_in ds)) ≡ true → length vs ≡ length ds
as_long es vs ds h e =
    omega (arith, count-values_in es, count-values_in vs, count-values_in ds, h.0.3, ap count (members_same (values_in es) (values_in ds) (same_is (set (values_in es)) (set (values_in ds)) e)))
