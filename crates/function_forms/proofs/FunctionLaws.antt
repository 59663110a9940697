-- Functions by their pairs of argument and value.
use Rattle.std.proofs.Common.{◌≡◌, ℕ, zero, suc, take, map, min, ◌+◌, ◌<◌, ◌≤◌, Bool, true, false, if◌then◌else◌, List, [], ◌∷◌, ◌++◌, length, drop, get_or, Option, Some, None, refl, sym, ap, ◌∙◌, subst, arith}
use Rattle.std.specs.Prelude.{◌||◌}
use Rattle.std.proofs.lemmas.Bool.{or_right}
use Rattle.tla_tree.specs.Tree.{Word}
use Rattle.tla_value.specs.Value.{Value, Values, text, fun, no_values, and, values_in}
use Rattle.tla_value.specs.Order.{same, holds, field_pairs, count, set_from, found_at, pairs_of, arguments, first_at, in_front, values_at, fun_from}
use Rattle.tla_value.specs.Sets.{cup}
use Rattle.tla_value.specs.ValueOf.{IsStored}
use Rattle.tla_value.proofs.OrderSets.{first_held, holds_set_from}
use Rattle.tla_value.proofs.OrderFuns.{AreKeyed, arguments_pairs, count_values_at, listed_values}
use Rattle.tla_value.proofs.ValueLists.{count-values_in}
use Rattle.value_forms.specs.Parts.{follow}
use Rattle.function_forms.specs.Functions.{listed_option}
use Rattle.value_forms.proofs.Rows.{values_append, follow_follow, follow_nothing, split_at, nothing_left}

abbrev pub or_else : Option Value → Option Value → Option Value
or_else None o = o
or_else (Some v) o = Some v

first_by : (b : Bool) (w : Value) (o p : Option Value) → (if b then Some w else or_else o p) ≡ or_else (if b then Some w else o) p
first_by true w o p = refl
first_by false w o p = refl

first_of_pairs : (ds rs : Values) (ps : List (Value × Value)) (v : Value) → first_at (pairs_of ds rs ++ ps) v ≡ or_else (found_at ds rs v) (first_at ps v)
first_of_pairs no_values rs ps v = refl
first_of_pairs (and d ds) no_values ps v = refl
first_of_pairs (and d ds) (and r rs) ps v =
    ap (λ o. if same v d then Some r else o) (first_of_pairs ds rs ps v) ∙ first_by (same v d) r (found_at ds rs v) (first_at ps v)

pub first_is_found : (ds rs : Values) (v : Value) → first_at (pairs_of ds rs) v ≡ found_at ds rs v
first_is_found no_values rs v = refl
first_is_found (and d ds) no_values v = refl
first_is_found (and d ds) (and r rs) v = ap (λ o. if same v d then Some r else o) (first_is_found ds rs v)

pub first_of_two : (ds rs es qs : Values) (v : Value) → first_at (pairs_of ds rs ++ pairs_of es qs) v ≡ or_else (found_at ds rs v) (found_at es qs v)
first_of_two ds rs es qs v = first_of_pairs ds rs (pairs_of es qs) v ∙ ap (or_else (found_at ds rs v)) (first_is_found es qs v)

-- ---- the values at a domain, one after the other

in_front_is : (o : Option Value) (vs : Values) → in_front o vs ≡ follow (values_in (listed_option o)) vs
in_front_is None vs = refl
in_front_is (Some v) vs = refl

pub values_next : (ps : List (Value × Value)) (domain done done2 : List Value) (i : ℕ) (d : Value) (o : Option Value) (all : Values) → i < length domain → d ≡ get_or domain i d → o ≡ first_at ps d → done2 ≡ done ++ listed_option o
    → follow (values_in done) (values_at ps (values_in (drop i domain))) ≡ all → follow (values_in done2) (values_at ps (values_in (drop (i + 1) domain))) ≡ all
values_next ps domain done done2 i d o all lt is e k h =
    let rest = values_at ps (values_in (drop (i + 1) domain)) in
    ap (λ l. follow (values_in l) rest) k ∙ ap (λ l. follow l rest) (values_append done (listed_option o)) ∙ follow_follow (values_in done) (values_in (listed_option o)) rest ∙
    ap (follow (values_in done)) (sym (in_front_is o rest) ∙ ap (λ p. in_front p rest) e) ∙
    ap (λ l. follow (values_in done) (values_at ps l)) (sym (split_at domain i d lt is)) ∙ h

pub values_end : (ps : List (Value × Value)) (domain done : List Value) (i : ℕ) (all : Values) → length domain ≤ i → follow (values_in done) (values_at ps (values_in (drop i domain))) ≡ all → values_in done ≡ all
values_end ps domain done i all le h =
    sym (follow_nothing (values_in done)) ∙ ap (λ l. follow (values_in done) (values_at ps l)) (sym (nothing_left domain i le)) ∙ h

-- ---- two functions

arguments_append : (ps qs : List (Value × Value)) → arguments (ps ++ qs) ≡ arguments ps ++ arguments qs
arguments_append [] qs = refl
arguments_append (p ∷ ps) qs = ap (λ l. p.0 ∷ l) (arguments_append ps qs)

pub two_domains : (ds rs es qs : Values) → count ds ≡ count rs → count es ≡ count qs → set_from (arguments (pairs_of ds rs ++ pairs_of es qs)) ≡ cup ds es
two_domains ds rs es qs h k =
    ap set_from (arguments_append (pairs_of ds rs) (pairs_of es qs) ∙ (λ n. arguments_pairs ds rs h n ++ arguments_pairs es qs k n))

-- ---- each member of the domain has a value

abbrev HasFirst : List (Value × Value) → Value → Type 0
HasFirst ps v = (w : Value) × (first_at ps v ≡ Some w)

has_by : (p : Value × Value) (ps : List (Value × Value)) (v : Value) (b : Bool) → same v p.0 ≡ b → (b || holds v (values_in (arguments ps))) ≡ true → (holds v (values_in (arguments ps)) ≡ true → HasFirst ps v) → HasFirst (p ∷ ps) v
has_by p ps v true e h rest = (p.1, ap (λ b. if b then Some p.1 else first_at ps v) e)
has_by p ps v false e h rest =
    let w = rest h in (w.0, ap (λ b. if b then Some p.1 else first_at ps v) e ∙ w.1)

has_first : (ps : List (Value × Value)) (v : Value) → holds v (values_in (arguments ps)) ≡ true → HasFirst ps v
has_first [] v h = cc
has_first (p ∷ ps) v h = has_by p ps v (same v p.0) refl h (has_first ps v)

all_keyed : (ps : List (Value × Value)) (ds : Values) → ((u : Value) → holds u ds ≡ true → holds u (values_in (arguments ps)) ≡ true) → AreKeyed ps ds
all_keyed ps no_values h = tt
all_keyed ps (and d ds) h =
    (has_first ps d (h d (first_held d ds)), all_keyed ps ds (λ u e. h u (or_right (same u d) (holds u ds) e)))

-- how many values there are
pub pair_counts : (ps : List (Value × Value)) → count (set_from (arguments ps)) ≡ count (values_at ps (set_from (arguments ps)))
pair_counts ps =
    sym (count_values_at ps (set_from (arguments ps)) (all_keyed ps (set_from (arguments ps)) (λ u e. sym (holds_set_from u (arguments ps)) ∙ e)))

pub two_counts : (ds rs es qs : Values) → IsStored (fun ds rs) → IsStored (fun es qs) → count (cup ds es) ≡ count (values_at (pairs_of ds rs ++ pairs_of es qs) (cup ds es))
two_counts ds rs es qs h k =
    let ps = pairs_of ds rs ++ pairs_of es qs in
    subst (λ d. count d ≡ count (values_at ps d)) (two_domains ds rs es qs h.0.3 k.0.3) (pair_counts ps)

pub two_joined : (ds rs es qs : Values) → IsStored (fun ds rs) → IsStored (fun es qs) → fun (cup ds es) (values_at (pairs_of ds rs ++ pairs_of es qs) (cup ds es)) ≡ fun_from (pairs_of ds rs ++ pairs_of es qs)
two_joined ds rs es qs h k =
    let ps = pairs_of ds rs ++ pairs_of es qs in
    ap (λ d. fun d (values_at ps d)) (sym (two_domains ds rs es qs h.0.3 k.0.3))

-- ---- arguments in any order

pub keys_domain : (keys values : List Value) → length keys ≡ length values → set_from (arguments (pairs_of (values_in keys) (values_in values))) ≡ set_from keys
keys_domain keys values e =
    ap set_from (arguments_pairs (values_in keys) (values_in values) (omega (arith, count-values_in keys, count-values_in values)) ∙ listed_values keys)

-- ---- records

pub fields_cut : (xs : List Word) (vs : List Value) (k : ℕ) → k ≡ min (length xs) (length vs) → field_pairs xs vs ≡ pairs_of (values_in (map text (take k xs))) (values_in (take k vs))
fields_cut [] vs zero e = refl
fields_cut [] vs (suc k) e = absurd (omega (arith, e))
fields_cut (x ∷ xs) [] zero e = refl
fields_cut (x ∷ xs) [] (suc k) e = absurd (omega (arith, e))
fields_cut (x ∷ xs) (v ∷ vs) zero e = absurd (omega (arith, e))
fields_cut (x ∷ xs) (v ∷ vs) (suc k) e = ap (λ l. (text x, v) ∷ l) (fields_cut xs vs k (omega (arith, e)))
