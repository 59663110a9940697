-- A test for membership that lists nothing says what the listed set says: of SUBSET A, and so of every form.
use Rattle.std.proofs.Common.{◌≡◌, Bool, true, false, ◌&&◌, ◌||◌, List, [], ◌∷◌, map, refl, sym, ◌∙◌, ap, subst, Ok, Err}
use Rattle.std.specs.Ordering.{nat_cmp, is_eq}
use Rattle.std.specs.declared.cmp.Ordering.{Ordering}
use Rattle.std.specs.declared.cmp.Ordering.TheVariants.{Less, Equal, Greater}
use Rattle.std.proofs.Math.Bool.{or-false}
use Rattle.tla_token.specs.declared.place.Place.{Place}
use Rattle.tla_tree.specs.declared.op.Op.{Op}
use Rattle.tla_tree.specs.declared.op.Op.TheVariants.{Subset}
use Rattle.tla_tree.specs.Tree.{Word, Strict, operator, functions, records}
use Rattle.tla_value.specs.Value.{Value, Values, truth, int, text, model, fun, set, no_values, and, Outcome, values_in, ◌>>=◌, in_order}
use Rattle.tla_value.specs.Order.{record_from, count, order, orders, same, holds, set_from, field_pairs, arguments, values_at, IsBefore, IsAscending, IsCanonical, AreCanonical}
use Rattle.tla_value.specs.Stops.{plain, members_at, function_at, tested}
use Rattle.tla_value.specs.Sets.{all_in, sublists, subsets, repeated, functions_over, is_function_over, is_subset}
use Rattle.tla_value.specs.Strict.{strict_value, strict_test}
use Rattle.tla_value.specs.OrderLaws.{orders_equal, order_self, nat_self, same_is}
use Rattle.tla_value.proofs.OrderSets.{holds_set_from, before_next}
use Rattle.tla_value.proofs.Untested.{then_eq, is_among, among_both, among_fronts, functions_tested}

abbrev IsLess : Ordering → Type 0
IsLess Less = Unit {0}
IsLess _ = ⊥

not_less : (v : Value) → order v v ≡ Less → ⊥
not_less v h = subst IsLess (sym h ∙ order_self v) tt

-- what is before is another one
other_by : (u v : Value) (b : Bool) → same u v ≡ b → order v u ≡ Less → same u v ≡ false
other_by u v false q h = q
other_by u v true q h = absurd (not_less v (sym (ap (order v) (same_is u v q)) ∙ h))

past_first : (v : Value) (ws vs : Values) → IsBefore v ws → IsAscending ws → all_in ws (and v vs) ≡ all_in ws vs
past_first v no_values vs b h = refl
past_first v (and u us) vs b h =
    λ i. (other_by u v (same u v) refl b i || holds u vs) && past_first v us vs (before_next v u us b h.0) h.1 i

abbrev IsYes : Bool → Type 0
IsYes true = Unit {0}
IsYes false = ⊥

here_or_behind : (v w u : Value) (us : Values) (s : Bool) → same w u ≡ s → order v u ≡ Less → (same w u || holds w us) ≡ true → (holds w us ≡ true → order v w ≡ Less) → order v w ≡ Less
here_or_behind v w u us true q b k later = ap (order v) (same_is w u q) ∙ b
here_or_behind v w u us false q b k later = later (sym (ap (λ s. s || holds w us) q) ∙ k)

held_behind : (v w : Value) (vs : Values) → IsBefore v vs → IsAscending vs → holds w vs ≡ true → order v w ≡ Less
held_behind v w no_values b h k = absurd (subst IsYes (sym k) tt)
held_behind v w (and u us) b h k =
    here_or_behind v w u us (same w u) refl b k (λ q. held_behind v w us (before_next v u us b h.0) h.1 q)

none_in : (a : Bool) → (a && false) ≡ false
none_in true = refl
none_in false = refl

absorbed : (h x : Bool) → ((h && x) || x) ≡ x
absorbed true true = refl
absorbed true false = refl
absorbed false x = refl

-- whether w is the first, held after it, or neither
first_or_behind : (w v : Value) (ws vs : Values) → IsAscending (and w ws) → IsAscending (and v vs) → (s h : Bool) → same w v ≡ s → holds w vs ≡ h →
    ((h && all_in ws vs) || (s && all_in ws vs)) ≡ ((s || h) && all_in ws (and v vs))
first_or_behind w v ws vs a b true h q k =
    absorbed h (all_in ws vs) ∙ sym (past_first v ws vs (subst (λ x. IsBefore x ws) (same_is w v q) a.0) a.1)
first_or_behind w v ws vs a b false true q k =
    or-false (all_in ws vs) ∙ sym (past_first v ws vs (before_next v w ws (held_behind v w vs b.0 b.1 k) a.0) a.1)
first_or_behind w v ws vs a b false false q k = refl

among_sublists : (ws vs : Values) → IsAscending ws → IsAscending vs → is_among ws (sublists vs) ≡ all_in ws vs
among_sublists no_values no_values a b = refl
among_sublists (and w ws) no_values a b = refl
among_sublists no_values (and v vs) a b =
    among_both no_values (sublists vs) (map (and v) (sublists vs))
    ∙ ap (λ x. x || is_among no_values (map (and v) (sublists vs))) (among_sublists no_values vs a b.1)
among_sublists (and w ws) (and v vs) a b =
    among_both (and w ws) (sublists vs) (map (and v) (sublists vs))
    ∙ (λ i. among_sublists (and w ws) vs a b.1 i || among_fronts w v ws (sublists vs) i)
    ∙ ap (λ x. (holds w vs && all_in ws vs) || (same w v && x)) (among_sublists ws vs a.1 b.1)
    ∙ first_or_behind w v ws vs a b (same w v) (holds w vs) refl refl

same_by : (ws ts : Values) (r : Ordering) → orders ws ts ≡ r → (is_eq (nat_cmp (count ws) (count ts)) && is_eq r) ≡ is_eq r
same_by ws ts Less q = none_in (is_eq (nat_cmp (count ws) (count ts)))
same_by ws ts Greater q = none_in (is_eq (nat_cmp (count ws) (count ts)))
same_by ws ts Equal q =
    ap (λ x. is_eq (nat_cmp (count ws) (count x)) && true) (sym (orders_equal ws ts q)) ∙ ap (λ r. is_eq r && true) (nat_self (count ws))

pub sets_same : (ws ts : Values) → same (set ws) (set ts) ≡ is_eq (orders ws ts)
sets_same ws ts = then_eq (nat_cmp (count ws) (count ts)) (orders ws ts) ∙ same_by ws ts (orders ws ts) refl

sets_among : (ws : Values) (ts : List Values) → holds (set ws) (values_in (map set ts)) ≡ is_among ws ts
sets_among ws [] = refl
sets_among ws (t ∷ ts) = λ i. sets_same ws t i || sets_among ws ts i

no_set : (v : Value) (ts : List Values) → ((t : Values) → same v (set t) ≡ false) → holds v (values_in (map set ts)) ≡ false
no_set v [] h = refl
no_set v (t ∷ ts) h = λ i. h t i || no_set v ts h i

subset_by : (v : Value) (vs : Values) → IsCanonical v → IsAscending vs → holds v (values_in (map set (sublists vs))) ≡ is_subset v vs
subset_by (set ws) vs a b = sets_among ws (sublists vs) ∙ among_sublists ws vs a.0 b
subset_by (truth t) vs a b = no_set (truth t) (sublists vs) (λ t. refl)
subset_by (int n) vs a b = no_set (int n) (sublists vs) (λ t. refl)
subset_by (text w) vs a b = no_set (text w) (sublists vs) (λ t. refl)
subset_by (model w) vs a b = no_set (model w) (sublists vs) (λ t. refl)
subset_by (fun ds us) vs a b = no_set (fun ds us) (sublists vs) (λ t. refl)

-- v is a member of SUBSET vs exactly if the test says so
pub subsets_tested : (v : Value) (vs : Values) → IsCanonical v → IsAscending vs → holds v (subsets vs) ≡ is_subset v vs
subsets_tested v vs a b = holds_set_from v (map set (sublists vs)) ∙ subset_by v vs a b

-- ---- forms

of_two : (at p : Place) (v a b : Value) → strict_test plain functions at p v (a ∷ b ∷ []) ≡ tested p v (strict_value plain functions at (a ∷ b ∷ []))
of_two at p v (set ds) (set ws) = λ i. Ok (sym (functions_tested v ds (repeated ds (set ws))) i)
of_two at p v (set ds) b = refl
of_two at p v a b = refl

functions_law : (at p : Place) (v : Value) (vs : List Value) → strict_test plain functions at p v vs ≡ tested p v (strict_value plain functions at vs)
functions_law at p v [] = refl
functions_law at p v (a ∷ []) = refl
functions_law at p v (a ∷ b ∷ []) = of_two at p v a b
functions_law at p v (a ∷ b ∷ d ∷ vs) = refl

abbrev field_sets : List Word → List Values → List (Value × Value)
field_sets xs ss = field_pairs xs (map set ss)

abbrev field_names : List Word → List Values → Values
field_names xs ss = set_from (arguments (field_sets xs ss))

records_by : (xs : List Word) (at p : Place) (v : Value) (o : Outcome (List Values)) →
    ((o >>= λ ss. function_at at (record_from xs (map set ss))) >>= λ (ds, ss). Ok (is_function_over v ds ss))
    ≡ tested p v (((o >>= λ ss. function_at at (record_from xs (map set ss))) >>= λ (ds, ss). Ok (set (functions_over ds ss))) >>= plain at)
records_by xs at p v (Ok ss) = λ i. Ok (sym (functions_tested v (field_names xs ss) (values_at (field_sets xs ss) (field_names xs ss))) i)
records_by xs at p v (Err k) = refl

records_law : (xs : List Word) (at p : Place) (v : Value) (vs : List Value) → strict_test plain (records xs) at p v vs ≡ tested p v (strict_value plain (records xs) at vs)
records_law xs at p v vs = records_by xs at p v (in_order (members_at at) vs)

of_one : (at p : Place) (v w : Value) → IsCanonical v → IsCanonical w → strict_test plain (operator Subset) at p v (w ∷ []) ≡ tested p v (strict_value plain (operator Subset) at (w ∷ []))
of_one at p v (set ws) a b = λ i. Ok (sym (subsets_tested v ws a b.0) i)
of_one at p v w a b = refl

subset_law : (at p : Place) (v : Value) (vs : List Value) → IsCanonical v → AreCanonical (values_in vs) → strict_test plain (operator Subset) at p v vs ≡ tested p v (strict_value plain (operator Subset) at vs)
subset_law at p v [] a b = refl
subset_law at p v (w ∷ []) a b = of_one at p v w a b.0
subset_law at p v (w ∷ u ∷ vs) a b = refl

operator_law : (o : Op) (at p : Place) (v : Value) (vs : List Value) → IsCanonical v → AreCanonical (values_in vs) → strict_test plain (operator o) at p v vs ≡ tested p v (strict_value plain (operator o) at vs)
operator_law Subset at p v vs a b = subset_law at p v vs a b
operator_law o at p v vs a b = refl

-- without limits the test for membership is that of the listed set, with its faults and places
pub strict_tested : (o : Strict) (at p : Place) (v : Value) (vs : List Value) → IsCanonical v → AreCanonical (values_in vs) → strict_test plain o at p v vs ≡ tested p v (strict_value plain o at vs)
strict_tested (operator o) at p v vs a b = operator_law o at p v vs a b
strict_tested functions at p v vs a b = functions_law at p v vs
strict_tested (records xs) at p v vs a b = records_law xs at p v vs
strict_tested o at p v vs a b = refl
