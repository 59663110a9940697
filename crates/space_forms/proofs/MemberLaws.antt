-- Functions of a space, a value at a time.
use Rattle.std.proofs.Common.{◌≡◌, ℕ, ◌+◌, ◌<◌, ◌≤◌, ◌≢◌, Bool, true, false, List, length, drop, get_or, refl, sym, ap, ◌∙◌, arith}
use Rattle.std.specs.Prelude.{◌&&◌}
use Rattle.std.specs.Ordering.{is_eq, nat_cmp, ordering_then}
use Rattle.std.proofs.lemmas.Bool.{false_from_ne_true}
use Rattle.tla_value.specs.Value.{Value, Values, set, fun, no_values, and, values_in}
use Rattle.tla_value.specs.Order.{order, same, orders, holds, count}
use Rattle.tla_value.specs.OrderLaws.{nat_self, same_is}
use Rattle.tla_value.specs.Sets.{all_chosen, repeated, is_function_over}
use Rattle.tla_value.specs.ValueOf.{IsStored}
use Rattle.tla_value.proofs.ValueLists.{count-values_in}
use Rattle.tla_value.proofs.Untested.{then_eq}
use Rattle.value_forms.proofs.Rows.{split_at, nothing_left}

one_same : (xs ys : List Value) (i : ℕ) (v w : Value) → i < length xs → i < length ys → v ≡ get_or xs i v → w ≡ get_or ys i w
    → is_eq (orders (values_in (drop i xs)) (values_in (drop i ys))) ≡ (is_eq (order v w) && is_eq (orders (values_in (drop (i + 1) xs)) (values_in (drop (i + 1) ys))))
one_same xs ys i v w lx ly vi wi =
    (λ n. is_eq (orders (split_at xs i v lx vi n) (split_at ys i w ly wi n))) ∙ then_eq (order v w) (orders (values_in (drop (i + 1) xs)) (values_in (drop (i + 1) ys)))

pub same_step : (xs ys : List Value) (i : ℕ) (v w : Value) (b all : Bool) → i < length xs → i < length ys → v ≡ get_or xs i v → w ≡ get_or ys i w → is_eq (order v w) ≡ b
    → is_eq (orders (values_in (drop i xs)) (values_in (drop i ys))) ≡ all → (b && is_eq (orders (values_in (drop (i + 1) xs)) (values_in (drop (i + 1) ys)))) ≡ all
same_step xs ys i v w b all lx ly vi wi e h =
    ap (λ t. t && is_eq (orders (values_in (drop (i + 1) xs)) (values_in (drop (i + 1) ys)))) (sym e) ∙ sym (one_same xs ys i v w lx ly vi wi) ∙ h

pub same_end : (xs ys : List Value) (i : ℕ) (all : Bool) → length xs ≤ i → length ys ≤ i → is_eq (orders (values_in (drop i xs)) (values_in (drop i ys))) ≡ all → true ≡ all
same_end xs ys i all a b h = sym (λ n. is_eq (orders (nothing_left xs i a n) (nothing_left ys i b n))) ∙ h

pub members_same : (a b : Values) → set a ≡ set b → a ≡ b
members_same a b e = cc

pub lengths_differ : (xs ys : List Value) → length xs ≢ length ys → same (set (values_in xs)) (set (values_in ys)) ≡ false
lengths_differ xs ys n = false_from_ne_true (same (set (values_in xs)) (set (values_in ys))) (λ e.
    n (sym (count-values_in xs) ∙ ap count (members_same (values_in xs) (values_in ys) (same_is (set (values_in xs)) (set (values_in ys)) e)) ∙ count-values_in ys))

pub lengths_agree : (xs ys : List Value) → length xs ≡ length ys → same (set (values_in xs)) (set (values_in ys)) ≡ is_eq (orders (values_in xs) (values_in ys))
lengths_agree xs ys e =
    ap (λ r. is_eq (ordering_then r (orders (values_in xs) (values_in ys)))) ((λ n. nat_cmp (count-values_in xs n) ((count-values_in ys ∙ sym e) n)) ∙ nat_self (length xs))

-- ---- the values

abbrev pub chosen : List Value → Values → Bool
chosen vs ws = all_chosen (values_in vs) (repeated (values_in vs) (set ws))

pub chosen_step : (vs : List Value) (ws : Values) (i : ℕ) (v : Value) (b all : Bool) → i < length vs → v ≡ get_or vs i v → holds v ws ≡ b → chosen (drop i vs) ws ≡ all → (b && chosen (drop (i + 1) vs) ws) ≡ all
chosen_step vs ws i v b all lt is e h =
    ap (λ t. t && chosen (drop (i + 1) vs) ws) (sym e) ∙ ap (λ l. all_chosen l (repeated l (set ws))) (sym (split_at vs i v lt is)) ∙ h

pub chosen_end : (vs : List Value) (ws : Values) (i : ℕ) (all : Bool) → length vs ≤ i → chosen (drop i vs) ws ≡ all → true ≡ all
chosen_end vs ws i all le h = sym (ap (λ l. all_chosen l (repeated l (set ws))) (nothing_left vs i le)) ∙ h

as_many : (ds es : Values) (s : Value) → count ds ≡ count es → repeated ds s ≡ repeated es s
as_many no_values no_values s e = refl
as_many no_values (and x es) s e = absurd (omega (arith, e))
as_many (and d ds) no_values s e = absurd (omega (arith, e))
as_many (and d ds) (and x es) s e = ap (and s) (as_many ds es s (omega (arith, e)))

pub function_by : (es vs ds : Values) (s : Value) → IsStored (fun es vs) → same (set es) (set ds) ≡ true → all_chosen vs (repeated vs s) ≡ is_function_over (fun es vs) ds (repeated ds s)
function_by es vs ds s h e =
    ap (all_chosen vs) (as_many vs ds s (sym h.0.3 ∙ ap count (members_same es ds (same_is (set es) (set ds) e)))) ∙ ap (λ b. b && all_chosen vs (repeated ds s)) (sym e)
