-- Sequences, an element at a time.
use Rattle.std.proofs.Common.{◌≡◌, ℕ, ◌+◌, ◌<◌, ◌≤◌, Bool, true, false, List, length, drop, get_or, sym, ap, ◌∙◌, add-one, Some, None, if◌then◌else◌}
use Rattle.std.specs.Prelude.{◌&&◌}
use Rattle.std.specs.Ordering.{is_eq}
use Rattle.std.proofs.Math.Seq.{drop-cons}
use Rattle.std.proofs.Math.ListN.{drop_of_length-le}
use Rattle.tla_value.specs.Value.{Value, Values, fun, values_in}
use Rattle.tla_value.specs.Order.{holds, orders, numbers_from, sequence_of}
use Rattle.tla_value.specs.Standard.{each_in}
use Rattle.tla_value.proofs.OrderFuns.{listed_values}

pub is_sequence : (ds vs : List Value) → true ≡ is_eq (orders (values_in ds) (numbers_from 1 vs)) → sequence_of (fun (values_in ds) (values_in vs)) ≡ Some vs
is_sequence ds vs h =
    ap (λ us. if is_eq (orders (values_in ds) (numbers_from 1 us)) then Some us else None) (listed_values vs) ∙ ap (λ b. if b then Some vs else None) (sym h)

pub no_sequence : (ds vs : List Value) → false ≡ is_eq (orders (values_in ds) (numbers_from 1 vs)) → sequence_of (fun (values_in ds) (values_in vs)) ≡ None
no_sequence ds vs h =
    ap (λ us. if is_eq (orders (values_in ds) (numbers_from 1 us)) then Some us else None) (listed_values vs) ∙ ap (λ b. if b then Some vs else None) (sym h)

-- ---- whether each is a member

pub each_next : (vs : List Value) (ws : Values) (i : ℕ) (v : Value) (b all : Bool) → i < length vs → v ≡ get_or vs i v → b ≡ holds v ws → each_in (drop i vs) ws ≡ all → (b && each_in (drop (i + 1) vs) ws) ≡ all
each_next vs ws i v b all lt is e h =
    ap (λ t. t && each_in (drop (i + 1) vs) ws) e ∙ (λ n. holds (is n) ws && each_in (drop (add-one i n) vs) ws) ∙ ap (λ l. each_in l ws) (sym (drop-cons vs i v lt)) ∙ h

pub each_end : (vs : List Value) (ws : Values) (i : ℕ) (all : Bool) → length vs ≤ i → each_in (drop i vs) ws ≡ all → true ≡ all
each_end vs ws i all le h = ap (λ l. each_in l ws) (sym (drop_of_length-le vs le)) ∙ h
