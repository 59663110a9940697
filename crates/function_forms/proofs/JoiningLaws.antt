-- Sequences in memory with more elements behind their own.
use Rattle.std.proofs.Common.{◌≡◌, ℕ, ℤ, pos, suc, ◌+◌, ◌<◌, ◌≤◌, true, false, List, [], ◌∷◌, ◌++◌, length, length-append, refl, sym, ap, ◌∙◌, arith, Ok, Err}
use Rattle.std.specs.Option.{ok_or}
use Rattle.std.specs.Ordering.{is_eq}
use Rattle.tla_token.specs.declared.place.Place.{Place}
use Rattle.tla_token.specs.Limits.{most_members, deepest_value}
use Rattle.tla_value.specs.Value.{Value, int, fun, no_values, and, values_in, fault, over}
use Rattle.tla_value.specs.Order.{orders, numbers_from, seq_from}
use Rattle.tla_value.specs.OrderLaws.{is_equal, orders_equal}
use Rattle.tla_value.specs.Limits.{depth, depths, bounded}
use Rattle.tla_value.specs.Stops.{sequence_at}
use Rattle.tla_value.specs.ValueOf.{IsStored, AreStored}
use Rattle.tla_value.specs.declared.fault.FaultKind.TheVariants.{NotSequence}
use Rattle.tla_value.proofs.OrderFuns.{count_numbered, seq_from_canonical}
use Rattle.tla_value.proofs.ValueLists.{count-values_in}
use Rattle.tla_value.proofs.Fits.{fits_parts_of, fun_deep, seq_fits, bounded_past, bounded_kept}
use Rattle.value_forms.specs.Parts.{AreParts, follow}
use Rattle.value_forms.proofs.PartLaws.{fun_parts, fun_over, parts_canonical, parts_fit, parts_shallow, parts_append}
use Rattle.value_forms.proofs.Rows.{values_append}
use Rattle.function_forms.proofs.SequenceLaws.{is_sequence, no_sequence}

-- ---- the places

one_place : (n : ℕ) (vs : List Value) (e : Value) → follow (numbers_from n vs) (and (int (pos (n + length vs))) no_values) ≡ numbers_from n (vs ++ e ∷ [])
one_place n [] e = let k : n + 0 ≡ n = omega arith in ap (λ m. and (int (pos m)) no_values) k
one_place n (v ∷ vs) e =
    let k : n + suc (length vs) ≡ suc n + length vs = omega arith in
    ap (λ m. and (int (pos n)) (follow (numbers_from (suc n) vs) (and (int (pos m)) no_values))) k ∙ ap (and (int (pos n))) (one_place (suc n) vs e)

pub place_added : (places vs : List Value) (e : Value) (z : ℤ) → z ≡ pos (1 + length vs) → values_in places ≡ numbers_from 1 vs → values_in (places ++ int z ∷ []) ≡ numbers_from 1 (vs ++ e ∷ [])
place_added places vs e z k h = values_append places (int z ∷ []) ∙ (λ n. follow (h n) (and (int (k n)) no_values)) ∙ one_place 1 vs e

pub places_are : (places vs : List Value) → is_eq (orders (values_in places) (numbers_from 1 vs)) ≡ true → values_in places ≡ numbers_from 1 vs
places_are places vs h = orders_equal (values_in places) (numbers_from 1 vs) (is_equal _ h)

pub sequence_there : (at : Place) (s : Value) (places vs : List Value) → s ≡ fun (values_in places) (values_in vs) → is_eq (orders (values_in places) (numbers_from 1 vs)) ≡ true → sequence_at at s ≡ Ok vs
sequence_there at s places vs e h = ap (sequence_at at) e ∙ ap (λ o. ok_or o (fault NotSequence at)) (is_sequence places vs (sym h))

pub sequence_nowhere : (at : Place) (s : Value) (places vs : List Value) → s ≡ fun (values_in places) (values_in vs) → is_eq (orders (values_in places) (numbers_from 1 vs)) ≡ false → sequence_at at s ≡ Err (fault NotSequence at)
sequence_nowhere at s places vs e h = ap (sequence_at at) e ∙ ap (λ o. ok_or o (fault NotSequence at)) (no_sequence places vs (sym h))

-- ---- the elements

elements_parts : (vs : List Value) → IsStored (seq_from vs) → AreParts (values_in vs)
elements_parts vs h = (fun_parts (numbers_from 1 vs) (values_in vs) h).1

parts_stored : (vs : List Value) → AreParts (values_in vs) → length vs ≤ most_members → IsStored (seq_from vs)
parts_stored vs h l =
    (seq_from_canonical vs (parts_canonical (values_in vs) h), seq_fits vs l (parts_shallow (values_in vs) h) (parts_fit (values_in vs) h))

elements_stored : (vs : List Value) → AreStored (values_in vs) → depths (values_in vs) < deepest_value → length vs ≤ most_members → IsStored (seq_from vs)
elements_stored vs h d l = (seq_from_canonical vs h.0, seq_fits vs l d h.1)

pub joined_stored : (vs ws : List Value) → IsStored (seq_from vs) → AreStored (values_in ws) → depths (values_in ws) < deepest_value → length vs + length ws ≤ most_members → IsStored (seq_from (vs ++ ws))
joined_stored vs ws h k d l =
    let more = elements_parts ws (elements_stored ws k d (omega (arith, l))) in
    parts_stored (vs ++ ws) (parts_append vs ws (elements_parts vs h) more) (omega (arith, length-append vs ws))

pub last_stored : (vs : List Value) (e : Value) → IsStored (seq_from vs) → IsStored e → depth e < deepest_value → length vs < most_members → IsStored (seq_from (vs ++ e ∷ []))
last_stored vs e h k d l =
    parts_stored (vs ++ e ∷ []) (parts_append vs (e ∷ []) (elements_parts vs h) ((k.0, fits_parts_of e k.1, d), tt)) (omega (arith, length-append vs (e ∷ [])))

-- ---- what is reached

pub joined_over : (at : Place) (vs ws : List Value) → most_members < length vs + length ws → bounded at (seq_from (vs ++ ws)) ≡ Err (over at)
joined_over at vs ws l =
    let all = vs ++ ws in
    fun_over at (numbers_from 1 all) (values_in all) (omega (arith, l, count_numbered 1 all, count-values_in all, length-append vs ws))

rest_deep : (vs ws : List Value) → depths (values_in ws) ≤ depths (values_in (vs ++ ws))
rest_deep [] ws = omega arith
rest_deep (v ∷ vs) ws = omega (arith, rest_deep vs ws)

pub joined_deep : (at : Place) (vs ws : List Value) → deepest_value ≤ depths (values_in ws) → bounded at (seq_from (vs ++ ws)) ≡ Err (over at)
joined_deep at vs ws g =
    let all = vs ++ ws in
    bounded_past at (seq_from all) (seq_from all) refl (fun_deep (numbers_from 1 all) (values_in all) (omega (arith, g, rest_deep vs ws)))

pub reached : (at : Place) (v : Value) → IsStored v → bounded at v ≡ Ok v
reached at v h = bounded_kept at v v refl h.1
