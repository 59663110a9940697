-- Look-ups in ascending lists by comparison find what those in any order find.
use Rattle.std.proofs.Common.{◌≡◌, Bool, true, false, refl, sym, Some, None}
use Rattle.std.specs.Prelude.{◌||◌, if◌then◌else◌}
use Rattle.std.specs.Ordering.{is_eq}
use Rattle.std.specs.declared.cmp.Ordering.{Ordering}
use Rattle.std.specs.declared.cmp.Ordering.TheVariants.{Less, Equal, Greater}
use Rattle.tla_value.specs.Value.{Value, Values, no_values, and}
use Rattle.tla_value.specs.Order.{order, same, holds, found_at, IsAscending}
use Rattle.tla_value.specs.laws.InOrder.{by_order, holds_in_order, found_in_order}
use Rattle.tla_value.proofs.OrderSets.{before_next, not_held}

-- a value that comes before an ascending list isn't found in it
not_found : (v : Value) (ds vs : Values) → holds v ds ≡ false → found_at ds vs v ≡ None
not_found v no_values vs h = refl
not_found v (and d ds) no_values h = refl
not_found v (and d ds) (and w ws) h = either (same v d) h (not_found v ds ws)
  where
    either : (b : Bool) → (b || holds v ds) ≡ false → (holds v ds ≡ false → found_at ds ws v ≡ None) → (if b then Some w else found_at ds ws v) ≡ None
    either true e rest = cc
    either false e rest = rest e

holds_by : (v w : Value) (ws : Values) (r : Ordering) → order v w ≡ r → IsAscending (and w ws) → holds_in_order v ws ≡ holds v ws → by_order r false true (holds_in_order v ws) ≡ (is_eq r || holds v ws)
holds_by v w ws Less e a h = sym (not_held v ws (before_next v w ws e a.0) a.1)
holds_by v w ws Equal e a h = refl
holds_by v w ws Greater e a h = h

pub holds_in_order_is : (v : Value) (vs : Values) → IsAscending vs → holds_in_order v vs ≡ holds v vs
holds_in_order_is v no_values a = refl
holds_in_order_is v (and w ws) a = holds_by v w ws (order v w) refl a (holds_in_order_is v ws a.1)

found_by : (v d w : Value) (ds ws : Values) (r : Ordering) → order v d ≡ r → IsAscending (and d ds) → found_in_order ds ws v ≡ found_at ds ws v → by_order r None (Some w) (found_in_order ds ws v) ≡ (if is_eq r then Some w else found_at ds ws v)
found_by v d w ds ws Less e a h = sym (not_found v ds ws (not_held v ds (before_next v d ds e a.0) a.1))
found_by v d w ds ws Equal e a h = refl
found_by v d w ds ws Greater e a h = h

pub found_in_order_is : (ds vs : Values) (v : Value) → IsAscending ds → found_in_order ds vs v ≡ found_at ds vs v
found_in_order_is no_values vs v a = refl
found_in_order_is (and d ds) no_values v a = refl
found_in_order_is (and d ds) (and w ws) v a = found_by v d w ds ws (order v d) refl a (found_in_order_is ds ws v a.1)
