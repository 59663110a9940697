-- A function that is changed at one argument, by its lists.
use Rattle.std.proofs.Common.{◌≡◌, ℕ, zero, suc, ◌<◌, ◌≤◌, Bool, true, false, cond, if◌then◌else◌, List, [], ◌∷◌, length, drop, get_or, Ok, Err, refl, sym, ap, ◌∙◌, subst, arith}
use Rattle.std.specs.Prelude.{slice_set, ◌||◌, ◌&&◌}
use Rattle.std.proofs.Math.ListN.{length-set}
use Rattle.std.proofs.lemmas.Bool.{and_parts, false_from_ne_true}
use Rattle.std.specs.declared.cmp.Ordering.{Ordering}
use Rattle.std.specs.declared.cmp.Ordering.TheVariants.{Less, Equal}
use Rattle.tla_token.specs.declared.place.Place.{Place}
use Rattle.tla_token.specs.Limits.{deepest_value}
use Rattle.tla_value.specs.declared.stop.EvalStop.{EvalStop}
use Rattle.tla_value.specs.declared.stop.EvalStop.TheVariants.{Memory, Fault, Limit}
use Rattle.tla_value.specs.Value.{Value, Values, fun, no_values, and, values_in, Trouble, Outcome, fault, over, ◌>>=◌}
use Rattle.tla_value.specs.Order.{order, same, holds, IsBefore, IsAscending}
use Rattle.tla_value.specs.OrderLaws.{order_self, same_is, same_self}
use Rattle.tla_value.specs.Limits.{depth, depths, fits, fits_count, fits_parts, all_fit, bounded}
use Rattle.tla_value.specs.Stops.{function_at}
use Rattle.tla_value.specs.Strict.{changed, changed_at}
use Rattle.tla_value.specs.ValueOf.{IsStored}
use Rattle.tla_value.proofs.OrderSets.{before_next}
use Rattle.tla_value.proofs.Outcomes.{ok_is, bound_ok}
use Rattle.tla_value.proofs.Fits.{fits_parts_of, depth_of, fits_by, fun_deep, bounded_past, bounded_kept}
use Rattle.tla_value.proofs.ValueLists.{count-values_in}
use Rattle.value_forms.specs.Gives.{Stops}
use Rattle.value_forms.specs.Parts.{IsPart, AreParts}
use Rattle.value_forms.proofs.PartLaws.{fun_parts, fun_count, fun_stored}
use Rattle.value_forms.proofs.StopLaws.{then_stops}
use Rattle.except_forms.specs.Changes.{reached_change}

-- ---- at an argument of the domain

before_all : (x : Value) (ds : List Value) (i : ℕ) (d : Value) → IsBefore x (values_in ds) → IsAscending (values_in ds) → i < length ds → order x (get_or ds i d) ≡ Less
before_all x [] i d b a l = absurd (omega arith)
before_all x (y ∷ ds) zero d b a l = b
before_all x (y ∷ ds) (suc i) d b a l = before_all x ds i d (before_next x y (values_in ds) b a.0) a.1 (omega arith)

less_not_equal : (r : Ordering) → r ≡ Less → r ≡ Equal → ⊥
less_not_equal r h k = cc

other_by : (k x : Value) (b : Bool) → same k x ≡ b → order x k ≡ Less → b ≡ false
other_by k x true e o = absurd (less_not_equal (order x k) o (ap (order x) (same_is k x e) ∙ order_self x))
other_by k x false e o = refl

earlier : (k x : Value) (ds : List Value) (i : ℕ) (d : Value) → IsAscending (values_in (x ∷ ds)) → i < length ds → get_or ds i d ≡ k → same k x ≡ false
earlier k x ds i d a l at = other_by k x (same k x) refl (ap (order x) (sym at) ∙ before_all x ds i d a.0 a.1 l)

then_front : (o : Outcome Value) (y : Value) (rs : List Value) (i : ℕ) → ((o >>= λ w. Ok (values_in (slice_set rs i w))) >>= λ us. Ok (and y us)) ≡ (o >>= λ w. Ok (values_in (slice_set (y ∷ rs) (suc i) w)))
then_front (Ok w) y rs i = refl
then_front (Err t) y rs i = refl

abbrev here_or_later : Bool → (Value → Outcome Value) → Value → Values → Outcome Values → Outcome Values
here_or_later b g r rs later = cond b (g r >>= λ w. Ok (and w rs)) (later >>= λ us. Ok (and r us))

changed_there : (k : Value) (g : Value → Outcome Value) (ds rs : List Value) (i : ℕ) (d r : Value) → IsAscending (values_in ds) → length ds ≡ length rs → i < length ds → get_or ds i d ≡ k → r ≡ get_or rs i r
    → changed k g (values_in ds) (values_in rs) ≡ (g r >>= λ w. Ok (values_in (slice_set rs i w)))
changed_there k g [] rs i d r a n l at is = absurd (omega arith)
changed_there k g (x ∷ ds) [] i d r a n l at is = absurd (omega (arith, n))
changed_there k g (x ∷ ds) (y ∷ rs) zero d r a n l at is =
    ap (λ b. here_or_later b g y (values_in rs) (changed k g (values_in ds) (values_in rs))) (ap (same k) at ∙ same_self k) ∙ ap (λ u. g u >>= λ w. Ok (and w (values_in rs))) (sym is)
changed_there k g (x ∷ ds) (y ∷ rs) (suc i) d r a n l at is =
    ap (λ b. here_or_later b g y (values_in rs) (changed k g (values_in ds) (values_in rs))) (earlier k x ds i d a (omega arith) at) ∙ ap (λ o. o >>= λ us. Ok (and y us)) (changed_there k g ds rs i d r a.1 (omega (arith, n)) (omega arith) at is) ∙ then_front (g r) y rs i

-- ---- at no argument of the domain

either_false : (a b : Bool) → (a || b) ≡ false → (a ≡ false) × (b ≡ false)
either_false true b h = cc
either_false false b h = (refl, h)

changed_nowhere : (k : Value) (g : Value → Outcome Value) (ds rs : Values) → holds k ds ≡ false → changed k g ds rs ≡ Ok rs
changed_nowhere k g no_values rs h = refl
changed_nowhere k g (and d ds) no_values h = refl
changed_nowhere k g (and d ds) (and r rs) h =
    let e = either_false (same k d) (holds k ds) h in
    ap (λ b. here_or_later b g r rs (changed k g ds rs)) e.0 ∙ ap (λ o. o >>= λ us. Ok (and r us)) (changed_nowhere k g ds rs e.1)

-- ---- what a part has to do with the whole

part_fits : (rs : List Value) (i : ℕ) (w : Value) → i < length rs → all_fit (values_in (slice_set rs i w)) ≡ true → fits_parts w ≡ true
part_fits [] i w l h = absurd (omega arith)
part_fits (r ∷ rs) zero w l h = (and_parts (fits_parts w) (all_fit (values_in rs)) h).0
part_fits (r ∷ rs) (suc i) w l h = part_fits rs i w (omega arith) (and_parts (fits_parts r) (all_fit (values_in (slice_set rs i w))) h).1

part_depth : (rs : List Value) (i : ℕ) (w : Value) → i < length rs → depth w ≤ depths (values_in (slice_set rs i w))
part_depth [] i w l = absurd (omega arith)
part_depth (r ∷ rs) zero w l = omega arith
part_depth (r ∷ rs) (suc i) w l = omega (arith, part_depth rs i w (omega arith))

not_both : (b : Bool) → b ≡ true → b ≡ false → ⊥
not_both b h k = cc

part_over : (ds : Values) (rs : List Value) (i : ℕ) (w : Value) → i < length rs → fits w ≡ false → fits (fun ds (values_in (slice_set rs i w))) ≡ false
part_over ds rs i w l n =
    let us = values_in (slice_set rs i w) in
    false_from_ne_true (fits (fun ds us)) (λ h.
    let b = and_parts (fits_count ds) (all_fit ds && all_fit us) (fits_parts_of (fun ds us) h) in
    let p = and_parts (all_fit ds) (all_fit us) b.1 in
    not_both (fits w) (fits_by w (part_fits rs i w l p.1) (omega (arith, part_depth rs i w l, depth_of (fun ds us) h))) n)

parts_set : (rs : List Value) (i : ℕ) (w : Value) → AreParts (values_in rs) → IsPart w → AreParts (values_in (slice_set rs i w))
parts_set [] i w h p = h
parts_set (r ∷ rs) zero w h p = (p, h.1)
parts_set (r ∷ rs) (suc i) w h p = (h.0, parts_set rs i w h.1 p)

pub set_twice : (rs : List Value) (i : ℕ) (a b : Value) → slice_set (slice_set rs i a) i b ≡ slice_set rs i b
set_twice [] i a b = refl
set_twice (r ∷ rs) zero a b = refl
set_twice (r ∷ rs) (suc i) a b = ap (λ l. r ∷ l) (set_twice rs i a b)

-- ---- a value that is reached

ok_no_err : (w : Value) (t : Trouble) → ◌≡◌ {A = Outcome Value} (Ok w) (Err t) → ⊥
ok_no_err w t e = cc

-- if what is past the limits makes something else past them, what stops one stops the other
stop_by : (at : Place) (s : EvalStop) (w u : Value) (b : Bool) → fits w ≡ b → (fits w ≡ false → fits u ≡ false) → Stops s (bounded at w) → Stops s (bounded at u)
stop_by at s w u false e g k =
    subst (Stops s) (ap (λ b. if b then Ok w else Err (over at)) e ∙ sym (ap (λ b. if b then Ok u else Err (over at)) (g e))) k
stop_by at Memory w u true e g k = tt
stop_by at (Fault x p) w u true e g k = absurd (ok_no_err w (fault x p) (ap (λ b. if b then Ok w else Err (over at)) (sym e) ∙ k))
stop_by at (Limit p) w u true e g k = absurd (ok_no_err w (over p) (ap (λ b. if b then Ok w else Err (over at)) (sym e) ∙ k))

kept_by : (at : Place) (w u : Value) (b : Bool) → fits w ≡ b → bounded at w ≡ Ok u → w ≡ u
kept_by at w u true e q = ok_is (ap (λ b. if b then Ok w else Err (over at)) (sym e) ∙ q)
kept_by at w u false e q = absurd (ok_no_err u (over at) (sym (ap (λ b. if b then Ok w else Err (over at)) (sym e) ∙ q)))

-- ---- a change in a function

then_made : (at : Place) (o : Outcome Value) (ds : Values) (rs : List Value) (i : ℕ) → (((o >>= λ w. Ok (values_in (slice_set rs i w))) >>= λ us. Ok (fun ds us)) >>= bounded at) ≡ (o >>= λ w. bounded at (fun ds (values_in (slice_set rs i w))))
then_made at (Ok w) ds rs i = refl
then_made at (Err t) ds rs i = refl

same_length : (ds rs : List Value) → IsStored (fun (values_in ds) (values_in rs)) → length ds ≡ length rs
same_length ds rs h = omega (arith, count-values_in ds, count-values_in rs, h.0.3)

-- a function with another value in one place
pub value_stored : (ds rs : List Value) (i : ℕ) (new : Value) → IsStored (fun (values_in ds) (values_in rs)) → IsStored new → depth new < deepest_value → IsStored (fun (values_in ds) (values_in (slice_set rs i new)))
value_stored ds rs i new h g n =
    let us = slice_set rs i new in
    let p = fun_parts (values_in ds) (values_in rs) h in
    fun_stored (values_in ds) (values_in us) h.0.0 p.0 (parts_set rs i new p.1 (g.0, fits_parts_of new g.1, n)) (omega (arith, count-values_in ds, count-values_in us, length-set rs i new, same_length ds rs h)) (fun_count (values_in ds) (values_in rs) h)

pub value_made : (at : Place) (ds rs : List Value) (i : ℕ) (new : Value) → IsStored (fun (values_in ds) (values_in rs)) → IsStored new → depth new < deepest_value → bounded at (fun (values_in ds) (values_in (slice_set rs i new))) ≡ Ok (fun (values_in ds) (values_in (slice_set rs i new)))
value_made at ds rs i new h g n =
    let f = fun (values_in ds) (values_in (slice_set rs i new)) in bounded_kept at f f refl (value_stored ds rs i new h g n).1

pub value_over : (at : Place) (ds rs : List Value) (i : ℕ) (new : Value) → i < length rs → deepest_value ≤ depth new → bounded at (fun (values_in ds) (values_in (slice_set rs i new))) ≡ Err (over at)
value_over at ds rs i new l g =
    let us = values_in (slice_set rs i new) in
    bounded_past at (fun (values_in ds) us) (fun (values_in ds) us) refl (fun_deep (values_in ds) us (omega (arith, g, part_depth rs i new l)))

module _ (at : Place) (k v r : Value) (ks ds rs : List Value) (i : ℕ) (d : Value) (h : IsStored (fun (values_in ds) (values_in rs))) (l : i < length ds) (key : get_or ds i d ≡ k) (is : r ≡ get_or rs i r) where
  inside : reached_change at (k ∷ ks) v (fun (values_in ds) (values_in rs)) ≡ (changed_at at ks v r >>= λ w. bounded at (fun (values_in ds) (values_in (slice_set rs i w))))
  inside =
      ap (λ o. (o >>= λ us. Ok (fun (values_in ds) us)) >>= bounded at) (changed_there k (changed_at at ks v) ds rs i d r h.0.0 (same_length ds rs h) l key is) ∙ then_made at (changed_at at ks v r) (values_in ds) rs i

  stop_then : (s : EvalStop) (o : Outcome Value) → Stops s (o >>= bounded at) → Stops s (o >>= λ w. bounded at (fun (values_in ds) (values_in (slice_set rs i w))))
  stop_then s (Ok w) q =
      stop_by at s w (fun (values_in ds) (values_in (slice_set rs i w))) (fits w) refl (part_over (values_in ds) rs i w (omega (arith, l, same_length ds rs h))) q
  stop_then s (Err t) q = q

  -- what stops the change of a value in it stops that of the function
  pub change_stops : (s : EvalStop) → Stops s (reached_change at ks v r) → Stops s (reached_change at (k ∷ ks) v (fun (values_in ds) (values_in rs)))
  change_stops s q = subst (Stops s) (sym inside) (stop_then s (changed_at at ks v r) q)

  -- the function with the new value in it is reached
  pub change_made : (new : Value) → reached_change at ks v r ≡ Ok new → reached_change at (k ∷ ks) v (fun (values_in ds) (values_in rs)) ≡ bounded at (fun (values_in ds) (values_in (slice_set rs i new)))
  change_made new e =
      let b = bound_ok (changed_at at ks v r) (bounded at) new e in
      inside ∙ ap (λ o. o >>= λ w. bounded at (fun (values_in ds) (values_in (slice_set rs i w)))) (b.1 ∙ ap Ok (kept_by at b.0 new (fits b.0) refl b.2))

pub change_nowhere : (at : Place) (k v : Value) (ks : List Value) (ds rs : Values) → IsStored (fun ds rs) → holds k ds ≡ false → reached_change at (k ∷ ks) v (fun ds rs) ≡ Ok (fun ds rs)
change_nowhere at k v ks ds rs h n =
    ap (λ o. (o >>= λ us. Ok (fun ds us)) >>= bounded at) (changed_nowhere k (changed_at at ks v) ds rs n) ∙ bounded_kept at (fun ds rs) (fun ds rs) refl h.1

-- a value that is there already is within the limits
pub change_whole : (at : Place) (v old : Value) → IsStored v → reached_change at [] v old ≡ Ok v
change_whole at v old h = bounded_kept at v v refl h.1

-- a path by its first argument
pub first_of_path : (path : List Value) (k : Value) → 0 < length path → k ≡ get_or path 0 k → path ≡ k ∷ drop 1 path
first_of_path [] k l is = absurd (omega arith)
first_of_path (x ∷ path) k l is = ap (λ u. u ∷ path) (sym is)

-- what stops a value that is no function stops a path that goes into it
pub change_blocked : (at : Place) (path : List Value) (v old : Value) (s : EvalStop) → 0 < length path → Stops s (function_at at old) → Stops s (reached_change at path v old)
change_blocked at [] v old s l q = absurd (omega arith)
change_blocked at (k ∷ ks) v old s l q =
    then_stops s (changed_at at (k ∷ ks) v old) (bounded at) (then_stops s (function_at at old) (λ p. changed k (changed_at at ks v) p.0 p.1 >>= λ us. Ok (fun p.0 us)) q)
