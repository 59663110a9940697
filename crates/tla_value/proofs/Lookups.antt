-- Look-ups in lists of values, an element at a time.
use Rattle.std.proofs.Common.{◌≡◌, ℕ, suc, pos, ◌+◌, ◌<◌, ◌≤◌, List, [], ◌∷◌, ◌++◌, length, drop, get_or, true, false, refl, sym, ap, ◌∙◌, add-one, Some, None}
use Rattle.std.specs.Prelude.{◌||◌, if◌then◌else◌}
use Rattle.std.specs.List.{list_any}
use Rattle.std.proofs.Math.Seq.{drop-cons}
use Rattle.std.proofs.Math.ListN.{drop_of_length-le}
use Rattle.tla_value.specs.Value.{Value, Values, int, no_values, and, values_in}
use Rattle.tla_value.specs.Order.{same, holds, found_at, numbers_from}
use Rattle.tla_value.specs.OrderLaws.{same_equivalence}
use Rattle.tla_value.proofs.ValueLists.{follow, follow_follow, values_in-drop, values_in-append}

pub contains_holds : (v : Value) (vs : List Value) → list_any (λ w. same w v) vs ≡ holds v (values_in vs)
contains_holds v [] = refl
contains_holds v (w ∷ vs) = λ i. same_equivalence.symm w v i || contains_holds v vs i

found_split : (ds vs : List Value) (i : ℕ) (v d w : Value) → i < length ds → i < length vs → found_at (values_in (drop i ds)) (values_in (drop i vs)) v ≡ (if same v (get_or ds i d) then Some (get_or vs i w) else found_at (values_in (drop (i + 1) ds)) (values_in (drop (i + 1) vs)) v)
found_split ds vs i v d w a b = λ k. found_at (values_in-drop ds i d a k) (values_in-drop vs i w b k) v

pub found_here : (ds vs : List Value) (i : ℕ) (v d w : Value) → i < length ds → i < length vs → same v (get_or ds i d) ≡ true → found_at (values_in (drop i ds)) (values_in (drop i vs)) v ≡ Some (get_or vs i w)
found_here ds vs i v d w a b e =
    found_split ds vs i v d w a b ∙ ap (λ b. if b then Some (get_or vs i w) else found_at (values_in (drop (i + 1) ds)) (values_in (drop (i + 1) vs)) v) e

pub found_later : (ds vs : List Value) (i : ℕ) (v d w : Value) → i < length ds → i < length vs → same v (get_or ds i d) ≡ false → found_at (values_in (drop i ds)) (values_in (drop i vs)) v ≡ found_at (values_in (drop (i + 1) ds)) (values_in (drop (i + 1) vs)) v
found_later ds vs i v d w a b e =
    found_split ds vs i v d w a b ∙ ap (λ b. if b then Some (get_or vs i w) else found_at (values_in (drop (i + 1) ds)) (values_in (drop (i + 1) vs)) v) e

pub found_no_value : (ds vs : List Value) (i : ℕ) (v : Value) → length vs ≤ i → found_at (values_in (drop i ds)) (values_in (drop i vs)) v ≡ None
found_no_value ds vs i v h =
    ap (λ l. found_at (values_in (drop i ds)) (values_in l) v) (drop_of_length-le vs h) ∙ nothing (values_in (drop i ds))
  where
    nothing : (us : Values) → found_at us no_values v ≡ None
    nothing no_values = refl
    nothing (and u us) = refl

pub found_no_argument : (ds vs : List Value) (i : ℕ) (v : Value) → length ds ≤ i → found_at (values_in (drop i ds)) (values_in (drop i vs)) v ≡ None
found_no_argument ds vs i v h = ap (λ l. found_at (values_in l) (values_in (drop i vs)) v) (drop_of_length-le ds h)

-- ---- numbers that grow

follow_nothing : (vs : Values) → follow vs no_values ≡ vs
follow_nothing no_values = refl
follow_nothing (and v vs) = ap (and v) (follow_nothing vs)

pub numbered_push : (xs vs : List Value) (i : ℕ) (d : Value) (all : Values) → i < length vs → follow (values_in xs) (numbers_from (suc i) (drop i vs)) ≡ all → follow (values_in (xs ++ int (pos (i + 1)) ∷ [])) (numbers_from (suc (i + 1)) (drop (i + 1) vs)) ≡ all
numbered_push xs vs i d all lt h =
    ap (λ l. follow l (numbers_from (suc (i + 1)) (drop (i + 1) vs))) (values_in-append xs (int (pos (i + 1)) ∷ [])) ∙ follow_follow (values_in xs) (and (int (pos (i + 1))) no_values) (numbers_from (suc (i + 1)) (drop (i + 1) vs)) ∙ ap (λ n. follow (values_in xs) (and (int (pos n)) (numbers_from (suc n) (drop n vs)))) (add-one i) ∙ ap (λ l. follow (values_in xs) (numbers_from (suc i) l)) (sym (drop-cons vs i d lt)) ∙ h

pub numbered_whole : (xs vs : List Value) (i : ℕ) → length vs ≤ i → follow (values_in xs) (numbers_from (suc i) (drop i vs)) ≡ numbers_from 1 vs → values_in xs ≡ numbers_from 1 vs
numbered_whole xs vs i le h =
    sym (follow_nothing (values_in xs)) ∙ ap (λ l. follow (values_in xs) (numbers_from (suc i) l)) (sym (drop_of_length-le vs le)) ∙ h
