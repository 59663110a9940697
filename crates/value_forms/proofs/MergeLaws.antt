-- Two ascending sets taken together, a member at a time.
use Rattle.std.proofs.Common.{◌≡◌, ℕ, ◌+◌, ◌<◌, ◌≤◌, Bool, true, false, cond, if◌then◌else◌, List, [], ◌∷◌, ◌++◌, length, drop, get_or, refl, sym, ap, ◌∙◌, subst, arith}
use Rattle.std.specs.Prelude.{◌||◌, ◌&&◌, not}
use Rattle.std.specs.Ordering.{is_eq, is_lt, ordering_reverse}
use Rattle.std.specs.declared.cmp.Ordering.{Ordering}
use Rattle.std.specs.declared.cmp.Ordering.TheVariants.{Less, Equal, Greater}
use Rattle.tla_value.specs.Value.{Value, Values, truth, set, no_values, and, values_in}
use Rattle.tla_value.specs.Order.{order, holds, placed, inserted, listed, IsBefore, IsAscending}
use Rattle.tla_value.specs.OrderLaws.{order_equal, order_total, after_before}
use Rattle.tla_value.specs.Sets.{kept, all_in, cup, cap, without}
use Rattle.tla_value.specs.ValueOf.{IsStored}
use Rattle.tla_value.proofs.OrderSets.{before_next, not_held, set_from_listed, set_from_ascending}
use Rattle.tla_value.proofs.Canonical.{kept_canonical}
use Rattle.tla_value.proofs.ValueLists.{values_in-drop}
use Rattle.value_forms.specs.declared.sets.Merge.{Merge}
use Rattle.value_forms.specs.declared.sets.Merge.TheVariants.{Either, Both, First}
use Rattle.value_forms.specs.Parts.{AreParts, follow}
use Rattle.value_forms.specs.Merges.{merged, takes, foremost, left_step, right_step}
use Rattle.value_forms.proofs.PartLaws.{set_parts, parts_append, parts_listed, parts_set_from, parts_kept}
use Rattle.value_forms.proofs.Rows.{follow_follow, follow_if, values_append, split_at, nothing_left, ascending_drop}

after : (v w : Value) → order w v ≡ Less → order v w ≡ Greater
after v w e = order_total.antisymm v w ∙ ap ordering_reverse e

-- ---- one of them

front : (v : Value) (ws : Values) → IsBefore v ws → inserted v ws ≡ and v ws
front v no_values b = refl
front v (and w ws) b = ap (λ r. placed r v w ws (inserted v ws)) b

before_placed : (u v w : Value) (ws more : Values) (r : Ordering) → order u v ≡ Less → order u w ≡ Less → IsBefore u (placed r v w ws more)
before_placed u v w ws more Less a b = a
before_placed u v w ws more Equal a b = b
before_placed u v w ws more Greater a b = b

before_inserted : (u v : Value) (vs : Values) → order u v ≡ Less → IsBefore u vs → IsBefore u (inserted v vs)
before_inserted u v no_values a b = a
before_inserted u v (and w ws) a b = before_placed u v w ws (inserted v ws) (order v w) a b

cup_none : (ws : Values) → IsAscending ws → cup no_values ws ≡ ws
cup_none ws a = set_from_listed ws a

cup_rest : (vs : Values) → IsAscending vs → cup vs no_values ≡ vs
cup_rest no_values a = refl
cup_rest (and v vs) a = ap (inserted v) (cup_rest vs a.1) ∙ front v vs a.0

before_cup : (u : Value) (vs ws : Values) → IsBefore u vs → IsBefore u ws → IsAscending vs → IsAscending ws → IsBefore u (cup vs ws)
before_cup u no_values ws b c a d = subst (IsBefore u) (sym (cup_none ws d)) c
before_cup u (and v vs) ws b c a d =
    before_inserted u v (cup vs ws) b (before_cup u vs ws (before_next u v vs b a.0) c a.1 d)

cup_later : (w : Value) (vs ws : Values) → IsBefore w vs → IsAscending vs → IsAscending (and w ws) → cup vs (and w ws) ≡ and w (cup vs ws)
cup_later w no_values ws b a d = cup_none (and w ws) d ∙ ap (and w) (sym (cup_none ws d.1))
cup_later w (and v vs) ws b a d =
    ap (inserted v) (cup_later w vs ws (before_next w v vs b a.0) a.1 d) ∙ ap (λ r. placed r v w (cup vs ws) (inserted v (cup vs ws))) (after v w b)

-- ---- those of a set for which a test holds

-- a member before them changes no test of theirs
skip : (f : Bool → Bool) (w : Value) (vs ws : Values) → IsBefore w vs → IsAscending vs → kept (λ u. f (holds u (and w ws))) vs ≡ kept (λ u. f (holds u ws)) vs
skip f w no_values ws b a = refl
skip f w (and v vs) ws b a = λ i. cond (f (is_eq (after v w b i) || holds v ws)) (and v (skip f w vs ws (before_next w v vs b a.0) a.1 i)) (skip f w vs ws (before_next w v vs b a.0) a.1 i)

is_first : (v w : Value) (ws : Values) → order v w ≡ Equal → holds v (and w ws) ≡ true
is_first v w ws e = ap (λ r. is_eq r || holds v ws) e

kept_none : (vs : Values) → kept (λ v. false) vs ≡ no_values
kept_none no_values = refl
kept_none (and v vs) = kept_none vs

kept_all : (vs : Values) → kept (λ v. true) vs ≡ vs
kept_all no_values = refl
kept_all (and v vs) = ap (and v) (kept_all vs)

-- what is before the first member of a set
before_same : (v w : Value) (vs : Values) → order v w ≡ Equal → IsBefore v vs → IsBefore w vs
before_same v w vs e b = subst (λ u. IsBefore u vs) (order_equal v w e) b

-- ---- a step

-- what is left on each side
abbrev left_of : Ordering → Value → Values → Values
left_of Less v vs = vs
left_of Equal v vs = vs
left_of Greater v vs = and v vs

abbrev right_of : Ordering → Value → Values → Values
right_of Less w ws = and w ws
right_of Equal w ws = ws
right_of Greater w ws = ws

step : (m : Merge) (v w : Value) (vs ws : Values) (r : Ordering) → order v w ≡ r → IsAscending (and v vs) → IsAscending (and w ws)
    → merged m (and v vs) (and w ws) ≡ follow (if takes m r then and (foremost r v w) no_values else no_values) (merged m (left_of r v vs) (right_of r w ws))
step Either v w vs ws Less e a d = front v (cup vs (and w ws)) (before_cup v vs (and w ws) a.0 e a.1 d)
step Either v w vs ws Equal e a d =
    ap (inserted v) (cup_later w vs ws (before_same v w vs e a.0) a.1 d) ∙ ap (λ r. placed r v w (cup vs ws) (inserted v (cup vs ws))) e ∙ ap (λ u. and u (cup vs ws)) (sym (order_equal v w e))
step Either v w vs ws Greater e a d = cup_later w (and v vs) ws (after_before v w e) a d
step Both v w vs ws Less e a d =
    ap (λ t. cond t (and v (cap vs (and w ws))) (cap vs (and w ws))) (not_held v (and w ws) e d)
step Both v w vs ws Equal e a d =
    ap (λ t. cond t (and v (cap vs (and w ws))) (cap vs (and w ws))) (is_first v w ws e) ∙ ap (and v) (skip (λ b. b) w vs ws (before_same v w vs e a.0) a.1)
step Both v w vs ws Greater e a d = skip (λ b. b) w (and v vs) ws (after_before v w e) a
step First v w vs ws Less e a d =
    ap (λ t. cond (not t) (and v (without vs (and w ws))) (without vs (and w ws))) (not_held v (and w ws) e d)
step First v w vs ws Equal e a d =
    ap (λ t. cond (not t) (and v (without vs (and w ws))) (without vs (and w ws))) (is_first v w ws e) ∙ skip not w vs ws (before_same v w vs e a.0) a.1
step First v w vs ws Greater e a d = skip not w (and v vs) ws (after_before v w e) a

left_is : (xs : List Value) (i : ℕ) (v : Value) (r : Ordering) → i < length xs → v ≡ get_or xs i v → values_in (drop (i + left_step r) xs) ≡ left_of r v (values_in (drop (i + 1) xs))
left_is xs i v Less lt is = refl
left_is xs i v Equal lt is = refl
left_is xs i v Greater lt is = ap (λ n. values_in (drop n xs)) same_place ∙ split_at xs i v lt is
  where
    same_place : i + 0 ≡ i
    same_place = omega arith

right_is : (xs : List Value) (i : ℕ) (v : Value) (r : Ordering) → i < length xs → v ≡ get_or xs i v → values_in (drop (i + right_step r) xs) ≡ right_of r v (values_in (drop (i + 1) xs))
right_is xs i v Greater lt is = refl
right_is xs i v Equal lt is = refl
right_is xs i v Less lt is = ap (λ n. values_in (drop n xs)) same_place ∙ split_at xs i v lt is
  where
    same_place : i + 0 ≡ i
    same_place = omega arith

pub steps : (r : Ordering) → (left_step r ≤ 1) × (right_step r ≤ 1) × (1 ≤ left_step r + right_step r)
steps Less = (omega arith, omega arith, omega arith)
steps Equal = (omega arith, omega arith, omega arith)
steps Greater = (omega arith, omega arith, omega arith)

-- what is merged, where the first members are looked at
pub merge_step : (m : Merge) (xs ys : List Value) (i j : ℕ) (v w : Value) (done done2 : List Value) (all : Values) → i < length xs → v ≡ get_or xs i v → j < length ys → w ≡ get_or ys j w
    → IsAscending (values_in xs) → IsAscending (values_in ys) → done2 ≡ done ++ (if takes m (order v w) then foremost (order v w) v w ∷ [] else [])
    → follow (values_in done) (merged m (values_in (drop i xs)) (values_in (drop j ys))) ≡ all
    → follow (values_in done2) (merged m (values_in (drop (i + left_step (order v w)) xs)) (values_in (drop (j + right_step (order v w)) ys))) ≡ all
merge_step m xs ys i j v w done done2 all li vi lj wj a d e h =
    let r = order v w in
    let t = takes m r in
    let u = foremost r v w in
    let vs = values_in (drop (i + 1) xs) in
    let ws = values_in (drop (j + 1) ys) in
    let x = split_at xs i v li vi in
    let y = split_at ys j w lj wj in
    let rest = merged m (left_of r v vs) (right_of r w ws) in
    let one = if t then and u no_values else no_values in
    ap (λ l. follow (values_in l) (merged m (values_in (drop (i + left_step r) xs)) (values_in (drop (j + right_step r) ys)))) e ∙
    (λ n. follow (values_in (done ++ (if t then u ∷ [] else []))) (merged m (left_is xs i v r li vi n) (right_is ys j w r lj wj n))) ∙
    ap (λ l. follow l rest) (values_append done (if t then u ∷ [] else []) ∙ ap (follow (values_in done)) (follow_if t u)) ∙
    follow_follow (values_in done) one rest ∙
    ap (follow (values_in done)) (sym (step m v w vs ws r refl (subst IsAscending x (ascending_drop xs i a)) (subst IsAscending y (ascending_drop ys j d)))) ∙
    (λ n. follow (values_in done) (merged m (sym x n) (sym y n))) ∙ h

-- the same, as the code comes to it
pub merge_by : (m : Merge) (xs ys : List Value) (i j k l : ℕ) (v w u : Value) (r : Ordering) (t : Bool) (done done2 : List Value) (all : Values) → i < length xs → v ≡ get_or xs i v → j < length ys → w ≡ get_or ys j w
    → IsAscending (values_in xs) → IsAscending (values_in ys) → r ≡ order v w → k ≡ left_step r → l ≡ right_step r → t ≡ takes m r → u ≡ foremost r v w → done2 ≡ done ++ (if t then u ∷ [] else [])
    → follow (values_in done) (merged m (values_in (drop i xs)) (values_in (drop j ys))) ≡ all
    → follow (values_in done2) (merged m (values_in (drop (i + k) xs)) (values_in (drop (j + l) ys))) ≡ all
merge_by m xs ys i j k l v w u r t done done2 all li vi lj wj a d er ek el et eu e h =
    (λ n. follow (values_in done2) (merged m (values_in (drop (i + (ek ∙ ap left_step er) n) xs)) (values_in (drop (j + (el ∙ ap right_step er) n) ys)))) ∙
    merge_step m xs ys i j v w done done2 all li vi lj wj a d (e ∙ (λ n. done ++ (if (et ∙ ap (takes m) er) n then (eu ∙ ap (λ q. foremost q v w) er) n ∷ [] else []))) h

-- ---- the ends

left_done : (m : Merge) (ws : Values) → IsAscending ws → merged m no_values ws ≡ (if takes m Greater then ws else no_values)
left_done Either ws a = cup_none ws a
left_done Both ws a = refl
left_done First ws a = refl

right_done : (m : Merge) (vs : Values) → IsAscending vs → merged m vs no_values ≡ (if takes m Less then vs else no_values)
right_done Either vs a = cup_rest vs a
right_done Both vs a = kept_none vs
right_done First vs a = kept_all vs

pub merge_left : (m : Merge) (xs ys : List Value) (i j : ℕ) (done : Values) (all : Values) → length xs ≤ i → IsAscending (values_in ys) → follow done (merged m (values_in (drop i xs)) (values_in (drop j ys))) ≡ all
    → follow done (if takes m Greater then values_in (drop j ys) else no_values) ≡ all
merge_left m xs ys i j done all le d h =
    ap (follow done) (sym (left_done m (values_in (drop j ys)) (ascending_drop ys j d))) ∙ ap (λ l. follow done (merged m l (values_in (drop j ys)))) (sym (nothing_left xs i le)) ∙ h

pub merge_right : (m : Merge) (xs ys : List Value) (i j : ℕ) (done : Values) (all : Values) → length ys ≤ j → IsAscending (values_in xs) → follow done (merged m (values_in (drop i xs)) (values_in (drop j ys))) ≡ all
    → follow done (if takes m Less then values_in (drop i xs) else no_values) ≡ all
merge_right m xs ys i j done all le a h =
    ap (follow done) (sym (right_done m (values_in (drop i xs)) (ascending_drop xs i a))) ∙ ap (λ l. follow done (merged m (values_in (drop i xs)) l)) (sym (nothing_left ys j le)) ∙ h

-- ---- what is merged can be in memory

pub merged_ascending : (m : Merge) (a b : Values) → IsStored (set a) → IsStored (set b) → IsAscending (merged m a b)
merged_ascending Either a b h k = set_from_ascending (listed a ++ listed b)
merged_ascending Both a b h k = (kept_canonical (λ v. holds v b) a h.0.0 h.0.1).0
merged_ascending First a b h k = (kept_canonical (λ v. not (holds v b)) a h.0.0 h.0.1).0

pub merged_parts : (m : Merge) (a b : Values) → IsStored (set a) → IsStored (set b) → AreParts (merged m a b)
merged_parts Either a b h k =
    parts_set_from (listed a ++ listed b) (parts_append (listed a) (listed b) (parts_listed a (set_parts a h)) (parts_listed b (set_parts b k)))
merged_parts Both a b h k = parts_kept (λ v. holds v b) a (set_parts a h)
merged_parts First a b h k = parts_kept (λ v. not (holds v b)) a (set_parts a h)

-- ---- whether all are members

abbrev within_left : Ordering → Bool → Bool
within_left Less b = false
within_left Equal b = b
within_left Greater b = b

all_skip : (w : Value) (vs ws : Values) → IsBefore w vs → IsAscending vs → all_in vs (and w ws) ≡ all_in vs ws
all_skip w no_values ws b a = refl
all_skip w (and v vs) ws b a = λ i. (is_eq (after v w b i) || holds v ws) && all_skip w vs ws (before_next w v vs b a.0) a.1 i

all_step : (v w : Value) (vs ws : Values) (r : Ordering) → order v w ≡ r → IsAscending (and v vs) → IsAscending (and w ws) → all_in (and v vs) (and w ws) ≡ within_left r (all_in (left_of r v vs) ws)
all_step v w vs ws Less e a d = ap (λ t. t && all_in vs (and w ws)) (not_held v (and w ws) e d)
all_step v w vs ws Equal e a d =
    ap (λ t. t && all_in vs (and w ws)) (is_first v w ws e) ∙ all_skip w vs ws (before_same v w vs e a.0) a.1
all_step v w vs ws Greater e a d = all_skip w (and v vs) ws (after_before v w e) a

abbrev not_less : Ordering → Type 0
not_less Less = ⊥
not_less Equal = Unit {0}
not_less Greater = Unit {0}

less_is : (r : Ordering) → true ≡ is_lt r → r ≡ Less
less_is Less h = refl
less_is Equal h = cc
less_is Greater h = cc

not_less_is : (r : Ordering) → false ≡ is_lt r → not_less r
not_less_is Less h = absurd (cc)
not_less_is Equal h = tt
not_less_is Greater h = tt

all_from : (r : Ordering) (b : Bool) → not_less r → within_left r b ≡ b
all_from Less b n = absurd n
all_from Equal b n = refl
all_from Greater b n = refl

module _ (xs ys : List Value) (i j : ℕ) (v w : Value) (li : i < length xs) (vi : v ≡ get_or xs i v) (lj : j < length ys) (wj : w ≡ get_or ys j w) (a : IsAscending (values_in xs)) (d : IsAscending (values_in ys)) where
  here : all_in (values_in (drop i xs)) (values_in (drop j ys)) ≡ within_left (order v w) (all_in (left_of (order v w) v (values_in (drop (i + 1) xs))) (values_in (drop (j + 1) ys)))
  here =
      let x = split_at xs i v li vi in
      let y = split_at ys j w lj wj in
      (λ n. all_in (x n) (y n)) ∙ all_step v w (values_in (drop (i + 1) xs)) (values_in (drop (j + 1) ys)) (order v w) refl (subst IsAscending x (ascending_drop xs i a)) (subst IsAscending y (ascending_drop ys j d))

  pub all_less : (all : Bool) (r : Ordering) → r ≡ order v w → true ≡ is_lt r → all_in (values_in (drop i xs)) (values_in (drop j ys)) ≡ all → all ≡ false
  all_less all r er lt h = sym h ∙ here ∙ ap (λ q. within_left q (all_in (left_of (order v w) v (values_in (drop (i + 1) xs))) (values_in (drop (j + 1) ys)))) (sym er ∙ less_is r lt)

  pub all_more : (all : Bool) (r : Ordering) (k : ℕ) → r ≡ order v w → false ≡ is_lt r → k ≡ left_step r → all_in (values_in (drop i xs)) (values_in (drop j ys)) ≡ all → all_in (values_in (drop (i + k) xs)) (values_in (drop (j + 1) ys)) ≡ all
  all_more all r k er lt ek h =
      let n = not_less_is (order v w) (subst (λ q. false ≡ is_lt q) er lt) in
      ap (λ z. all_in (values_in (drop (i + z) xs)) (values_in (drop (j + 1) ys))) (ek ∙ ap left_step er) ∙
      ap (λ l. all_in l (values_in (drop (j + 1) ys))) (left_is xs i v (order v w) li vi) ∙ sym (all_from (order v w) (all_in (left_of (order v w) v (values_in (drop (i + 1) xs))) (values_in (drop (j + 1) ys))) n) ∙ sym here ∙ h

pub all_left : (xs ys : List Value) (i j : ℕ) (all : Bool) → length xs ≤ i → all_in (values_in (drop i xs)) (values_in (drop j ys)) ≡ all → all ≡ true
all_left xs ys i j all le h = sym h ∙ ap (λ l. all_in l (values_in (drop j ys))) (nothing_left xs i le)

-- some are left
pub all_right : (xs ys : List Value) (i j : ℕ) (all : Bool) → i < length xs → length ys ≤ j → all_in (values_in (drop i xs)) (values_in (drop j ys)) ≡ all → all ≡ false
all_right xs ys i j all lt le h = sym h ∙ (λ n. all_in (values_in-drop xs i (truth true) lt n) (nothing_left ys j le n))
