-- How many subsets there are at least.
use Rattle.std.proofs.Common.{◌≡◌, ℕ, zero, suc, ◌+◌, ◌<◌, ◌≤◌, Bool, true, false, List, [], ◌∷◌, ◌++◌, map, length, length-append, refl, sym, ap, ◌∙◌, subst, arith}
use Rattle.std.specs.Prelude.{◌||◌}
use Rattle.std.specs.Ordering.{is_eq}
use Rattle.std.specs.declared.cmp.Ordering.{Ordering}
use Rattle.std.specs.declared.cmp.Ordering.TheVariants.{Less, Equal, Greater}
use Rattle.std.proofs.lemmas.Bool.{false_from_ne_true}
use Rattle.tla_token.specs.Limits.{most_members}
use Rattle.tla_value.specs.Value.{Value, Values, set, no_values, and, values_in}
use Rattle.tla_value.specs.Order.{order, same, holds, count, placed, inserted, set_from, IsBefore, IsAscending}
use Rattle.tla_value.specs.OrderLaws.{order_self, same_is, same_self}
use Rattle.tla_value.specs.Sets.{sublists, subsets}
use Rattle.tla_value.proofs.OrderSets.{before_next, holds_set_from}
use Rattle.std.proofs.lemmas.List.{length-map}

-- ---- values that are all different

abbrev AreApart : List Value → Type 0
AreApart [] = Unit {0}
AreApart (v ∷ vs) = (holds v (values_in vs) ≡ false) × AreApart vs

either_left : (a b : Bool) → (a || b) ≡ false → a ≡ false
either_left true b h = h
either_left false b h = refl

either_right : (a b : Bool) → (a || b) ≡ false → b ≡ false
either_right true b h = cc
either_right false b h = h

both_false : (a b : Bool) → a ≡ false → b ≡ false → (a || b) ≡ false
both_false a b h k = λ i. h i || k i

placed_count : (v w : Value) (ws more : Values) (r : Ordering) → order v w ≡ r → is_eq r ≡ false → count more ≡ suc (count ws) → count (placed r v w ws more) ≡ suc (suc (count ws))
placed_count v w ws more Less e n h = refl
placed_count v w ws more Equal e n h = cc
placed_count v w ws more Greater e n h = ap suc h

count_inserted : (v : Value) (vs : Values) → holds v vs ≡ false → count (inserted v vs) ≡ suc (count vs)
count_inserted v no_values h = refl
count_inserted v (and w ws) h =
    placed_count v w ws (inserted v ws) (order v w) refl (either_left (same v w) (holds v ws) h) (count_inserted v ws (either_right (same v w) (holds v ws) h))

count_apart : (vs : List Value) → AreApart vs → count (set_from vs) ≡ length vs
count_apart [] h = refl
count_apart (v ∷ vs) h = count_inserted v (set_from vs) (holds_set_from v vs ∙ h.0) ∙ ap suc (count_apart vs h.1)

abbrev NoneIn : List Value → List Value → Type 0
NoneIn [] ws = Unit {0}
NoneIn (v ∷ vs) ws = (holds v (values_in ws) ≡ false) × NoneIn vs ws

holds_append : (u : Value) (vs ws : List Value) → holds u (values_in vs) ≡ false → holds u (values_in ws) ≡ false → holds u (values_in (vs ++ ws)) ≡ false
holds_append u [] ws h k = k
holds_append u (v ∷ vs) ws h k =
    both_false (same u v) (holds u (values_in (vs ++ ws))) (either_left (same u v) (holds u (values_in vs)) h) (holds_append u vs ws (either_right (same u v) (holds u (values_in vs)) h) k)

apart_append : (vs ws : List Value) → AreApart vs → AreApart ws → NoneIn vs ws → AreApart (vs ++ ws)
apart_append [] ws h k n = k
apart_append (v ∷ vs) ws h k n = (holds_append v vs ws h.0 n.0, apart_append vs ws h.1 k n.1)

-- ---- subsets are all different

rest : Value → Values
rest (set (and v t)) = t
rest _ = no_values

members_same : (t s : Values) → set t ≡ set s → t ≡ s
members_same t s e = cc

and_same : (v : Value) (t s : Values) → and v t ≡ and v s → t ≡ s
and_same v t s e = cc

true_not_false : (b : Bool) → b ≡ true → b ≡ false → ⊥
true_not_false b h k = cc

front_differs : (v : Value) (t s : Values) → same (set t) (set s) ≡ false → same (set (and v t)) (set (and v s)) ≡ false
front_differs v t s h = false_from_ne_true (same (set (and v t)) (set (and v s))) (λ e.
    let d = and_same v t s (members_same (and v t) (and v s) (same_is (set (and v t)) (set (and v s)) e)) in
    true_not_false (same (set t) (set s)) (ap (λ u. same (set t) (set u)) (sym d) ∙ same_self (set t)) h)

front_held : (v : Value) (t : Values) (ts : List Values) → holds (set t) (values_in (map set ts)) ≡ false → holds (set (and v t)) (values_in (map set (map (and v) ts))) ≡ false
front_held v t [] h = refl
front_held v t (s ∷ ts) h =
    both_false (same (set (and v t)) (set (and v s))) (holds (set (and v t)) (values_in (map set (map (and v) ts)))) (front_differs v t s (either_left (same (set t) (set s)) (holds (set t) (values_in (map set ts))) h))
    (front_held v t ts (either_right (same (set t) (set s)) (holds (set t) (values_in (map set ts))) h))

front_apart : (v : Value) (ts : List Values) → AreApart (map set ts) → AreApart (map set (map (and v) ts))
front_apart v [] h = tt
front_apart v (t ∷ ts) h = (front_held v t ts h.0, front_apart v ts h.1)

abbrev AreBehind : Value → List Values → Type 0
AreBehind u [] = Unit {0}
AreBehind u (t ∷ ts) = IsBefore u t × AreBehind u ts

less_not_equal : (r : Ordering) → r ≡ Less → r ≡ Equal → ⊥
less_not_equal r h k = cc

other_first : (v : Value) (t s : Values) → IsBefore v t → same (set t) (set (and v s)) ≡ false
other_first v t s b = false_from_ne_true (same (set t) (set (and v s))) (λ e.
    less_not_equal (order v v) (subst (IsBefore v) (members_same t (and v s) (same_is (set t) (set (and v s)) e)) b) (order_self v))

other_held : (v : Value) (t : Values) (ts : List Values) → IsBefore v t → holds (set t) (values_in (map set (map (and v) ts))) ≡ false
other_held v t [] b = refl
other_held v t (s ∷ ts) b =
    both_false (same (set t) (set (and v s))) (holds (set t) (values_in (map set (map (and v) ts)))) (other_first v t s b) (other_held v t ts b)

none_in_front : (v : Value) (ss ts : List Values) → AreBehind v ss → NoneIn (map set ss) (map set (map (and v) ts))
none_in_front v [] ts b = tt
none_in_front v (s ∷ ss) ts b = (other_held v s ts b.0, none_in_front v ss ts b.1)

behind_append : (u : Value) (ss ts : List Values) → AreBehind u ss → AreBehind u ts → AreBehind u (ss ++ ts)
behind_append u [] ts h k = k
behind_append u (s ∷ ss) ts h k = (h.0, behind_append u ss ts h.1 k)

behind_front : (u v : Value) (ts : List Values) → order u v ≡ Less → AreBehind u (map (and v) ts)
behind_front u v [] o = tt
behind_front u v (t ∷ ts) o = (o, behind_front u v ts o)

sub_behind : (u : Value) (vs : Values) → IsBefore u vs → IsAscending vs → AreBehind u (sublists vs)
sub_behind u no_values b a = (tt, tt)
sub_behind u (and v vs) b a =
    behind_append u (sublists vs) (map (and v) (sublists vs)) (sub_behind u vs (before_next u v vs b a.0) a.1) (behind_front u v (sublists vs) b)

map_append : (ss ts : List Values) → map set (ss ++ ts) ≡ map set ss ++ map set ts
map_append [] ts = refl
map_append (s ∷ ss) ts = ap (λ l. set s ∷ l) (map_append ss ts)

sub_apart : (vs : Values) → IsAscending vs → AreApart (map set (sublists vs))
sub_apart no_values a = (refl, tt)
sub_apart (and v vs) a =
    subst AreApart (sym (map_append (sublists vs) (map (and v) (sublists vs))))
    (apart_append (map set (sublists vs)) (map set (map (and v) (sublists vs))) (sub_apart vs a.1) (front_apart v (sublists vs) (sub_apart vs a.1)) (none_in_front v (sublists vs) (sublists vs) (sub_behind v vs a.0 a.1)))

-- ---- how many they are

abbrev twice : ℕ → ℕ
twice zero = 1
twice (suc k) = twice k + twice k

sub_many : (k : ℕ) (vs : Values) → k ≤ count vs → twice k ≤ length (sublists vs)
sub_many zero no_values l = omega arith
sub_many zero (and v vs) l =
    omega (arith, sub_many zero vs (omega arith), length-append (sublists vs) (map (and v) (sublists vs)))
sub_many (suc k) no_values l = absurd (omega arith)
sub_many (suc k) (and v vs) l =
    omega (arith, sub_many k vs (omega arith), length-append (sublists vs) (map (and v) (sublists vs)), length-map (sublists vs) (and v))

pub subsets_many : (vs : Values) → IsAscending vs → 17 ≤ count vs → most_members < count (subsets vs)
subsets_many vs a l =
    omega (arith, sub_many 17 vs l, count_apart (map set (sublists vs)) (sub_apart vs a), length-map (sublists vs) set)
