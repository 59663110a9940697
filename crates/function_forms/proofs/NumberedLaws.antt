-- A sequence is known by the ends of its domain.
use Rattle.std.proofs.Common.{◌≡◌, ℕ, zero, suc, ℤ, pos, ◌+◌, ◌+ℤ◌, ◌<ℤ◌, ◌≤ℤ◌, ◌<◌, ◌≤◌, Bool, true, false, List, [], ◌∷◌, length, get_or, refl, sym, ap, ◌∙◌, subst, arith}
use Rattle.std.specs.Ordering.{is_eq, nat_cmp, MatchOrdering}
use Rattle.std.specs.Cmp.{int_ranks, ranked}
use Rattle.std.specs.declared.cmp.Ordering.TheVariants.{Less}
use Rattle.std.proofs.lemmas.Int.{ints}
use Rattle.std.proofs.lemmas.Bool.{both_ways, false_from_ne_true}
use Rattle.tla_value.specs.Value.{Value, truth, int, text, model, set, fun, and, values_in}
use Rattle.tla_value.specs.Order.{kind_of, order, orders, same, listed, numbers_from, IsAscending}
use Rattle.tla_value.specs.OrderLaws.{is_equal, orders_equal, orders_self, same_is, same_self}
use Rattle.tla_value.proofs.OrderFuns.{listed_values}

-- ---- kinds ascend

ranks_rise : (m n : ℕ) → nat_cmp m n ≡ Less → m ≤ n
ranks_rise m n h = let l : m < n = ranked m n Less (sym h) in omega (arith, l)

kinds_rise : (v w : Value) → order v w ≡ Less → kind_of v ≤ kind_of w
kinds_rise (truth a) (truth b) h = omega arith
kinds_rise (int a) (int b) h = omega arith
kinds_rise (text a) (text b) h = omega arith
kinds_rise (model a) (model b) h = omega arith
kinds_rise (set a) (set b) h = omega arith
kinds_rise (fun d a) (fun e b) h = omega arith
kinds_rise v w h = ranks_rise (kind_of v) (kind_of w) h

-- the last of some values
abbrev last_of : Value → List Value → Value
last_of x [] = x
last_of x (y ∷ ds) = last_of y ds

last_kind : (x : Value) (ds : List Value) → IsAscending (and x (values_in ds)) → kind_of x ≤ kind_of (last_of x ds)
last_kind x [] a = omega arith
last_kind x (y ∷ ds) a = omega (arith, kinds_rise x y a.0, last_kind y ds a.1)

int_is : (k j : ℤ) → int k ≡ int j → k ≡ j
int_is k j h = cc

above : (k m : ℤ) → order (int k) (int m) ≡ Less → k <ℤ m
above k m h = subst (λ r. MatchOrdering r (k <ℤ m) (k ≡ m) (m <ℤ k)) h (int_ranks k m)

-- between two integers there are integers alone
abbrev IsNext : ℤ → Value → Type 0
IsNext k x = (m : ℤ) × (x ≡ int m) × (k <ℤ m)

next_by : (k : ℤ) (x : Value) → order (int k) x ≡ Less → kind_of x ≤ 1 → IsNext k x
next_by k (truth b) h l = cc
next_by k (int m) h l = (m, refl, above k m h)
next_by k (text w) h l = absurd (omega (arith, l))
next_by k (model w) h l = absurd (omega (arith, l))
next_by k (set vs) h l = absurd (omega (arith, l))
next_by k (fun ds vs) h l = absurd (omega (arith, l))

next_is : (k j : ℤ) (x : Value) (ds : List Value) → order (int k) x ≡ Less → IsAscending (and x (values_in ds)) → last_of x ds ≡ int j → IsNext k x
next_is k j x ds h a e = next_by k x h (subst (λ u. kind_of x ≤ kind_of u) e (last_kind x ds a))

-- ---- integers that ascend from k to j are no more than there are between these

rise : (k j : ℤ) (ds : List Value) → IsAscending (and (int k) (values_in ds)) → last_of (int k) ds ≡ int j → (k +ℤ pos (length ds)) ≤ℤ j
rise k j [] a e = omega (arith, ints, int_is k j e)
rise k j (x ∷ ds) a e =
    let m = next_is k j x ds a.0 a.1 e in
    omega (arith, ints, m.2, rise m.0 j ds (subst (λ u. IsAscending (and u (values_in ds))) m.1 a.1) (subst (λ u. last_of u ds ≡ int j) m.1 e))

-- if they are as many, each is the next one
pressed : (n : ℕ) (ds vs : List Value) → suc (length ds) ≡ length vs → IsAscending (and (int (pos n)) (values_in ds)) → last_of (int (pos n)) ds ≡ int (pos (n + length ds)) → and (int (pos n)) (values_in ds) ≡ numbers_from n vs
pressed n ds [] c a e = absurd (omega (arith, c))
pressed n [] (v ∷ []) c a e = refl
pressed n [] (v ∷ w ∷ vs) c a e = absurd (omega (arith, c))
pressed n (x ∷ ds) (v ∷ vs) c a e =
    let j = pos (n + suc (length ds)) in
    let m = next_is (pos n) j x ds a.0 a.1 e in
    let b = subst (λ u. IsAscending (and u (values_in ds))) m.1 a.1 in
    let f = subst (λ u. last_of u ds ≡ int j) m.1 e in
    let is : m.0 ≡ pos (suc n) = omega (arith, ints, m.2, rise m.0 j ds b f) in
    let same_end : n + suc (length ds) ≡ suc n + length ds = omega arith in
    ap (λ u. and (int (pos n)) (and u (values_in ds))) (m.1 ∙ ap int is) ∙
    ap (and (int (pos n))) (pressed (suc n) ds vs (omega (arith, c)) (subst (λ z. IsAscending (and (int z) (values_in ds))) is b) (subst (λ z. last_of (int z) ds ≡ int j) is f ∙ ap (λ k. int (pos k)) same_end))

-- ---- the ends of a list of numbers

last_at : (x : Value) (ds : List Value) (d : Value) → get_or (x ∷ ds) (length ds) d ≡ last_of x ds
last_at x [] d = refl
last_at x (y ∷ ds) d = last_at y ds d

number_at : (n : ℕ) (vs : List Value) (i : ℕ) (d : Value) → i < length vs → get_or (listed (numbers_from n vs)) i d ≡ int (pos (n + i))
number_at n [] i d l = absurd (omega arith)
number_at n (v ∷ vs) zero d l = let e : n ≡ n + 0 = omega arith in ap (λ k. int (pos k)) e
number_at n (v ∷ vs) (suc i) d l =
    let e : suc n + i ≡ n + suc i = omega arith in number_at (suc n) vs i d (omega arith) ∙ ap (λ k. int (pos k)) e

either_way : (a b : Bool) → (a ≡ true → b ≡ true) → (b ≡ true → a ≡ true) → a ≡ b
either_way true b f g = sym (f refl)
either_way false true f g = g refl
either_way false false f g = refl

from_ends : (ds vs : List Value) (i many : ℕ) (first last : Value) → suc i ≡ many → length ds ≡ many → length vs ≡ many → IsAscending (values_in ds) → first ≡ get_or ds 0 first → last ≡ get_or ds i last
    → same first (int (pos 1)) ≡ true → same last (int (pos many)) ≡ true → is_eq (orders (values_in ds) (numbers_from 1 vs)) ≡ true
from_ends [] vs i many first last l c k a b e p q = absurd (omega (arith, l, c))
from_ends (x ∷ ds) vs i many first last l c k a b e p q =
    let place : i ≡ length ds = omega (arith, l, c) in
    let number : many ≡ 1 + length ds = omega (arith, c) in
    let one : x ≡ int (pos 1) = sym b ∙ same_is first (int (pos 1)) p in
    let end : last_of x ds ≡ int (pos (1 + length ds)) = sym (last_at x ds last) ∙ ap (λ j. get_or (x ∷ ds) j last) (sym place) ∙ sym e ∙ same_is last (int (pos many)) q ∙ ap (λ n. int (pos n)) number in
    let whole = ap (λ u. and u (values_in ds)) one ∙ pressed 1 ds vs (omega (arith, c, k)) (subst (λ u. IsAscending (and u (values_in ds))) one a) (subst (λ u. last_of u ds ≡ int (pos (1 + length ds))) one end) in
    ap (λ us. is_eq (orders us (numbers_from 1 vs))) whole ∙ ap is_eq (orders_self (numbers_from 1 vs))

number_there : (ds vs : List Value) (i : ℕ) (v : Value) (n : ℕ) → length ds ≡ length vs → i < length ds → v ≡ get_or ds i v → n ≡ 1 + i → is_eq (orders (values_in ds) (numbers_from 1 vs)) ≡ true → same v (int (pos n)) ≡ true
number_there ds vs i v n c l is e h =
    let whole : ds ≡ listed (numbers_from 1 vs) = sym (listed_values ds) ∙ ap listed (orders_equal (values_in ds) (numbers_from 1 vs) (is_equal _ h)) in
    let there : v ≡ int (pos n) = is ∙ ap (λ l. get_or l i v) whole ∙ number_at 1 vs i v (omega (arith, c, l)) ∙ ap (λ k. int (pos k)) (sym e) in
    ap (λ u. same u (int (pos n))) there ∙ same_self (int (pos n))

-- a domain that ascends and begins with 1 is 1..n exactly if it ends with n
pub known_by_last : (ds vs : List Value) (i many : ℕ) (first last : Value) → suc i ≡ many → length ds ≡ many → length vs ≡ many → IsAscending (values_in ds) → first ≡ get_or ds 0 first → last ≡ get_or ds i last
    → same first (int (pos 1)) ≡ true → same last (int (pos many)) ≡ is_eq (orders (values_in ds) (numbers_from 1 vs))
known_by_last ds vs i many first last l c k a b e p =
    either_way (same last (int (pos many))) (is_eq (orders (values_in ds) (numbers_from 1 vs))) (from_ends ds vs i many first last l c k a b e p)
    (number_there ds vs i last many (omega (arith, c, k)) (omega (arith, l, c)) e (omega (arith, l)))

-- one that begins otherwise is no 1..n
pub begins_otherwise : (ds vs : List Value) (first : Value) → 0 < length ds → length ds ≡ length vs → first ≡ get_or ds 0 first → same first (int (pos 1)) ≡ false → is_eq (orders (values_in ds) (numbers_from 1 vs)) ≡ false
begins_otherwise ds vs first l c b n =
    false_from_ne_true (is_eq (orders (values_in ds) (numbers_from 1 vs))) (λ h. both_ways (same first (int (pos 1))) n (number_there ds vs 0 first 1 c l b refl h))
