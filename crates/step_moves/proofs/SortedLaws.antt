-- Processes put in the order of their identifiers: one more at the end, where none before it has its identifier.
use Rattle.std.proofs.Common.{◌≡◌, Bool, true, false, not, cond, List, [], ◌∷◌, ◌++◌, refl, sym, ap, ◌∙◌, Err}
use Rattle.std.specs.Ordering.{is_eq, is_lt, ordering_reverse}
use Rattle.std.specs.declared.cmp.Ordering.{Ordering}
use Rattle.std.specs.declared.cmp.Ordering.TheVariants.{Less, Equal, Greater}
use Rattle.tla_value.specs.declared.fault.FaultKind.TheVariants.{SameIdentifier}
use Rattle.tla_value.specs.Value.{Value, fault, Outcome}
use Rattle.tla_value.specs.Order.{order, same}
use Rattle.tla_value.specs.OrderLaws.{order_total, same_equivalence}
use Rattle.pcal_tree.specs.Program.{Actor}
use Rattle.pcal_tree.specs.Processes.{identifier, has_identifier, apart, placed, sorted}

abbrev pub id : Actor → Value
id v = identifier v.self

-- ---- who has an identifier

swapped : (a b c : Bool) → cond a true (cond b true c) ≡ cond b true (cond a true c)
swapped true true c = refl
swapped true false c = refl
swapped false true c = refl
swapped false false c = refl

has_by : (b : Bool) (w : Value) (v u : Actor) (vs more : List Actor) → has_identifier w more ≡ cond (same w (id v)) true (has_identifier w vs)
    → has_identifier w (cond b (v ∷ u ∷ vs) (u ∷ more)) ≡ cond (same w (id v)) true (has_identifier w (u ∷ vs))
has_by true w v u vs more e = refl
has_by false w v u vs more e = ap (cond (same w (id u)) true) e ∙ swapped (same w (id u)) (same w (id v)) (has_identifier w vs)

has_placed : (w : Value) (v : Actor) (vs : List Actor) → has_identifier w (placed v vs) ≡ cond (same w (id v)) true (has_identifier w vs)
has_placed w v [] = refl
has_placed w v (u ∷ vs) = has_by (is_lt (order (id v) (id u))) w v u vs (placed v vs) (has_placed w v vs)

pub has_sorted : (w : Value) (vs : List Actor) → has_identifier w (sorted vs) ≡ has_identifier w vs
has_sorted w [] = refl
has_sorted w (v ∷ vs) = has_placed w v (sorted vs) ∙ ap (cond (same w (id v)) true) (has_sorted w vs)

pub neither : (a b : Bool) → cond a true b ≡ false → (a ≡ false) × (b ≡ false)
neither true b h = cc
neither false b h = (refl, h)

-- ---- two are placed one after the other, in either order

turned : (r q : Ordering) → is_eq r ≡ false → q ≡ ordering_reverse r → is_lt q ≡ not (is_lt r)
turned Less q h e = ap is_lt e
turned Equal q h e = cc
turned Greater q h e = ap is_lt e

is_less : (r : Ordering) → is_lt r ≡ true → r ≡ Less
is_less Less h = refl
is_less Equal h = cc
is_less Greater h = cc

less_trans : (u v w : Value) → is_lt (order u v) ≡ true → is_lt (order v w) ≡ true → is_lt (order u w) ≡ true
less_trans u v w h k = ap is_lt (order_total.trans u v w (is_less (order u v) h) (is_less (order v w) k))

placed_under : {A B : Type 0} (f : A → B) (b : Bool) (x y : A) → f (cond b x y) ≡ cond b (f x) (f y)
placed_under f true x y = refl
placed_under f false x y = refl

-- a: v is before x; b: w is before x; c: v is before w
both_ways : (a b c : Bool) (v w x : Actor) (xs pv pw pvw pwv : List Actor) → (not c ≡ true → a ≡ true → b ≡ true) → (c ≡ true → b ≡ true → a ≡ true) → pvw ≡ pwv
    → cond b (cond c (v ∷ w ∷ x ∷ xs) (w ∷ cond a (v ∷ x ∷ xs) (x ∷ pv))) (cond a (v ∷ x ∷ pw) (x ∷ pvw))
    ≡ cond a (cond (not c) (w ∷ v ∷ x ∷ xs) (v ∷ cond b (w ∷ x ∷ xs) (x ∷ pw))) (cond b (w ∷ x ∷ pv) (x ∷ pwv))
both_ways true true true v w x xs pv pw pvw pwv h k e = refl
both_ways true true false v w x xs pv pw pvw pwv h k e = refl
both_ways true false true v w x xs pv pw pvw pwv h k e = refl
both_ways true false false v w x xs pv pw pvw pwv h k e = (let no : false ≡ true = h refl refl in cc)
both_ways false true true v w x xs pv pw pvw pwv h k e = (let no : false ≡ true = k refl refl in cc)
both_ways false true false v w x xs pv pw pvw pwv h k e = refl
both_ways false false c v w x xs pv pw pvw pwv h k e = ap (λ (zs : List Actor). x ∷ zs) e

alone_placed : (c : Bool) (v w : Actor) → cond c (v ∷ w ∷ []) (w ∷ v ∷ []) ≡ cond (not c) (w ∷ v ∷ []) (v ∷ w ∷ [])
alone_placed true v w = refl
alone_placed false v w = refl

placed_twice : (v w : Actor) (xs : List Actor) → same (id v) (id w) ≡ false → placed v (placed w xs) ≡ placed w (placed v xs)
placed_twice v w [] h =
    let d = turned (order (id v) (id w)) (order (id w) (id v)) h (order_total.antisymm (id w) (id v)) in
    alone_placed (is_lt (order (id v) (id w))) v w ∙ ap (λ (b : Bool). cond b (w ∷ v ∷ []) (v ∷ w ∷ [])) (sym d)
placed_twice v w (x ∷ xs) h =
    let a = is_lt (order (id v) (id x)) in
    let b = is_lt (order (id w) (id x)) in
    let c = is_lt (order (id v) (id w)) in
    let d = turned (order (id v) (id w)) (order (id w) (id v)) h (order_total.antisymm (id w) (id v)) in
    placed_under (placed v) b (w ∷ x ∷ xs) (x ∷ placed w xs)
    ∙ both_ways a b c v w x xs (placed v xs) (placed w xs) (placed v (placed w xs)) (placed w (placed v xs))
    (λ n l. less_trans (id w) (id v) (id x) (d ∙ n) l) (λ n l. less_trans (id v) (id w) (id x) n l) (placed_twice v w xs h)
    ∙ ap (λ (e : Bool). cond a (cond e (w ∷ v ∷ x ∷ xs) (v ∷ cond b (w ∷ x ∷ xs) (x ∷ placed w xs))) (cond b (w ∷ x ∷ placed v xs) (x ∷ placed w (placed v xs)))) (sym d)
    ∙ sym (placed_under (placed w) a (v ∷ x ∷ xs) (x ∷ placed v xs))

-- ---- one more

pub sorted_more : (vs : List Actor) (v : Actor) → has_identifier (id v) vs ≡ false → sorted (vs ++ v ∷ []) ≡ placed v (sorted vs)
sorted_more [] v h = refl
sorted_more (w ∷ vs) v h =
    let none = neither (same (id v) (id w)) (has_identifier (id v) vs) h in
    ap (placed w) (sorted_more vs v none.1) ∙ placed_twice w v (sorted vs) (same_equivalence.symm (id w) (id v) ∙ none.0)

abbrev shared : Actor → Outcome (List Actor)
shared v = Err (fault SameIdentifier v.own.name.place)

pub apart_new : (done left : List Actor) (v : Actor) → has_identifier (id v) done ≡ false → apart done (v ∷ left) ≡ apart (done ++ v ∷ []) left
apart_new done left v h = ap (λ (b : Bool). cond b (shared v) (apart (done ++ v ∷ []) left)) h

pub apart_shared : (done left : List Actor) (v : Actor) → has_identifier (id v) done ≡ true → apart done (v ∷ left) ≡ shared v
apart_shared done left v h = ap (λ (b : Bool). cond b (shared v) (apart (done ++ v ∷ []) left)) h
