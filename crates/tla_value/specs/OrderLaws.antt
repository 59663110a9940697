-- The order of values is total, and tells values apart.
use Rattle.std.proofs.Common.{◌≡◌, ℕ, ℤ, pos, Bool, true, false, List, [], ◌∷◌, refl, sym, ◌∙◌, ap, arith, suc, ◌<◌, ◌<ℤ◌}
use Rattle.std.specs.Ordering.{nat_cmp, int_cmp, ordering_then, ordering_reverse, MatchOrdering, is_eq}
use Rattle.std.specs.Cmp.{IsTotalOrder, IsEquivalence, IsPartialEquivalence, int_cmp_total, int_cmp_is, nat_cmp_is, ranked}
use Rattle.std.specs.Cmp.Lexicographic.{slice_cmp, lists_total}
use Rattle.std.specs.declared.cmp.Ordering.{Ordering}
use Rattle.std.specs.declared.cmp.Ordering.TheVariants.{Less, Equal, Greater}
use Rattle.std.proofs.lemmas.Int.{ints}
use Rattle.std.proofs.lemmas.Map.Lookups.{exact_signed, exact_bytes}
use Rattle.std.proofs.lemmas.Cmp.{nat_cmp_total, nat_list_cmp_total}
use Rattle.tla_value.specs.Value.{Value, Values, truth, int, text, model, set, fun, no_values, and}
use Rattle.tla_value.specs.Order.{order, orders, count, truth_rank, same}

-- ---- Equal is equality

then_equal : (r q : Ordering) → ordering_then r q ≡ Equal → (r ≡ Equal) × (q ≡ Equal)
then_equal Less q h = cc
then_equal Equal q h = (refl, h)
then_equal Greater q h = cc

truths_equal : (a b : Bool) → order (truth a) (truth b) ≡ Equal → a ≡ b
truths_equal true true h = refl
truths_equal false false h = refl
truths_equal true false h = cc
truths_equal false true h = cc

mutual
  pub order_equal : (v w : Value) → order v w ≡ Equal → v ≡ w
  order_equal (truth a) (truth b) h = ap truth (truths_equal a b h)
  order_equal (int a) (int b) h = ap int (exact_signed a b h)
  order_equal (text a) (text b) h = ap text (exact_bytes a b h)
  order_equal (model a) (model b) h = ap model (exact_bytes a b h)
  order_equal (set a) (set b) h = ap set (orders_equal a b (then_equal (nat_cmp (count a) (count b)) (orders a b) h).1)
  order_equal (fun d a) (fun e b) h =
      let p = then_equal (ordering_then (nat_cmp (count d) (count e)) (orders d e)) (orders a b) h in
      let q = then_equal (nat_cmp (count d) (count e)) (orders d e) p.0 in
      λ i. fun (orders_equal d e q.1 i) (orders_equal a b p.1 i)
  order_equal a b h = cc

  pub orders_equal : (vs ws : Values) → orders vs ws ≡ Equal → vs ≡ ws
  orders_equal no_values no_values h = refl
  orders_equal no_values (and w ws) h = cc
  orders_equal (and v vs) no_values h = cc
  orders_equal (and v vs) (and w ws) h =
      let p = then_equal (order v w) (orders vs ws) h in
      λ i. and (order_equal v w p.0 i) (orders_equal vs ws p.1 i)

-- what an order that is its own reverse says of one element
self : (r : Ordering) → r ≡ ordering_reverse r → r ≡ Equal
self Less h = cc
self Equal h = refl
self Greater h = cc

pub nat_self : (n : ℕ) → nat_cmp n n ≡ Equal
nat_self n = self (nat_cmp n n) (nat_cmp_total.antisymm n n)

mutual
  pub order_self : (v : Value) → order v v ≡ Equal
  order_self (truth true) = refl
  order_self (truth false) = refl
  order_self (int a) = self (int_cmp a a) (int_cmp_total.antisymm a a)
  order_self (text a) = self (slice_cmp nat_cmp a a) (nat_list_cmp_total.antisymm a a)
  order_self (model a) = self (slice_cmp nat_cmp a a) (nat_list_cmp_total.antisymm a a)
  order_self (set a) = λ i. ordering_then (nat_self (count a) i) (orders_self a i)
  order_self (fun d a) = λ i. ordering_then (ordering_then (nat_self (count d) i) (orders_self d i)) (orders_self a i)

  pub orders_self : (vs : Values) → orders vs vs ≡ Equal
  orders_self no_values = refl
  orders_self (and v vs) = λ i. ordering_then (order_self v i) (orders_self vs i)

pub is_equal : (r : Ordering) → is_eq r ≡ true → r ≡ Equal
is_equal Less h = cc
is_equal Equal h = refl
is_equal Greater h = cc

-- `same` is equality
pub same_is : (v w : Value) → same v w ≡ true → v ≡ w
same_is v w h = order_equal v w (is_equal (order v w) h)

pub is_same : (v w : Value) → order v w ≡ Equal → same v w ≡ true
is_same v w h = ap is_eq h

pub same_self : (v : Value) → same v v ≡ true
same_self v = ap is_eq (order_self v)

-- ---- the order is that of flat lists of integers, so it is total

abbrev flat_word : List ℕ → List ℤ → List ℤ
flat_word [] r = pos 0 ∷ r
flat_word (c ∷ cs) r = pos (suc c) ∷ flat_word cs r

-- a value before a list: the number of its kind, and its contents
abbrev mutual
  flat : Value → List ℤ → List ℤ
  flat (truth b) r = pos 0 ∷ pos (truth_rank b) ∷ r
  flat (int z) r = pos 1 ∷ z ∷ r
  flat (text w) r = pos 2 ∷ flat_word w r
  flat (model w) r = pos 3 ∷ flat_word w r
  flat (set vs) r = pos 4 ∷ pos (count vs) ∷ flats vs r
  flat (fun ds vs) r = pos 5 ∷ pos (count ds) ∷ flats ds (flats vs r)

  flats : Values → List ℤ → List ℤ
  flats no_values r = pos 0 ∷ r
  flats (and v vs) r = pos 1 ∷ flat v (flats vs r)

abbrev in_turn : List ℤ → List ℤ → Ordering
in_turn = slice_cmp int_cmp

then_assoc : (a b c : Ordering) → ordering_then (ordering_then a b) c ≡ ordering_then a (ordering_then b c)
then_assoc Less b c = refl
then_assoc Equal b c = refl
then_assoc Greater b c = refl

as_ints : (m n : ℕ) (r : Ordering) → MatchOrdering r (m < n) (m ≡ n) (n < m) → MatchOrdering r (pos m <ℤ pos n) (pos m ≡ pos n) (pos n <ℤ pos m)
as_ints m n Less h = omega (arith, ints)
as_ints m n Equal h = ap pos h
as_ints m n Greater h = omega (arith, ints)

int_pos : (m n : ℕ) → int_cmp (pos m) (pos n) ≡ nat_cmp m n
int_pos m n = sym (int_cmp_is (pos m) (pos n) (nat_cmp m n) (as_ints m n (nat_cmp m n) (ranked m n (nat_cmp m n) refl)))

sucs : (m n : ℕ) (r : Ordering) → MatchOrdering r (m < n) (m ≡ n) (n < m) → MatchOrdering r (suc m < suc n) (suc m ≡ suc n) (suc n < suc m)
sucs m n Less h = omega arith
sucs m n Equal h = ap suc h
sucs m n Greater h = omega arith

nat_suc : (m n : ℕ) → nat_cmp (suc m) (suc n) ≡ nat_cmp m n
nat_suc m n = sym (nat_cmp_is (suc m) (suc n) (nat_cmp m n) (sucs m n (nat_cmp m n) (ranked m n (nat_cmp m n) refl)))

nat_zero : (n : ℕ) → nat_cmp 0 (suc n) ≡ Less
nat_zero n = sym (nat_cmp_is 0 (suc n) Less (omega arith))

nat_more : (n : ℕ) → nat_cmp (suc n) 0 ≡ Greater
nat_more n = sym (nat_cmp_is (suc n) 0 Greater (omega arith))

word_flat : (t u : List ℕ) (r s : List ℤ) → in_turn (flat_word t r) (flat_word u s) ≡ ordering_then (slice_cmp nat_cmp t u) (in_turn r s)
word_flat [] [] r s = refl
word_flat [] (c ∷ cs) r s = ap (λ x. ordering_then x (in_turn r (flat_word cs s))) (int_pos 0 (suc c) ∙ nat_zero c)
word_flat (c ∷ cs) [] r s = ap (λ x. ordering_then x (in_turn (flat_word cs r) s)) (int_pos (suc c) 0 ∙ nat_more c)
word_flat (c ∷ cs) (d ∷ ds) r s =
    (λ i. ordering_then ((int_pos (suc c) (suc d) ∙ nat_suc c d) i) (word_flat cs ds r s i)) ∙ sym (then_assoc (nat_cmp c d) (slice_cmp nat_cmp cs ds) (in_turn r s))

mutual
  order_flat : (v w : Value) (r s : List ℤ) → in_turn (flat v r) (flat w s) ≡ ordering_then (order v w) (in_turn r s)
  order_flat (truth a) (truth b) r s = ap (λ x. ordering_then x (in_turn r s)) (int_pos (truth_rank a) (truth_rank b))
  order_flat (int a) (int b) r s = refl
  order_flat (text a) (text b) r s = word_flat a b r s
  order_flat (model a) (model b) r s = word_flat a b r s
  order_flat (set a) (set b) r s =
      (λ i. ordering_then (int_pos (count a) (count b) i) (orders_flat a b r s i)) ∙ sym (then_assoc (nat_cmp (count a) (count b)) (orders a b) (in_turn r s))
  order_flat (fun d a) (fun e b) r s =
      (λ i. ordering_then (int_pos (count d) (count e) i) ((orders_flat d e (flats a r) (flats b s) ∙ ap (ordering_then (orders d e)) (orders_flat a b r s)) i)) ∙ sym (then_assoc (nat_cmp (count d) (count e)) (orders d e) (ordering_then (orders a b) (in_turn r s))) ∙ sym (then_assoc (ordering_then (nat_cmp (count d) (count e)) (orders d e)) (orders a b) (in_turn r s))
  order_flat a b r s = refl

  orders_flat : (v w : Values) (r s : List ℤ) → in_turn (flats v r) (flats w s) ≡ ordering_then (orders v w) (in_turn r s)
  orders_flat no_values no_values r s = refl
  orders_flat no_values (and w ws) r s = refl
  orders_flat (and v vs) no_values r s = refl
  orders_flat (and v vs) (and w ws) r s =
      order_flat v w (flats vs r) (flats ws s) ∙ ap (ordering_then (order v w)) (orders_flat vs ws r s) ∙ sym (then_assoc (order v w) (orders vs ws) (in_turn r s))

then_end : (a : Ordering) → ordering_then a Equal ≡ a
then_end Less = refl
then_end Equal = refl
then_end Greater = refl

as_flat : (v w : Value) → order v w ≡ in_turn (flat v []) (flat w [])
as_flat v w = sym (order_flat v w [] [] ∙ then_end (order v w))

lists : IsTotalOrder in_turn
lists = lists_total int_cmp_total

pub order_total : IsTotalOrder order
order_total = record {
  antisymm = λ v w. as_flat v w ∙ lists.antisymm (flat v []) (flat w []) ∙ ap ordering_reverse (sym (as_flat w v));
  trans = λ u v w p q. as_flat u w ∙ lists.trans (flat u []) (flat v []) (flat w []) (sym (as_flat u v) ∙ p) (sym (as_flat v w) ∙ q);
  congr = λ u v w p. as_flat u w ∙ lists.congr (flat u []) (flat v []) (flat w []) (sym (as_flat u v) ∙ p) ∙ sym (as_flat v w);
}

pub after_before : (v w : Value) → order v w ≡ Greater → order w v ≡ Less
after_before v w h = order_total.antisymm w v ∙ ap ordering_reverse h

-- ---- the laws that `==` and `<` of values owe

pub same_equivalence : IsEquivalence same
same_equivalence = record {
  refl = same_self;
  symm = λ v w. ap is_eq (order_total.antisymm v w) ∙ turned (order w v);
  congr = λ u v w h. ap is_eq (order_total.congr u v w (is_equal (order u v) h));
}
  where
    turned : (r : Ordering) → is_eq (ordering_reverse r) ≡ is_eq r
    turned Less = refl
    turned Equal = refl
    turned Greater = refl

pub same_partial : IsPartialEquivalence same
same_partial = record {
  symm = same_equivalence.symm;
  trans = λ u v w p q. same_equivalence.congr u v w p ∙ q;
}
