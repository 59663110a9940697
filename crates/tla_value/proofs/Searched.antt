-- What a binary search finds in an ascending list of values: the value, if it is there.
use Rattle.std.proofs.Common.{◌≡◌, ℕ, zero, suc, ◌+◌, ◌<◌, ◌≤◌, List, [], ◌∷◌, length, get_or, add-one, Bool, true, false, true≢false, refl, sym, ap, ◌∙◌, arith, subst, ⊎_elim, Some, None, Result, Ok, Err}
use Rattle.std.specs.Result.{is_ok}
use Rattle.std.specs.Prelude.{◌||◌, if◌then◌else◌}
use Rattle.std.specs.Ordering.{ordering_index}
use Rattle.std.specs.declared.cmp.Ordering.{Ordering}
use Rattle.std.specs.declared.cmp.Ordering.TheVariants.{Less, Equal, Greater}
use Rattle.std.specs.List.{AllAdjacentBelow}
use Rattle.std.specs.List.Sorted.{IsNonDecreasingBy, IsBinarySearchResult, IsPartitionPoint, IsSearchInRange}
use Rattle.std.proofs.lemmas.Bool.{cases_lt}
use Rattle.std.proofs.lemmas.List.Sorted.{IsNonDecreasingBy-from_all_adjacent}
use Rattle.tla_value.specs.Value.{Value, values_in}
use Rattle.tla_value.specs.Order.{order, same, holds, found_at, IsAscending}
use Rattle.tla_value.specs.OrderLaws.{order_total, order_equal, order_self, same_is, same_self}
use Rattle.tla_value.proofs.OrderSets.{not_held}

rank_by : (x y v : Value) (r : Ordering) → order x y ≡ Less → order y v ≡ r → ordering_index (order x v) ≤ ordering_index r
rank_by x y v Less a b = omega (arith, ap ordering_index (order_total.trans x y v a b))
rank_by x y v Equal a b = omega (arith, ap ordering_index (ap (order x) (sym (order_equal y v b)) ∙ a))
rank_by x y v Greater a b = top (order x v)
  where
    top : (r : Ordering) → ordering_index r ≤ ordering_index Greater
    top Less = omega arith
    top Equal = omega arith
    top Greater = omega arith

adjacent : (v : Value) (xs : List Value) → IsAscending (values_in xs) → AllAdjacentBelow (λ x y. ordering_index (order x v) ≤ ordering_index (order y v)) xs (length xs)
adjacent v [] h k d l = absurd (omega arith)
adjacent v (x ∷ []) h k d l = absurd (omega arith)
adjacent v (x ∷ y ∷ xs) h zero d l = rank_by x y v (order y v) h.0 refl
adjacent v (x ∷ y ∷ xs) h (suc k) d l =
    subst (λ n. ordering_index (order (get_or (y ∷ xs) k d) v) ≤ ordering_index (order (get_or (x ∷ y ∷ xs) n d) v)) next (subst (λ n. ordering_index (order (get_or (y ∷ xs) k d) v) ≤ ordering_index (order (get_or (y ∷ xs) n d) v)) (add-one k) (adjacent v (y ∷ xs) h.1 k d (omega arith)))
  where
    next : suc (suc k) ≡ suc k + 1
    next = omega arith

rising : (v : Value) (xs : List Value) → IsAscending (values_in xs) → IsNonDecreasingBy (λ y. ordering_index (order y v)) xs
rising v xs h = IsNonDecreasingBy-from_all_adjacent (λ y. ordering_index (order y v)) xs (adjacent v xs h)

-- ---- it is there

held_at : (v : Value) (xs : List Value) (i : ℕ) (d : Value) → i < length xs → get_or xs i d ≡ v → holds v (values_in xs) ≡ true
held_at v [] i d l e = absurd (omega arith)
held_at v (x ∷ xs) zero d l e = ap (λ u. same v u || holds v (values_in xs)) e ∙ ap (λ b. b || holds v (values_in xs)) (same_self v)
held_at v (x ∷ xs) (suc i) d l e = ap (λ b. same v x || b) (held_at v xs i d (omega arith) e) ∙ either_true (same v x)
  where
    either_true : (b : Bool) → (b || true) ≡ true
    either_true true = refl
    either_true false = refl

found_by : (v : Value) (x : Value) (xs : List Value) (w : Value) (ws : List Value) (i : ℕ) (d e : Value) (b : Bool) → same v x ≡ b → IsAscending (values_in (x ∷ xs)) → i < length xs → get_or xs i d ≡ v → found_at (values_in xs) (values_in ws) v ≡ Some (get_or ws i e) → (if b then Some w else found_at (values_in xs) (values_in ws) v) ≡ Some (get_or ws i e)
found_by v x xs w ws i d e true s h l at rest =
    absurd (true≢false (sym (held_at v xs i d l at) ∙ ap (λ u. holds u (values_in xs)) (same_is v x s) ∙ not_held x (values_in xs) h.0 h.1))
found_by v x xs w ws i d e false s h l at rest = rest

pub found_there : (v : Value) (xs ws : List Value) (i : ℕ) (d e : Value) → IsAscending (values_in xs) → length xs ≡ length ws → i < length xs → get_or xs i d ≡ v → found_at (values_in xs) (values_in ws) v ≡ Some (get_or ws i e)
found_there v [] ws i d e h n l at = absurd (omega arith)
found_there v (x ∷ xs) [] i d e h n l at = absurd (omega (arith, n))
found_there v (x ∷ xs) (w ∷ ws) zero d e h n l at =
    ap (λ b. if b then Some w else found_at (values_in xs) (values_in ws) v) (ap (same v) at ∙ same_self v)
found_there v (x ∷ xs) (w ∷ ws) (suc i) d e h n l at =
    found_by v x xs w ws i d e (same v x) refl h (omega arith) at (found_there v xs ws i d e h.1 (omega (arith, n)) (omega arith) at)

-- ---- it isn't

abbrev NowhereIn : Value → List Value → Type 0
NowhereIn v xs = (k : ℕ) (d : Value) → k < length xs → same v (get_or xs k d) ≡ false

pub unheld : (v : Value) (xs : List Value) → NowhereIn v xs → holds v (values_in xs) ≡ false
unheld v [] h = refl
unheld v (x ∷ xs) h = λ i. h zero x (omega arith) i || unheld v xs (λ k d l. h (suc k) d (omega arith)) i

pub unfound : (v : Value) (xs ws : List Value) → NowhereIn v xs → found_at (values_in xs) (values_in ws) v ≡ None
unfound v [] ws h = refl
unfound v (x ∷ xs) [] h = refl
unfound v (x ∷ xs) (w ∷ ws) h =
    ap (λ b. if b then Some w else found_at (values_in xs) (values_in ws) v) (h zero x (omega arith)) ∙ unfound v xs ws (λ k d l. h (suc k) d (omega arith))

apart : (v x : Value) (r : Ordering) → order x v ≡ r → (r ≡ Equal → ⊥) → same v x ≡ false
apart v x r e n = either (same v x) refl
  where
    either : (b : Bool) → same v x ≡ b → b ≡ false
    either true s = absurd (n (sym e ∙ ap (order x) (same_is v x s) ∙ order_self x))
    either false s = refl

nowhere : (v : Value) (xs : List Value) (i : ℕ) → IsPartitionPoint (λ y. order y v ≡ Less) (λ y. order y v ≡ Greater) xs i → NowhereIn v xs
nowhere v xs i h k d l =
    ⊎_elim
    (λ b. apart v (get_or xs k d) Less (h.0 k d (omega arith) b) (λ e. cc))
    (λ a. apart v (get_or xs k d) Greater (h.1 k d a l) (λ e. cc))
    (cases_lt k i)

pub missed : (v : Value) (xs : List Value) (i : ℕ) → IsAscending (values_in xs) → IsBinarySearchResult (λ y. order y v) xs (Err i) → NowhereIn v xs
missed v xs i h r = nowhere v xs i (r (rising v xs h))

pub held : (v : Value) (xs : List Value) (r : Result ℕ ℕ) → IsAscending (values_in xs) → IsSearchInRange r (length xs) → IsBinarySearchResult (λ y. order y v) xs r → is_ok r ≡ holds v (values_in xs)
held v xs (Ok i) h l r = sym (held_at v xs i v l (order_equal (get_or xs i v) v (r v)))
held v xs (Err i) h l r = sym (unheld v xs (missed v xs i h r))
