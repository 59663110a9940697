-- Values that are all members of a set, and functions with such values.
use Rattle.std.proofs.Common.{◌≡◌, ℕ, ◌+◌, ◌<◌, ◌≤◌, Bool, true, false, cond, List, length, drop, get_or, refl, sym, ap, ◌∙◌}
use Rattle.std.specs.Prelude.{◌&&◌}
use Rattle.std.specs.Ordering.{is_eq, nat_cmp}
use Rattle.tla_value.specs.Value.{Value, Values, set, fun, values_in}
use Rattle.tla_value.specs.Order.{same, orders, holds, count}
use Rattle.tla_value.specs.OrderLaws.{orders_equal, nat_self, is_equal}
use Rattle.tla_value.proofs.Untested.{then_eq}
use Rattle.value_forms.proofs.Rows.{split_at, nothing_left}
use Rattle.pcal_tree.specs.InitialStates.{all_hold, has_members}

module _ (vs : List Value) (ws : Values) where
  -- those before are members
  abbrev pub HoldsFrom : ℕ → Type 0
  HoldsFrom i = all_hold (values_in (drop i vs)) ws ≡ all_hold (values_in vs) ws

  first_holds : (i : ℕ) (v : Value) (b : Bool) → i < length vs → v ≡ get_or vs i v → holds v ws ≡ b → all_hold (values_in (drop i vs)) ws ≡ cond b (all_hold (values_in (drop (i + 1) vs)) ws) false
  first_holds i v b less is e = ap (λ (us : Values). all_hold us ws) (split_at vs i v less is) ∙ ap (λ (t : Bool). cond t (all_hold (values_in (drop (i + 1) vs)) ws) false) e

  pub holds_next : (i : ℕ) (v : Value) → i < length vs → v ≡ get_or vs i v → holds v ws ≡ true → HoldsFrom i → HoldsFrom (i + 1)
  holds_next i v less is e h = sym (first_holds i v true less is e) ∙ h

  pub holds_not : (i : ℕ) (v : Value) → i < length vs → v ≡ get_or vs i v → holds v ws ≡ false → HoldsFrom i → false ≡ all_hold (values_in vs) ws
  holds_not i v less is e h = sym (first_holds i v false less is e) ∙ h

  pub holds_done : (i : ℕ) → length vs ≤ i → HoldsFrom i → true ≡ all_hold (values_in vs) ws
  holds_done i le h = sym (ap (λ (us : Values). all_hold us ws) (nothing_left vs i le)) ∙ h

-- sets are one as their members are
pub sets_same : (a b : Values) → same (set a) (set b) ≡ is_eq (orders a b)
sets_same a b = then_eq (nat_cmp (count a) (count b)) (orders a b) ∙ by (is_eq (orders a b)) refl
  where
    none : (t : Bool) → (t && false) ≡ false
    none true = refl
    none false = refl

    by : (q : Bool) → is_eq (orders a b) ≡ q → (is_eq (nat_cmp (count a) (count b)) && q) ≡ q
    by false e = none (is_eq (nat_cmp (count a) (count b)))
    by true e = ap (λ (t : Bool). t && true) (ap is_eq (ap (λ (d : Values). nat_cmp (count a) (count d)) (sym (orders_equal a b (is_equal (orders a b) e))) ∙ nat_self (count a)))

-- ---- a function

pub other_domain : (f : Value) (ids ms ds us : Values) → f ≡ fun ds us → same (set ds) (set ids) ≡ false → false ≡ has_members ids ms f
other_domain f ids ms ds us e q = sym (ap (has_members ids ms) e ∙ ap (λ (t : Bool). cond t (all_hold us ms) false) (sym (sets_same ds ids) ∙ q))
