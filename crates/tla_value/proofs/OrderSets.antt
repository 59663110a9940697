-- Sets in canonical order: one more member keeps the order, and two sets are equal exactly if they have the same members.
use Rattle.std.proofs.Common.{◌≡◌, Bool, true, false, List, [], ◌∷◌, refl, sym, ◌∙◌, ap, subst}
use Rattle.std.specs.Prelude.{◌||◌}
use Rattle.std.specs.Ordering.{is_eq}
use Rattle.std.specs.declared.cmp.Ordering.{Ordering}
use Rattle.std.specs.declared.cmp.Ordering.TheVariants.{Less, Equal, Greater}
use Rattle.tla_value.specs.Value.{Value, Values, no_values, and, values_in}
use Rattle.tla_value.specs.Order.{order, same, holds, placed, inserted, set_from, listed, IsBefore, IsAscending, IsCanonical, AreCanonical}
use Rattle.tla_value.specs.OrderLaws.{order_equal, order_total, same_is, same_self, after_before}

-- ---- one more member

before_placed : (u v w : Value) (ws more : Values) (r : Ordering) → order u v ≡ Less → order u w ≡ Less → IsBefore u (placed r v w ws more)
before_placed u v w ws more Less a b = a
before_placed u v w ws more Equal a b = b
before_placed u v w ws more Greater a b = b

before_inserted : (u v : Value) (vs : Values) → order u v ≡ Less → IsBefore u vs → IsBefore u (inserted v vs)
before_inserted u v no_values a b = a
before_inserted u v (and w ws) a b = before_placed u v w ws (inserted v ws) (order v w) a b

placed_ascending : (v w : Value) (ws more : Values) (r : Ordering) → order v w ≡ r → IsAscending (and w ws) → (order w v ≡ Less → IsBefore w more) → IsAscending more → IsAscending (placed r v w ws more)
placed_ascending v w ws more Less e h before rest = (e, h)
placed_ascending v w ws more Equal e h before rest = h
placed_ascending v w ws more Greater e h before rest = (before (after_before v w e), rest)

pub inserted_ascending : (v : Value) (vs : Values) → IsAscending vs → IsAscending (inserted v vs)
inserted_ascending v no_values h = (tt, tt)
inserted_ascending v (and w ws) h =
    placed_ascending v w ws (inserted v ws) (order v w) refl h (λ e. before_inserted w v ws e h.0) (inserted_ascending v ws h.1)

placed_canonical : (v w : Value) (ws more : Values) (r : Ordering) → IsCanonical v → AreCanonical (and w ws) → AreCanonical more → AreCanonical (placed r v w ws more)
placed_canonical v w ws more Less a h rest = (a, h)
placed_canonical v w ws more Equal a h rest = h
placed_canonical v w ws more Greater a h rest = (h.0, rest)

pub inserted_canonical : (v : Value) (vs : Values) → IsCanonical v → AreCanonical vs → AreCanonical (inserted v vs)
inserted_canonical v no_values a h = (a, tt)
inserted_canonical v (and w ws) a h = placed_canonical v w ws (inserted v ws) (order v w) a h (inserted_canonical v ws a h.1)

pub either_twice : (a b : Bool) → (a || b) ≡ (a || (a || b))
either_twice true b = refl
either_twice false b = refl

pub either_swap : (a b c : Bool) → (a || (b || c)) ≡ (b || (a || c))
either_swap true true c = refl
either_swap true false c = refl
either_swap false true c = refl
either_swap false false c = refl

holds_placed : (u v w : Value) (ws more : Values) (r : Ordering) → order v w ≡ r → holds u more ≡ (same u v || holds u ws) → holds u (placed r v w ws more) ≡ (same u v || holds u (and w ws))
holds_placed u v w ws more Less e h = refl
holds_placed u v w ws more Equal e h =
    either_twice (same u w) (holds u ws) ∙ ap (λ x. same u x || (same u w || holds u ws)) (sym (order_equal v w e))
holds_placed u v w ws more Greater e h = ap (λ b. same u w || b) h ∙ either_swap (same u w) (same u v) (holds u ws)

-- its members are the new one and the old ones
pub holds_inserted : (u v : Value) (vs : Values) → holds u (inserted v vs) ≡ (same u v || holds u vs)
holds_inserted u v no_values = refl
holds_inserted u v (and w ws) = holds_placed u v w ws (inserted v ws) (order v w) refl (holds_inserted u v ws)

-- ---- the set of some values

pub set_from_ascending : (vs : List Value) → IsAscending (set_from vs)
set_from_ascending [] = tt
set_from_ascending (v ∷ vs) = inserted_ascending v (set_from vs) (set_from_ascending vs)

pub set_from_canonical : (vs : List Value) → AreCanonical (values_in vs) → AreCanonical (set_from vs)
set_from_canonical [] h = tt
set_from_canonical (v ∷ vs) h = inserted_canonical v (set_from vs) h.0 (set_from_canonical vs h.1)

pub holds_set_from : (u : Value) (vs : List Value) → holds u (set_from vs) ≡ holds u (values_in vs)
holds_set_from u [] = refl
holds_set_from u (v ∷ vs) = holds_inserted u v (set_from vs) ∙ ap (λ b. same u v || b) (holds_set_from u vs)

-- ---- the same members

pub before_next : (v w : Value) (ws : Values) → order v w ≡ Less → IsBefore w ws → IsBefore v ws
before_next v w no_values a b = tt
before_next v w (and u us) a b = order_total.trans v w u a b

-- what is before all is no member
pub not_held : (v : Value) (vs : Values) → IsBefore v vs → IsAscending vs → holds v vs ≡ false
not_held v no_values b h = refl
not_held v (and w ws) b h =
    ap (λ r. is_eq r || holds v ws) b ∙ not_held v ws (before_next v w ws b h.0) h.1

pub first_held : (v : Value) (vs : Values) → holds v (and v vs) ≡ true
first_held v vs = ap (λ b. b || holds v vs) (same_self v)

-- of two sets whose first members are one, the others are the same
others_by : (u v : Value) (vs ws : Values) (b : Bool) → same u v ≡ b → holds v vs ≡ false → holds v ws ≡ false → (b || holds u vs) ≡ (b || holds u ws) → holds u vs ≡ holds u ws
others_by u v vs ws true e left right h =
    let is = same_is u v e in ap (λ x. holds x vs) is ∙ left ∙ sym (ap (λ x. holds x ws) is ∙ right)
others_by u v vs ws false e left right h = h

others : (v : Value) (vs ws : Values) → IsAscending (and v vs) → IsAscending (and v ws) → ((u : Value) → holds u (and v vs) ≡ holds u (and v ws)) → (u : Value) → holds u vs ≡ holds u ws
others v vs ws a b h u = others_by u v vs ws (same u v) refl (not_held v vs a.0 a.1) (not_held v ws b.0 b.1) (h u)

never : true ≡ false → ⊥
never h = cc

-- the first member of one set is in the other, so it isn't before it
not_before : (v w : Value) (vs ws : Values) → IsAscending (and w ws) → ((u : Value) → holds u (and v vs) ≡ holds u (and w ws)) → order v w ≡ Less → ⊥
not_before v w vs ws b h e = never (sym (first_held v vs) ∙ h v ∙ not_held v (and w ws) e b)

first_same : (v w : Value) (vs ws : Values) (r : Ordering) → order v w ≡ r → IsAscending (and v vs) → IsAscending (and w ws) → ((u : Value) → holds u (and v vs) ≡ holds u (and w ws)) → v ≡ w
first_same v w vs ws Less e a b h = absurd (not_before v w vs ws b h e)
first_same v w vs ws Equal e a b h = order_equal v w e
first_same v w vs ws Greater e a b h = absurd (not_before w v ws vs a (λ u. sym (h u)) (after_before v w e))

-- sets in canonical order with the same members are one
pub same_members : (vs ws : Values) → IsAscending vs → IsAscending ws → ((u : Value) → holds u vs ≡ holds u ws) → vs ≡ ws
same_members no_values no_values a b h = refl
same_members no_values (and w ws) a b h = absurd (never (sym (first_held w ws) ∙ sym (h w)))
same_members (and v vs) no_values a b h = absurd (never (sym (first_held v vs) ∙ h v))
same_members (and v vs) (and w ws) a b h =
    let is = first_same v w vs ws (order v w) refl a b h in
    λ i. and (is i) (same_members vs ws a.1 b.1 (others v vs ws a (subst (λ x. IsAscending (and x ws)) (sym is) b) (λ u. h u ∙ ap (λ x. holds u (and x ws)) (sym is))) i)

-- the set of some values depends on which values they are, and neither on their order nor on repetitions
pub set_from_same : (vs ws : List Value) → ((u : Value) → holds u (values_in vs) ≡ holds u (values_in ws)) → set_from vs ≡ set_from ws
set_from_same vs ws h =
    same_members (set_from vs) (set_from ws) (set_from_ascending vs) (set_from_ascending ws) (λ u. holds_set_from u vs ∙ h u ∙ sym (holds_set_from u ws))

-- the members of a set, put in again, make the same set
pub set_from_listed : (vs : Values) → IsAscending vs → set_from (listed vs) ≡ vs
set_from_listed vs a =
    same_members (set_from (listed vs)) vs (set_from_ascending (listed vs)) a (λ u. holds_set_from u (listed vs) ∙ ap (holds u) (values_listed vs))
  where
    values_listed : (us : Values) → values_in (listed us) ≡ us
    values_listed no_values = refl
    values_listed (and u us) = ap (and u) (values_listed us)
