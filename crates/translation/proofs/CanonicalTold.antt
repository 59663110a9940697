-- Whether a value is canonical can be told, so of a state the values that are can be kept.
use Rattle.std.proofs.Common.{◌≡◌, suc, refl, ap, inl, inr}
use Rattle.std.specs.declared.cmp.Ordering.{Ordering}
use Rattle.std.specs.declared.cmp.Ordering.TheVariants.{Less, Equal, Greater}
use Rattle.tla_value.specs.Value.{Value, Values, truth, int, text, model, set, fun, no_values, and}
use Rattle.tla_value.specs.Order.{order, count, IsBefore, IsAscending, IsCanonical, AreCanonical}
use Rattle.tla_value.proofs.ValueDecided.{Told}

both : {P Q : Type 0} → Told P → Told Q → Told (P × Q)
both (inl p) (inl q) = inl (p, q)
both (inr n) q = inr (λ x. n x.0)
both (inl p) (inr n) = inr (λ x. n x.1)

four : {P Q R S : Type 0} → Told P → Told Q → Told R → Told S → Told (P × Q × R × S)
four (inl p) (inl q) (inl r) (inl s) = inl (p, q, r, s)
four (inr n) q r s = inr (λ x. n x.0)
four (inl p) (inr n) r s = inr (λ x. n x.1)
four (inl p) (inl q) (inr n) s = inr (λ x. n x.2)
four (inl p) (inl q) (inl r) (inr n) = inr (λ x. n x.3)

is_less : (o : Ordering) → Told (o ≡ Less)
is_less Less = inl refl
is_less Equal = inr (λ e. cc)
is_less Greater = inr (λ e. cc)

before : (v : Value) (vs : Values) → Told (IsBefore v vs)
before v no_values = inl tt
before v (and w ws) = is_less (order v w)

ascending : (vs : Values) → Told (IsAscending vs)
ascending no_values = inl tt
ascending (and v vs) = both (before v vs) (ascending vs)

as_many : (vs ws : Values) → Told (count vs ≡ count ws)
as_many no_values no_values = inl refl
as_many no_values (and w ws) = inr (λ e. cc)
as_many (and v vs) no_values = inr (λ e. cc)
as_many (and v vs) (and w ws) = by (as_many vs ws)
  where
    by : Told (count vs ≡ count ws) → Told (count (and v vs) ≡ count (and w ws))
    by (inl e) = inl (ap suc e)
    by (inr n) = inr (λ e. n cc)

mutual
  pub canonical : (v : Value) → Told (IsCanonical v)
  canonical (truth b) = inl tt
  canonical (int z) = inl tt
  canonical (text w) = inl tt
  canonical (model w) = inl tt
  canonical (set vs) = both (ascending vs) (all_canonical vs)
  canonical (fun ds rs) = four (ascending ds) (all_canonical ds) (all_canonical rs) (as_many ds rs)

  all_canonical : (vs : Values) → Told (AreCanonical vs)
  all_canonical no_values = inl tt
  all_canonical (and v vs) = both (canonical v) (all_canonical vs)

-- the value if it is canonical, else another
abbrev chosen : (v w : Value) → Told (IsCanonical v) → Value
chosen v w (inl c) = v
chosen v w (inr n) = w

abbrev pub canonical_or : Value → Value → Value
canonical_or v w = chosen v w (canonical v)

pub or_canonical : (v w : Value) → IsCanonical w → IsCanonical (canonical_or v w)
or_canonical v w c = by (canonical v)
  where
    by : (t : Told (IsCanonical v)) → IsCanonical (chosen v w t)
    by (inl d) = d
    by (inr n) = c

pub or_same : (v w : Value) → IsCanonical v → canonical_or v w ≡ v
or_same v w c = by (canonical v)
  where
    by : (t : Told (IsCanonical v)) → chosen v w t ≡ v
    by (inl d) = refl
    by (inr n) = absurd (n c)
