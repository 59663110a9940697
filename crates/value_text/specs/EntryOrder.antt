-- Entries in the order of their arguments.
use Rattle.std.specs.Prelude.{Bool, List, [], ◌∷◌}
use Rattle.std.specs.Cmp.{IsTotalOrder, IsEquivalence, IsPartialEquivalence}
use Rattle.std.specs.declared.cmp.Ordering.{Ordering}
use Rattle.tla_value.specs.Value.{Value}
use Rattle.tla_value.specs.Order.{order, same}
use Rattle.tla_value.specs.OrderLaws.{order_total, same_equivalence, same_partial}
use Rattle.value_text.specs.declared.make.Entry.{Entry}

abbrev pub by_key : Entry → Entry → Ordering
by_key a b = order a.key b.key

abbrev pub same_keys : Entry → Entry → Bool
same_keys a b = same a.key b.key

pub by_key_total : IsTotalOrder by_key
by_key_total = record {
  antisymm = λ x y. order_total.antisymm x.key y.key;
  trans = λ x y z. order_total.trans x.key y.key z.key;
  congr = λ x y z. order_total.congr x.key y.key z.key;
}

pub same_keys_equivalence : IsEquivalence same_keys
same_keys_equivalence = record {
  refl = λ x. same_equivalence.refl x.key;
  symm = λ x y. same_equivalence.symm x.key y.key;
  congr = λ x y z. same_equivalence.congr x.key y.key z.key;
}

pub same_keys_partial : IsPartialEquivalence same_keys
same_keys_partial = record {
  symm = λ x y. same_partial.symm x.key y.key;
  trans = λ x y z. same_partial.trans x.key y.key z.key;
}

abbrev pub entry_pairs : List Entry → List (Value × Value)
entry_pairs [] = []
entry_pairs (e ∷ es) = (e.key, e.value) ∷ entry_pairs es

abbrev pub entry_keys : List Entry → List Value
entry_keys [] = []
entry_keys (e ∷ es) = e.key ∷ entry_keys es

abbrev pub entry_values : List Entry → List Value
entry_values [] = []
entry_values (e ∷ es) = e.value ∷ entry_values es
