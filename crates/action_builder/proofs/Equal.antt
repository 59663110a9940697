-- The tests on names and values.
use Rattle.std.proofs.Common.{◌≡◌, true, bytes_eq, subst, Bool, false, sym, refl}
use Rattle.std.proofs.lemmas.Slice.Eq.{bytes_eq-Decides}
use Rattle.tla_tree.specs.Tree.{Word}
use Rattle.tla_value.specs.Value.{Value}
use Rattle.tla_value.specs.Order.{same}
use Rattle.tla_value.specs.OrderLaws.{same_self}
use Rattle.std.proofs.lemmas.Bool.{both_ways}
use Rattle.tla_token.proofs.Spelled.{same_bytes}

pub eq-name : (x y : Word) → x ≡ y → bytes_eq x y ≡ true
eq-name x y e = (bytes_eq-Decides x y).1 e

pub eq-value : (v w : Value) → v ≡ w → same v w ≡ true
eq-value v w e = subst (λ z. same v z ≡ true) e (same_self v)

pub other-name : (x y : Word) → bytes_eq x y ≡ false → bytes_eq y x ≡ false
other-name x y o = by (bytes_eq y x) refl
  where
    by : (b : Bool) → bytes_eq y x ≡ b → b ≡ false
    by true q = absurd (both_ways (bytes_eq x y) o (eq-name x y (sym (same_bytes y x q))))
    by false q = refl
