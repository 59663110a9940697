-- The greater of two numbers, as code compares them.
use Rattle.std.proofs.Common.{◌≡◌, ℕ, ◌+◌, ◌≤◌, max, Bool, true, false, nat_lt, ◌==◌, cond, Less, Equal, Greater, refl, arith, ltb-true, ltb-false}
use Rattle.std.specs.Ordering.{is_lt, ord_max, nat_cmp}

pub max_is : (a b : ℕ) → ord_max nat_cmp a b ≡ max a b
max_is a b = by (nat_lt b a) refl (b == a)
  where
    by : (c : Bool) → nat_lt b a ≡ c → (d : Bool) → cond (is_lt (cond c Less (cond d Equal Greater))) a b ≡ max a b
    by true e d = (let l = ltb-true b a e in omega (arith, l))
    by false e true = (let l = ltb-false b a e in omega (arith, l))
    by false e false = (let l = ltb-false b a e in omega (arith, l))

pub greater_small : (n a b most : ℕ) → n ≡ max a (b + 1) → a ≤ most + 1 → b ≤ most → n ≤ most + 1
greater_small n a b most e l k = omega arith
