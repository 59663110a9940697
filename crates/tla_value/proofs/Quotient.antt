-- For b above 0, a = b * (a \div b) + a % b, and a % b lies from 0 to b - 1.
use Rattle.std.proofs.Common.{◌≡◌, ℕ, ℤ, pos, negsuc, ◌+◌, ◌-◌, ◌*◌, ◌/◌, ◌%◌, ◌<◌, ◌+ℤ◌, ◌*ℤ◌, refl, ap, arith}
use Rattle.std.specs.Int.{int_div_euclid, int_rem_euclid}
use Rattle.std.proofs.Math.Nat.{div-add-mod}
use Rattle.std.proofs.lemmas.Nat.{mod_below}
use Rattle.std.proofs.lemmas.Int.{ints}

back_down : (n q r a p : ℕ) → r < n → n * q + r ≡ a → p ≡ n * q → (pos n *ℤ negsuc q) +ℤ pos (n - 1 - r) ≡ negsuc a
back_down n q r a p h e k = omega (arith, ints)

pub quotient_law : (a : ℤ) (n : ℕ) → 0 < n → (pos n *ℤ int_div_euclid a (pos n)) +ℤ int_rem_euclid a (pos n) ≡ a
quotient_law (pos a) n h = ap pos (div-add-mod a n)
quotient_law (negsuc a) n h = back_down n (a / n) (a % n) a (n * (a / n)) (mod_below a n h) (div-add-mod a n) refl

pub remainder_law : (a : ℤ) (n : ℕ) → 0 < n → (r : ℕ) × (int_rem_euclid a (pos n) ≡ pos r) × (r < n)
remainder_law (pos a) n h = (a % n, refl, mod_below a n h)
remainder_law (negsuc a) n h = (n - 1 - a % n, refl, omega arith)
