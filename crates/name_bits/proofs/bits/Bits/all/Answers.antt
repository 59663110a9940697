-- Proves that all numbers are in.
use Rattle.std.proofs.Common.{◌≡◌, ◌-◌, ◌^◌, ℕ, refl, replicate, arith, lt-ltb, ◌∙◌}
use Rattle.std.specs.Prelude.{nat_lt}
use Rattle.name_bits.specs.NamesIn.{has}
use Rattle.name_bits.proofs.BitLaws.{in_all}
use Rattle.name_bits.proofs.NameLaws.{all_names}
use Rattle.name_bits.proofs.bits.Bits.all.Goals as goal

each : (i : ℕ) → has (record { words = replicate 17 (2 ^ 64 - 1) }) i ≡ nat_lt i 1088
unfolding has
each i = in_all (replicate 17 (2 ^ 64 - 1)) refl i

pub returns : goal.returns
returns c = record {
  numbers = each;
  names = λ order h. all_names (has (record { words = replicate 17 (2 ^ 64 - 1) })) 1088 (λ i l. each i ∙ lt-ltb i 1088 l) 0 order (omega (arith, h));
}
