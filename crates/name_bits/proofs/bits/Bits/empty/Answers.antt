-- Proves that no number is in.
use Rattle.std.proofs.Common.{◌≡◌, ℕ, false, refl, replicate}
use Rattle.std.proofs.lemmas.List.{get_or-replicate}
use Rattle.name_bits.specs.NamesIn.{has}
use Rattle.name_bits.proofs.BitLaws.{in_none}
use Rattle.name_bits.proofs.NameLaws.{no_names}
use Rattle.name_bits.proofs.bits.Bits.empty.Goals as goal

each : (i : ℕ) → has (record { words = replicate 17 0 }) i ≡ false
unfolding has
each i = in_none (replicate 17 0) (λ j h. get_or-replicate 17 j 0 0 h) refl i

pub returns : goal.returns
returns c = record { numbers = each; names = no_names (has (record { words = replicate 17 0 })) each 0 }
