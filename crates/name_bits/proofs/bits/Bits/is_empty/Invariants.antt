-- What the loop keeps: the words that were passed have no bit.
use Rattle.std.proofs.Common.{◌≡◌, ℕ, ◌<◌, get_or}
use Rattle.name_bits.proofs.bits.Bits.is_empty.Given as goal

abbrev pub invariant-loop-k : goal.invariant-loop-k
invariant-loop-k l = (j : ℕ) → j < l.k → get_or l.self.words j 0 ≡ 0
