-- What the loop keeps: the words that were passed are done, and the others are as they were.
use Rattle.std.proofs.Common.{◌≡◌, ℕ, ◌^◌, ◌<◌, ◌≤◌, length, get_or}
use Rattle.std.specs.Prelude.{bit_and}
use Rattle.std.specs.Int.{w64, bit_not}
use Rattle.name_bits.proofs.bits.Bits.left_of.Given as goal

abbrev pub invariant-loop-k : goal.invariant-loop-k
invariant-loop-k l =
    (length l.words ≡ 17) × ((j : ℕ) → j < l.k → get_or l.words j 0 ≡ bit_and (get_or l.fn.self.words j 0) (bit_not w64 (get_or l.other.words j 0)))
    × ((j : ℕ) → l.k ≤ j → get_or l.words j 0 ≡ get_or l.fn.self.words j 0)
    × ((j : ℕ) → j < l.k → get_or l.other.words j 0 < 2 ^ 64)
