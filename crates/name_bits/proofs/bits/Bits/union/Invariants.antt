-- What the loop keeps: the words that were passed are done, and the others are as they were.
use Rattle.std.proofs.Common.{◌≡◌, ℕ, ◌<◌, ◌≤◌, length, get_or}
use Rattle.std.specs.Prelude.{bit_or}
use Rattle.name_bits.proofs.bits.Bits.union.Given as goal

abbrev pub invariant-loop-k : goal.invariant-loop-k
invariant-loop-k l =
    (length l.words ≡ 17) × ((j : ℕ) → j < l.k → get_or l.words j 0 ≡ bit_or (get_or l.fn.self.words j 0) (get_or l.other.words j 0))
    × ((j : ℕ) → l.k ≤ j → get_or l.words j 0 ≡ get_or l.fn.self.words j 0)
