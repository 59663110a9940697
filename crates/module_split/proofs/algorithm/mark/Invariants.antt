use Rattle.std.proofs.Common.{◌≡◌, ℕ, ◌||◌, ◌&&◌, nat_le, nat_lt, get_or, false}
use Rattle.module_split.proofs.algorithm.mark.Given as goal

abbrev pub invariant-bytes : goal.invariant-bytes
invariant-bytes l = (k : ℕ) → get_or l.marks k false ≡ (get_or l.initial.marks k false || (nat_le l.from k && nat_lt k l.at))
