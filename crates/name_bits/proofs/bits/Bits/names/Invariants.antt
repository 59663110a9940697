-- What the loop keeps: the names that were passed and are in.
use Rattle.std.proofs.Common.{◌≡◌, take}
use Rattle.name_bits.specs.NamesIn.{names_in}
use Rattle.name_bits.proofs.bits.Bits.names.Given as goal

abbrev pub invariant-loop-number : goal.invariant-loop-number
invariant-loop-number l = l.names ≡ names_in (take l.number l.order) l.self
