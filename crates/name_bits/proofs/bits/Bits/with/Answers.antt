-- Proves that one more number is in, and no other.
use Rattle.std.proofs.Common.{arith}
use Rattle.name_bits.specs.NamesIn.{has}
use Rattle.name_bits.proofs.BitLaws.{in_added}
use Rattle.name_bits.proofs.NameLaws.{among_with}
use Rattle.name_bits.proofs.bits.Bits.with.Goals as goal

pub returns-then-number-lt-MOST-clause-numbers : goal.returns-then-number-lt-MOST-clause-numbers
unfolding has
returns-then-number-lt-MOST-clause-numbers c i = in_added c.args.self.words (omega arith) c.args.number c.if-number-lt-MOST.true i

pub returns-then-number-lt-MOST-clause-among : goal.returns-then-number-lt-MOST-clause-among
returns-then-number-lt-MOST-clause-among c order y h l at x =
    among_with (has c.args.self) _ c.args.number l (returns-then-number-lt-MOST-clause-numbers c) order y h at x
