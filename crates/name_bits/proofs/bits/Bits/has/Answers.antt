-- Proves that a number is in where its bit is set.
use Rattle.std.proofs.Common.{◌==◌, ◌%◌, ℕ, sym, ap, ◌∙◌, arith, le-ltb}
use Rattle.std.proofs.lemmas.Nat.Bits.{shr_and_one}
use Rattle.name_bits.specs.NamesIn.{has}
use Rattle.name_bits.proofs.BitLaws.{past_words}
use Rattle.name_bits.proofs.bits.Bits.has.Goals as goal

pub returns-then-number-lt-MOST : goal.returns-then-number-lt-MOST
unfolding has
returns-then-number-lt-MOST c = ap (λ (n : ℕ). n == 1) (shr_and_one _ (c.args.number % 64))

pub returns-else-number-lt-MOST : goal.returns-else-number-lt-MOST
unfolding has
returns-else-number-lt-MOST c =
    le-ltb _ _ c.if-number-lt-MOST.false ∙ sym (past_words c.args.self.now.words c.args.number (omega (arith, c.if-number-lt-MOST.false)))
