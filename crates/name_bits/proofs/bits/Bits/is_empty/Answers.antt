-- Proves that no number is in where all words are 0.
use Rattle.std.proofs.Common.{◌≡◌, ℕ, false, refl, sym, true≢false, arith, rules}
use Rattle.name_bits.specs.NamesIn.{has}
use Rattle.name_bits.proofs.BitLaws.{in_none, in_some}
use Rattle.name_bits.proofs.NameLaws.{no_names}
use Rattle.name_bits.proofs.bits.Bits.is_empty.Goals as goal

pub returns-then-self-k-ne0 : goal.returns-then-self-k-ne0
unfolding has
returns-then-self-k-ne0 c = record {
  numbers = (λ h. absurd (true≢false (sym h)), λ h. absurd (in_some c.args.self.now.words c.loop-k.k (search rules) (search rules) h));
  names = λ h. absurd (true≢false (sym h));
}

each : (c : goal.After-loop-k) (i : ℕ) → has c.args.self.now i ≡ false
unfolding has
each c = in_none c.args.self.now.words (λ j k. c.loop-k.invariant j (omega (arith, k, c.loop-k-test.false))) (omega arith)

pub returns : goal.returns
returns c = record { numbers = (λ h. each c, λ h. refl); names = λ h. no_names (has c.args.self.now) (each c) 0 }
