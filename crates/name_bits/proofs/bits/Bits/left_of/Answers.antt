-- Proves that what is left is in the one and not in the other.
use Rattle.std.proofs.Common.{◌≡◌, ℕ, Bool, ◌&&◌, refl, arith}
use Rattle.std.specs.Prelude.{not}
use Rattle.name_bits.specs.NamesIn.{has}
use Rattle.name_bits.proofs.BitLaws.{in_left}
use Rattle.name_bits.proofs.NameLaws.{among_both, names_both}
use Rattle.name_bits.proofs.bits.Bits.left_of.Goals as goal

each : (c : goal.After-loop-k) (i : ℕ) → has (record { words = c.loop-k.words }) i ≡ (λ (b c : Bool). b && not c) (has c.args.self i) (has c.args.other.now i)
unfolding has
each c i =
    in_left c.args.self.words c.args.other.now.words c.loop-k.words (omega arith) (omega arith) c.loop-k.invariant.0 i
    (λ j h. c.loop-k.invariant.3 j (omega (arith, h, c.loop-k-test.false)))
    (λ j h. c.loop-k.invariant.1 j (omega (arith, h, c.loop-k-test.false)))

pub returns : goal.returns
returns c = record {
  numbers = each c;
  among = among_both (λ (b c : Bool). b && not c) refl (has c.args.self) (has c.args.other.now) (has (record { words = c.loop-k.words })) (each c);
  names = names_both (λ (b c : Bool). b && not c) refl (has c.args.self) (has c.args.other.now) (has (record { words = c.loop-k.words })) (each c);
}
