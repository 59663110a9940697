-- Proves that what is in the union is in one of the two.
use Rattle.std.proofs.Common.{◌≡◌, ℕ, Bool, ◌||◌, refl, arith}
use Rattle.name_bits.specs.NamesIn.{has}
use Rattle.name_bits.proofs.BitLaws.{in_union}
use Rattle.name_bits.proofs.NameLaws.{among_both, names_both}
use Rattle.name_bits.proofs.bits.Bits.union.Goals as goal

each : (c : goal.After-loop-k) (i : ℕ) → has (record { words = c.loop-k.words }) i ≡ (λ (b c : Bool). b || c) (has c.args.self i) (has c.args.other.now i)
unfolding has
each c i =
    in_union c.args.self.words c.args.other.now.words c.loop-k.words (omega arith) (omega arith) c.loop-k.invariant.0 i
    (λ j h. c.loop-k.invariant.1 j (omega (arith, h, c.loop-k-test.false)))

pub returns : goal.returns
returns c = record {
  numbers = each c;
  among = among_both (λ (b c : Bool). b || c) refl (has c.args.self) (has c.args.other.now) (has (record { words = c.loop-k.words })) (each c);
  names = names_both (λ (b c : Bool). b || c) refl (has c.args.self) (has c.args.other.now) (has (record { words = c.loop-k.words })) (each c);
}
