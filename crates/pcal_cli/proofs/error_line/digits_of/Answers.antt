-- The last digit, and one more before those that are there.
use Rattle.std.proofs.Common.{arith, sym, refl, ◌∙◌, ◌-◌, ◌+◌, ◌%◌, length-set}
use Rattle.pcal_cli.proofs.ErrorLine.{last_digit, digit_before, below_tenth, some_place}
use Rattle.pcal_cli.proofs.error_line.digits_of.Goals as goal

pub loop-rest-init : goal.loop-rest-init
loop-rest-init c = record {
  digits = sym (last_digit c.args.number (omega arith));
  room = omega arith;
  within = omega arith;
  size = refl;
  small = omega arith;
}

pub loop-rest-preserved : goal.loop-rest-preserved
loop-rest-preserved c =
    let i = c.loop-rest.invariant in
    let some = some_place c.loop-rest.rest c.loop-rest.from c.loop-rest-test.true i.room in
    record {
      digits = digit_before c.loop-rest.bytes _ _ c.loop-rest.from c.loop-rest.rest some (omega (arith, i.within, i.size)) c.loop-rest-test.true (omega arith) refl i.digits;
      room = below_tenth c.loop-rest.rest c.loop-rest.from some i.room;
      within = omega arith;
      size = length-set c.loop-rest.bytes (c.loop-rest.from - 1) (48 + c.loop-rest.rest % 10) ∙ i.size;
      small = omega arith;
    }
