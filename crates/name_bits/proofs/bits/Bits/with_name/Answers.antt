-- Proves that one more name is in, and no other.
use Rattle.std.proofs.Common.{sym, ◌∙◌, true≢false, arith}
use Rattle.name_bits.proofs.NameLaws.{place_is, no_place}
use Rattle.name_bits.proofs.bits.Bits.with_name.Goals as goal

pub returns-in-Some : goal.returns-in-Some
returns-in-Some c few among x =
    let place = place_is c.args.name.now c.args.order.now c.in-Some.number (sym c.number.ensures ∙ c.in-Some.is) in
    c.with.ensures.among c.args.order.now c.args.name.now c.apart.ensures (omega (arith, few, place.1)) place.0 x

pub returns-in-None : goal.returns-in-None
returns-in-None c few among x = absurd (true≢false (sym among ∙ no_place c.args.name.now c.args.order.now (sym c.number.ensures ∙ c.in-None.is)))
