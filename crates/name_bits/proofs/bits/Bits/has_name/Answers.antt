-- Proves that a name is in where its number is.
use Rattle.std.proofs.Common.{sym, ap, ◌∙◌}
use Rattle.name_bits.specs.NamesIn.{has}
use Rattle.name_bits.proofs.NameLaws.{told_at, at_number}
use Rattle.name_bits.proofs.bits.Bits.has_name.Goals as goal

pub returns-in-Some : goal.returns-in-Some
returns-in-Some c =
    c.has.ensures ∙ sym (told_at (has c.args.self.now) c.args.order.now c.args.name.now c.apart.ensures ∙ ap (at_number (has c.args.self.now)) (sym c.number.ensures ∙ c.in-Some.is))

pub returns-in-None : goal.returns-in-None
returns-in-None c =
    sym (told_at (has c.args.self.now) c.args.order.now c.args.name.now c.apart.ensures ∙ ap (at_number (has c.args.self.now)) (sym c.number.ensures ∙ c.in-None.is))
