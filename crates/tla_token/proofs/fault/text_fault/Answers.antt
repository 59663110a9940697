use Rattle.std.proofs.Common.{ap, ◌∙◌, sym}
use Rattle.tla_token.specs.Offences.{least}
use Rattle.tla_token.specs.Scan.{part_of}
use Rattle.tla_token.specs.declared.part.Class.TheVariants as class
use Rattle.tla_token.specs.Readings.{part_offences_in}
use Rattle.tla_token.proofs.Marks.{text_marked, text_unmarked}
use Rattle.tla_token.proofs.fault.text_fault.Goals as goal

pub returns-then-has_mark : goal.returns-then-has_mark
returns-then-has_mark c =
    text_marked c.args.at c.args.bytes.now c.raw_of.result.now c.has_mark.result c.raw_of.ensures c.requires.text c.has_mark.ensures c.if-has_mark.true
    ∙ ap (λ r. least (part_offences_in r c.args.at (part_of class.Text c.args.bytes.now))) (sym c.in-Algorithm.is)

pub returns-else-has_mark : goal.returns-else-has_mark
returns-else-has_mark c =
    text_unmarked c.args.at c.args.bytes.now c.raw_of.result.now c.has_mark.result c.raw_of.ensures c.requires.text c.has_mark.ensures c.if-has_mark.false
    ∙ ap (λ r. least (part_offences_in r c.args.at (part_of class.Text c.args.bytes.now))) (sym c.in-Algorithm.is)
