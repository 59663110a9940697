-- Proves that the unit is put before what is behind it.
use Rattle.std.proofs.Common.{Some, refl, ap, ◌∙◌}
use Rattle.region_made.specs.declared.unit.Unit.TheVariants as unit
use Rattle.region_made.specs.Parts.{ahead}
use Rattle.region_made.proofs.UnitsTaken.{one_part}
use Rattle.region_made.proofs.PartsMade.{with_part, without, puts_variables}
use Rattle.region_made.proofs.made.with_variables.Goals as goal

pub returns-in_default-2 : goal.returns-in_default-2
returns-in_default-2 c =
    without (puts_variables c.in-Some-Variables.names)
    (one_part (unit.Variables c.in-Some-Variables.names) c.args.first c.args.units.now (ahead c.next_unit-second.result c.next_unit-second.new.units) (c.in-Some-Variables.is ∙ ap Some c.in-Some-Variables.field-0-is) c.next_unit-second.ensures (λ ts vs. refl) (λ m i. tt))
    c.in_ok-region.field-0 c.in_default-2.is c.in_ok-region.ensures

pub returns : goal.returns
returns c =
    with_part (puts_variables c.in-Some-Variables.names)
    (one_part (unit.Variables c.in-Some-Variables.names) c.args.first c.args.units.now (ahead c.next_unit-second.result c.next_unit-second.new.units) (c.in-Some-Variables.is ∙ ap Some c.in-Some-Variables.field-0-is) c.next_unit-second.ensures (λ ts vs. refl) (λ m i. tt))
    c.in_ok-region.field-0 c.in-Some.region c.in-Some.is c.in_ok-region.ensures
