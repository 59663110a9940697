-- Proves that Next is put before what is behind it.
use Rattle.std.proofs.Common.{Some, refl, ap, ◌∙◌}
use Rattle.region_made.specs.declared.unit.Unit.TheVariants as unit
use Rattle.region_made.specs.Parts.{ahead}
use Rattle.region_made.proofs.UnitsTaken.{one_part}
use Rattle.region_made.proofs.PartsMade.{with_part, puts_next}
use Rattle.region_made.proofs.made.with_next.Goals as goal

pub returns : goal.returns
returns c =
    with_part (puts_next c.in-Some-Next.ways)
    (one_part (unit.Next c.in-Some-Next.ways) c.args.first c.args.units.now (ahead c.next_unit-second.result c.next_unit-second.new.units) (c.in-Some-Next.is ∙ ap Some c.in-Some-Next.field-0-is) c.next_unit-second.ensures (λ ts vs. refl) (λ m i. i))
    c.with_spec.result c.in_ok-region.region c.in_ok-region.was c.with_spec.ensures
