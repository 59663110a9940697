-- Proves that Spec and Termination are the last units.
use Rattle.std.proofs.Common.{List, ◌∷◌, Option, Some, sym, ap, ◌∙◌}
use Rattle.region_made.specs.declared.unit.Unit.{Unit as Kept}
use Rattle.region_made.specs.declared.unit.Unit.TheVariants as unit
use Rattle.region_made.specs.Parts.{ahead}
use Rattle.region_made.proofs.UnitsTaken.{none_ahead}
use Rattle.region_made.proofs.PartsMade.{last_made}
use Rattle.region_made.proofs.made.with_spec.Goals as goal

pub returns : goal.returns
returns c =
    let fs = c.in-Some-Spec.fairness in
    let e = c.in-Some-Termination.termination in
    last_made (ahead c.args.first c.args.units.now) fs e c.last_parts.result
    (ap (λ (o : Option Kept). ahead o c.args.units.now) (c.in-Some-Spec.is ∙ ap Some c.in-Some-Spec.field-0-is)
    ∙ ap (λ (us : List Kept). unit.Spec fs ∷ us) (c.next_unit.ensures ∙ ap (λ (o : Option Kept). ahead o c.next_unit.new.units) (c.in-Some-Termination.is ∙ ap Some c.in-Some-Termination.field-0-is)
    ∙ ap (λ (us : List Kept). unit.Termination e ∷ us) (c.next_unit-2.ensures ∙ none_ahead c.next_unit-2.new.units c.next_unit-2.result (sym c.is_some.ensures ∙ c.if-is_some.false))))
    c.last_parts.ensures.region c.last_parts.ensures.within
