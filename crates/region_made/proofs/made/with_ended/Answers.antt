-- Proves that the test in Terminating is put before what is behind it.
use Rattle.std.proofs.Common.{◌≡◌, Option, None, sym, subst, rules}
use Rattle.module_write.specs.declared.«module».Region.{Region}
use Rattle.region_reading.specs.RegionReader.{from_terminating}
use Rattle.region_made.specs.Parts.{ahead, IsMade}
use Rattle.region_made.proofs.PartsMade.{with_part, without, puts_ended}
use Rattle.region_made.proofs.made.with_ended.Goals as goal

pub returns-in_err-region : goal.returns-in_err-region
returns-in_err-region c =
    let was : c.with_next.result ≡ None = search rules in
    let none : c.from_residual.result ≡ None = search rules in
    subst (λ (o : Option Region). IsMade from_terminating (ahead c.args.first c.args.units.now) o) (sym none) (without (puts_ended c.ended-ended.result.0) c.ended-ended.ensures c.with_next.result was c.with_next.ensures)

pub returns : goal.returns
returns c = with_part (puts_ended c.ended-ended.result.0) c.ended-ended.ensures c.with_next.result c.in_ok-region.region c.in_ok-region.was c.with_next.ensures
