-- Proves that the names of CONSTANT are put before what is behind them.
use Rattle.region_reading.specs.RegionReader.{region_in}
use Rattle.region_made.specs.Parts.{ahead}
use Rattle.region_made.proofs.PartsMade.{none_made, with_part, without, puts_model_values}
use Rattle.region_made.proofs.made.with_model_values.Goals as goal

pub returns-in_default : goal.returns-in_default
returns-in_default c = none_made region_in (ahead c.args.first c.args.units.now) c.in_default.ensures

pub returns-in_default-2 : goal.returns-in_default-2
returns-in_default-2 c = without (puts_model_values c.in-Some.names) c.in-Some.ensures c.in_ok-region.field-0 c.in_default-2.is c.in_ok-region.ensures

pub returns : goal.returns
returns c = with_part (puts_model_values c.in-Some.names) c.in-Some.ensures c.in_ok-region.field-0 c.in-Some-2.region c.in-Some-2.is c.in_ok-region.ensures
