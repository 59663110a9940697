-- Proves the law `no_place_matters_to_the_written_module`: places are forgotten before all else.
use Rattle.std.proofs.Common.{ap}
use Rattle.action_builder.specs.WrittenNames.{with_names}
use Rattle.translation.specs.Region.{region_of}
use Rattle.translation.proofs.laws.no_place_matters_to_the_written_module.Goals as goal

pub returns : goal.returns
returns c = λ b title o g h e. ap (λ a. record { title = title; outside = o; region = region_of b (with_names o a) }) e
