use Rattle.std.proofs.Common.{◌≡◌, ◌-◌, drop}
use Rattle.tla_token.specs.declared.rule.Rule.TheVariants.{Options}
use Rattle.tla_token.specs.Offences.{least}
use Rattle.tla_token.specs.Readings.{joined}
use Rattle.module_tree.specs.Beginnings.{is_options, all_at}
use Rattle.module_tree.specs.FileOffences.{offences_at}
use Rattle.module_split.proofs.beginning.options_fault.Given as goal

abbrev pub invariant-places : goal.invariant-places
invariant-places l = joined l.fault (least (offences_at Options (all_at is_options l.at (drop l.at l.bytes)))) ≡ least (offences_at Options (all_at is_options l.from (drop l.from l.bytes)))

abbrev pub decreases-places : goal.decreases-places
decreases-places l = l.to - l.at
