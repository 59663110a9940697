use Rattle.std.proofs.Common.{◌≡◌, drop, filter}
use Rattle.tla_token.specs.Offences.{least}
use Rattle.tla_token.specs.Readings.{joined}
use Rattle.module_split.specs.StandsSeen.{stands_seen}
use Rattle.module_tree.specs.FileOffences.{offences_of, is_splitting}
use Rattle.module_split.proofs.offence.stands_fault.Given as goal

abbrev pub invariant-stands : goal.invariant-stands
invariant-stands l = joined l.fault (least (filter is_splitting (offences_of (stands_seen l.text (drop l.stand-index l.stands))))) ≡ least (filter is_splitting (offences_of (stands_seen l.text l.stands)))
