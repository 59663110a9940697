use Rattle.std.proofs.Common.{◌≡◌, drop}
use Rattle.module_split.specs.StandsSeen.{stands_seen}
use Rattle.module_tree.specs.FileOffences.{no_unit}
use Rattle.module_split.proofs.offence.unit_fault.Given as goal

abbrev pub invariant-stands : goal.invariant-stands
invariant-stands l = no_unit (stands_seen l.text (drop l.stand-index l.stands)) ≡ no_unit (stands_seen l.text l.stands)
