use Rattle.std.proofs.Common.{◌≡◌, drop}
use Rattle.module_split.specs.StandsSeen.{stands_seen}
use Rattle.module_tree.specs.FileOffences.{rest_of_line}
use Rattle.module_split.proofs.offence.line_fault.Given as goal

abbrev pub invariant-stands : goal.invariant-stands
invariant-stands l = rest_of_line (stands_seen l.text (drop l.stand-index l.stands)) ≡ rest_of_line (stands_seen l.text l.stands)
