use Rattle.std.proofs.Common.{◌≡◌, ◌++◌, drop}
use Rattle.module_split.specs.StandsSeen.{stands_seen}
use Rattle.module_tree.specs.FileParts.{beginnings}
use Rattle.module_split.proofs.seek.beginnings.Given as goal

abbrev pub invariant-stands : goal.invariant-stands
invariant-stands l = l.starts.items ++ beginnings (stands_seen l.text (drop l.stand-index l.stands)) ≡ beginnings (stands_seen l.text l.stands)
