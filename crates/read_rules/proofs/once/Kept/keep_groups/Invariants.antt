-- What is kept: the groups that were passed.
use Rattle.std.proofs.Common.{take}
use Rattle.read_rules.specs.OnceIn.{Keeps}
use Rattle.read_rules.specs.Pruned.{only}
use Rattle.read_rules.specs.WantedIn.{wants}
use Rattle.read_rules.specs.SeenIn.{seen_of}
use Rattle.read_rules.proofs.once.Kept.keep_groups.Given as goal

abbrev pub invariant-loop-group : goal.invariant-loop-group
invariant-loop-group l = Keeps l.fn.self.uses.entries l.self.uses.entries (only (wants l.wanted) (seen_of (take l.group-index l.groups)))
