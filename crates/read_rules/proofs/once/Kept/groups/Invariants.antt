-- What is kept: the uses that were passed are in the list.
use Rattle.std.proofs.Common.{take}
use Rattle.pcal_tree.proofs.SpotCalls.{SeenLike}
use Rattle.read_rules.specs.OnceIn.{entries_seen}
use Rattle.read_rules.specs.SeenIn.{seen_of}
use Rattle.read_rules.proofs.once.Kept.groups.Given as goal

abbrev pub invariant-loop-number : goal.invariant-loop-number
invariant-loop-number l = SeenLike (seen_of l.list.items) (entries_seen (take l.number l.self.uses.entries))
