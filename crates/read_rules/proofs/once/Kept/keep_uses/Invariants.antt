-- What is kept: the uses that were passed.
use Rattle.std.proofs.Common.{take, Some}
use Rattle.pcal_tree.specs.laws.MacroSpots.{on_trail}
use Rattle.read_rules.specs.OnceIn.{Keeps}
use Rattle.read_rules.specs.Pruned.{only}
use Rattle.read_rules.specs.WantedIn.{wants}
use Rattle.read_rules.specs.Sets.{origins}
use Rattle.read_rules.specs.UsesIn.{uses_of}
use Rattle.read_rules.proofs.once.Kept.keep_uses.Given as goal

abbrev pub invariant-loop-one : goal.invariant-loop-one
invariant-loop-one l = Keeps l.fn.self.uses.entries l.self.uses.entries (only (wants l.wanted) (on_trail (Some (origins l.after)) (uses_of (take l.one-index l.uses))))
