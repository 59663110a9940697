-- What is kept: none of the macros that were passed has the name.
use Rattle.std.proofs.Common.{◌≡◌, ◌-◌, List, length, take}
use Rattle.tla_tree.specs.Tree.{Tree, Trees, Graft}
use Rattle.expansion_size.specs.Budget.{calls}
use Rattle.expansion_size.specs.FramesIn.{newest_first}
use Rattle.expansion_size.proofs.macros.newest.Given as goal

abbrev pub invariant-loop-i : goal.invariant-loop-i
invariant-loop-i l = (ts : List Tree) (g : Graft) (us : Trees) → calls (newest_first ts (take (length l.macros - l.i) l.macros)) g l.name us ≡ calls (newest_first ts l.macros) g l.name us
