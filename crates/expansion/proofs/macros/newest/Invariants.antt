-- What is kept: none of the macros that were passed has the name.
use Rattle.std.proofs.Common.{◌≡◌, ◌-◌, List, length, take}
use Rattle.tla_tree.specs.Tree.{Tree, Trees}
use Rattle.pcal_tree.specs.Algorithm.{Span}
use Rattle.pcal_tree.specs.Expand.{written_out}
use Rattle.expansion_size.specs.FramesIn.{newest_first}
use Rattle.expansion.proofs.macros.newest.Given as goal

abbrev pub invariant-loop-i : goal.invariant-loop-i
invariant-loop-i l = (ts : List Tree) (at : Span) (us : Trees) → written_out (newest_first ts (take (length l.macros - l.i) l.macros)) at l.name us ≡ written_out (newest_first ts l.macros) at l.name us
