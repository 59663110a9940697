-- What the loop keeps: what has ended so far, and what is still to end.
use Rattle.std.proofs.Common.{Bool, List, length}
use Rattle.tla_tree.specs.Tree.{Tree}
use Rattle.pcal_tree.specs.GrammarC.{Labelled}
use Rattle.c_reading.specs.ReadStatements.{Stack}
use Rattle.c_syntax.specs.Closes.{EndStands}
use Rattle.c_syntax.proofs.Ending.{SoFar}
use Rattle.c_syntax.proofs.close.closed.Given as goal

abbrev pub invariant-loop-state : goal.invariant-loop-state
invariant-loop-state l = (ts : List Tree) (b : Bool) (a : Labelled) (st : Stack) → EndStands ts l.fn.state l.last b a st → SoFar l.fn.state l.state l.last l.ask ts b a st

abbrev pub decreases-loop-state : goal.decreases-loop-state
decreases-loop-state l = length l.state.stack.items
