-- What the loop keeps: what is left tells the same.
use Rattle.std.proofs.Common.{List, length}
use Rattle.tla_tree.specs.Tree.{Tree}
use Rattle.c_reading.specs.ReadStatements.{Stack}
use Rattle.c_syntax.specs.StatesRead.{StackStands}
use Rattle.c_syntax.proofs.OrAfter.{Left}
use Rattle.c_syntax.proofs.statements.before_or.Given as goal

abbrev pub invariant-loop-open : goal.invariant-loop-open
invariant-loop-open l = (ts : List Tree) (st : Stack) → StackStands ts l.fn.stack st → Left ts l.rest st

abbrev pub decreases-loop-open : goal.decreases-loop-open
decreases-loop-open l = length l.rest
