-- What is kept: what is marked is called by what was passed, and those that are left give the whole.
use Rattle.std.proofs.Common.{List}
use Rattle.tla_tree.specs.Tree.{Word}
use Rattle.read_rules.specs.Calls.{AreCalled}
use Rattle.read_rules.proofs.SelfLaws.{Reaches}
use Rattle.read_rules.proofs.selves.with_macros.Given as goal

abbrev pub invariant-loop-i : goal.invariant-loop-i
invariant-loop-i l = (calls : List Word) → AreCalled l.fn.called calls → Reaches l.pool l.macros calls l.fn.so_far l.found l.called l.i
