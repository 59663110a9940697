-- What is kept: what is left still gives the whole.
use Rattle.std.proofs.Common.{◌≡◌, ◌++◌, drop}
use Rattle.tla_tree.specs.Tree.{words}
use Rattle.read_rules.specs.StepsIn.{others_at}
use Rattle.read_rules.specs.UsesIn.{uses_of}
use Rattle.read_rules.proofs.steps.add_others.Given as goal

abbrev pub invariant-loop-one : goal.invariant-loop-one
invariant-loop-one l = uses_of l.list.items ++ others_at l.place (words (drop l.one-index l.names)) ≡ uses_of l.fn.list.items ++ others_at l.place (words l.names)
