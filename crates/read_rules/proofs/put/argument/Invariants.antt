-- What is kept: those that were passed have another name.
use Rattle.std.proofs.Common.{◌≡◌, List, drop}
use Rattle.tla_tree.specs.Tree.{Tree}
use Rattle.tla_tree.specs.Pool.{trees_at}
use Rattle.pcal_tree.specs.laws.MacroSummaries.{argument}
use Rattle.read_rules.proofs.put.argument.Given as goal

abbrev pub invariant-loop-i : goal.invariant-loop-i
invariant-loop-i l = (ts : List Tree) → argument (drop l.i l.params) (trees_at ts (drop l.i l.args)) l.name ≡ argument l.params (trees_at ts l.args) l.name
