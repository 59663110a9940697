-- What is kept: what is left of the list still gives the whole.
use Rattle.std.proofs.Common.{◌≡◌, ◌++◌, drop}
use Rattle.tla_tree.specs.Pool.{trees_at}
use Rattle.pcal_tree.specs.laws.MacroSpots.{uses_of_all}
use Rattle.read_rules.specs.UsesIn.{uses_of}
use Rattle.read_rules.proofs.uses.add_all_uses.Given as goal

abbrev pub invariant-loop-i : goal.invariant-loop-i
invariant-loop-i l = uses_of l.list.items ++ uses_of_all (trees_at l.pool (drop l.i l.es)) ≡ uses_of l.fn.list.items ++ uses_of_all (trees_at l.pool l.es)
