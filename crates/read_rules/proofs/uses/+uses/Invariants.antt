-- Why the calls that go through an expression end, and what their loop keeps: what is left of a list still gives the whole.
use Rattle.std.proofs.Common.{◌≡◌, ◌+◌, ◌*◌, ◌++◌, drop}
use Rattle.tla_tree.specs.Pool.{trees_at}
use Rattle.pcal_tree.specs.laws.MacroSpots.{uses_of_all}
use Rattle.read_rules.specs.UsesIn.{uses_of}
use Rattle.read_rules.proofs.uses.+uses.Given as goal

abbrev pub decreases-add_uses : goal.decreases-add_uses
decreases-add_uses l = 3 * l.e + 2

abbrev pub decreases-add_uses_as : goal.decreases-add_uses_as
decreases-add_uses_as l = 3 * l.e + 1

abbrev pub decreases-add_parts : goal.decreases-add_parts
decreases-add_parts l = 3 * l.past

abbrev pub invariant-add_parts-loop-i : goal.invariant-add_parts-loop-i
invariant-add_parts-loop-i l = uses_of l.list.items ++ uses_of_all (trees_at l.pool (drop l.i l.parts)) ≡ uses_of l.fn.list.items ++ uses_of_all (trees_at l.pool l.parts)
