-- What is kept: what is left still gives the whole.
use Rattle.std.proofs.Common.{◌≡◌, ◌++◌, drop}
use Rattle.pcal_tree.specs.InMemory.{binds_at}
use Rattle.pcal_tree.specs.laws.MacroSpots.{uses_of_binds}
use Rattle.read_rules.specs.UsesIn.{uses_of}
use Rattle.read_rules.proofs.steps.add_binds.Given as goal

abbrev pub invariant-loop-bind : goal.invariant-loop-bind
invariant-loop-bind l =
    uses_of l.list.items ++ uses_of_binds (binds_at l.pool (drop l.bind-index l.binds)) ≡ uses_of l.fn.list.items ++ uses_of_binds (binds_at l.pool l.binds)
