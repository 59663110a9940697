-- What is kept: what is left still gives the whole.
use Rattle.std.proofs.Common.{◌≡◌, ◌++◌, drop}
use Rattle.pcal_tree.specs.InMemory.{assignments_at}
use Rattle.pcal_tree.specs.laws.MacroSpots.{uses_of_assignments}
use Rattle.read_rules.specs.UsesIn.{uses_of}
use Rattle.read_rules.proofs.steps.add_assignments.Given as goal

abbrev pub invariant-loop-assignment : goal.invariant-loop-assignment
invariant-loop-assignment l =
    uses_of l.list.items ++ uses_of_assignments (assignments_at l.pool (drop l.assignment-index l.assignments)) ≡ uses_of l.fn.list.items ++ uses_of_assignments (assignments_at l.pool l.assignments)
