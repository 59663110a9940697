-- What is kept: the assignments that were passed are made.
use Rattle.std.proofs.Common.{◌≡◌, ◌≤◌, Option, length, map, take}
use Rattle.tla_tree.specs.Tree.{Tree}
use Rattle.tla_tree.specs.Nesting.{greatest}
use Rattle.tla_tree.specs.Pool.{Keeps}
use Rattle.pcal_tree.specs.Algorithm.{Routine}
use Rattle.pcal_tree.specs.Expand.{graft_assignments}
use Rattle.pcal_tree.specs.InMemory.{assignments_at, past_assignment}
use Rattle.pcal_tree.specs.Program.{Program}
use Rattle.action_builder.specs.WrittenNames.{renames}
use Rattle.step_items.specs.Desks.{IsDesk}
use Rattle.step_items.proofs.expressions.named_assignments.Given as goal

abbrev pub invariant-loop-assignment : goal.invariant-loop-assignment
invariant-loop-assignment l =
    Keeps l.fn.pool l.pool
    × (greatest (map past_assignment l.made.items) ≤ length l.pool)
    × ((P : Program) (u : Routine) (x : Option Tree) → IsDesk l.fn.pool l.desk P u x → assignments_at l.pool l.made.items ≡ graft_assignments (renames P u) (assignments_at l.fn.pool (take l.assignment-index l.assignments)))
