-- What is kept: what is left still gives the whole.
use Rattle.std.proofs.Common.{List, drop}
use Rattle.pcal_tree.specs.InMemory.{assignments_at}
use Rattle.pcal_tree.specs.Paths.{roots}
use Rattle.tla_tree.specs.Tree.{Word}
use Rattle.read_rules.specs.Joins.{Joins}
use Rattle.read_rules.proofs.steps.add_roots.Given as goal

abbrev pub invariant-loop-assignment : goal.invariant-loop-assignment
invariant-loop-assignment l =
    (k : List Word) → Joins l.names k (roots (assignments_at l.pool (drop l.assignment-index l.assignments))) → Joins l.fn.names k (roots (assignments_at l.pool l.assignments))
