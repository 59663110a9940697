-- What is kept: what is left still gives the whole.
use Rattle.std.proofs.Common.{drop}
use Rattle.pcal_tree.specs.InMemory.{assignments_at}
use Rattle.pcal_tree.specs.Reads.{used_by_assignments}
use Rattle.read_rules.specs.declared.used.Used.{Used}
use Rattle.read_rules.specs.Using.{Adds}
use Rattle.read_rules.proofs.used.Used.assignments.Given as goal

abbrev pub invariant-loop-assignment : goal.invariant-loop-assignment
invariant-loop-assignment l = (k : Used) → Adds l.self k (used_by_assignments (assignments_at l.pool (drop l.assignment-index l.list))) → Adds l.fn.self k (used_by_assignments (assignments_at l.pool l.list))
