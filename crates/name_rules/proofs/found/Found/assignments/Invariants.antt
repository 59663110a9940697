-- What is kept: what is left still gives the whole.
use Rattle.std.proofs.Common.{drop}
use Rattle.pcal_tree.specs.InMemory.{assignments_at}
use Rattle.pcal_tree.specs.OffencesNames.{in_assignments}
use Rattle.name_rules.specs.declared.found.Found.{Found}
use Rattle.name_rules.specs.Finding.{Tells}
use Rattle.name_rules.proofs.found.Found.assignments.Given as goal

abbrev pub invariant-loop-assignment : goal.invariant-loop-assignment
invariant-loop-assignment l = (k : Found) → Tells l.self k (in_assignments (assignments_at l.pool (drop l.assignment-index l.list))) → Tells l.fn.self k (in_assignments (assignments_at l.pool l.list))
