-- What is kept: what is left still gives the whole.
use Rattle.std.proofs.Common.{drop}
use Rattle.pcal_tree.specs.InMemory.{declarations_at}
use Rattle.pcal_tree.specs.OffencesNames.{in_declared}
use Rattle.name_rules.specs.declared.found.Found.{Found}
use Rattle.name_rules.specs.Finding.{Tells}
use Rattle.name_rules.proofs.found.Found.declared.Given as goal

abbrev pub invariant-loop-i : goal.invariant-loop-i
invariant-loop-i l = (k : Found) → Tells l.self k (in_declared (declarations_at l.pool (drop l.i l.list))) → Tells l.fn.self k (in_declared (declarations_at l.pool l.list))
