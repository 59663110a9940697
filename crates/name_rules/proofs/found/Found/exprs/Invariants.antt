-- What is kept: what is left still gives the whole.
use Rattle.std.proofs.Common.{drop}
use Rattle.tla_tree.specs.Pool.{trees_at}
use Rattle.pcal_tree.specs.OffencesNames.{in_each}
use Rattle.name_rules.specs.declared.found.Found.{Found}
use Rattle.name_rules.specs.Finding.{Tells}
use Rattle.name_rules.proofs.found.Found.exprs.Given as goal

abbrev pub invariant-loop-i : goal.invariant-loop-i
invariant-loop-i l = (k : Found) → Tells l.self k (in_each (trees_at l.pool (drop l.i l.es))) → Tells l.fn.self k (in_each (trees_at l.pool (drop l.from l.es)))
