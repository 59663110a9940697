-- What is kept: what is left still gives the whole.
use Rattle.std.proofs.Common.{drop}
use Rattle.name_rules.specs.declared.found.Found.{Found}
use Rattle.name_rules.specs.Finding.{Tells}
use Rattle.name_rules.proofs.CallLaws.{all_called}
use Rattle.name_rules.proofs.found.Found.all_called.Given as goal

abbrev pub invariant-loop-i : goal.invariant-loop-i
invariant-loop-i l = (k : Found) → Tells l.self k (all_called l.pool l.es l.params (drop l.i l.uses)) → Tells l.fn.self k (all_called l.pool l.es l.params l.uses)
