-- What is kept: what is left still gives the whole.
use Rattle.std.proofs.Common.{drop}
use Rattle.pcal_tree.specs.InMemory.{binds_at}
use Rattle.name_rules.specs.declared.found.Found.{Found}
use Rattle.name_rules.specs.Walking.{TellsBinds}
use Rattle.name_rules.proofs.found.Found.binds.Given as goal

abbrev pub invariant-loop-bind : goal.invariant-loop-bind
invariant-loop-bind l = (k : Found) → TellsBinds (binds_at l.pool (drop l.bind-index l.list)) l.self k → TellsBinds (binds_at l.pool l.list) l.fn.self k
