-- What is kept: what is left still gives the whole.
use Rattle.std.proofs.Common.{Bool, drop}
use Rattle.std.specs.List.{flat_map}
use Rattle.tla_tree.specs.Tree.{Word}
use Rattle.pcal_tree.specs.OffencesRebind.{rebound, rebound_all}
use Rattle.declared_rules.specs.declared.bind_walk.Walk.{Walk}
use Rattle.declared_rules.specs.Telling.{Adds}
use Rattle.declared_rules.proofs.bind_walk.Walk.names.Given as goal

abbrev pub invariant-loop-name : goal.invariant-loop-name
invariant-loop-name l = (K : Word → Bool) (k : Walk) → Adds l.sight K l.self k (λ ms r. flat_map (λ n. rebound ms r n) (drop l.name-index l.names)) → Adds l.sight K l.fn.self k (λ ms r. rebound_all ms r l.names)
