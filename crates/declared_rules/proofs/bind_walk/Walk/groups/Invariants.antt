-- What is kept: what is left still gives the whole.
use Rattle.std.proofs.Common.{Bool, drop}
use Rattle.std.specs.List.{flat_map}
use Rattle.tla_tree.specs.Tree.{Word}
use Rattle.pcal_tree.specs.OffencesRebind.{rebound_all}
use Rattle.declared_rules.specs.declared.bind_walk.Walk.{Walk}
use Rattle.declared_rules.specs.Telling.{Adds}
use Rattle.declared_rules.proofs.bind_walk.Walk.groups.Given as goal

abbrev pub invariant-loop-i : goal.invariant-loop-i
invariant-loop-i l = (K : Word → Bool) (k : Walk) → Adds l.sight K l.self k (λ ms r. flat_map (λ g. rebound_all ms r g.items) (drop l.i l.groups)) → Adds l.sight K l.fn.self k (λ ms r. flat_map (λ g. rebound_all ms r g.items) l.groups)
