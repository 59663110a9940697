-- What is kept: what is left still gives the whole.
use Rattle.std.proofs.Common.{drop}
use Rattle.std.specs.List.{flat_map}
use Rattle.pcal_tree.specs.OffencesRebind.{any_name, rebound}
use Rattle.declared_rules.specs.declared.bind_walk.Walk.{Walk}
use Rattle.declared_rules.specs.Telling.{Adds}
use Rattle.declared_rules.proofs.bind_walk.Walk.declared.Given as goal

abbrev pub invariant-loop-i : goal.invariant-loop-i
invariant-loop-i l = (k : Walk) → Adds l.sight any_name l.self k (λ ms r. flat_map (λ d. rebound ms r d.name) (drop l.i l.list)) → Adds l.sight any_name l.fn.self k (λ ms r. flat_map (λ d. rebound ms r d.name) l.list)
