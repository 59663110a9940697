-- What is kept: what is left still gives the whole.
use Rattle.std.proofs.Common.{drop}
use Rattle.std.specs.List.{flat_map}
use Rattle.pcal_tree.specs.OffencesRebind.{any_name, rebound}
use Rattle.declared_rules.specs.declared.bind_walk.Walk.{Walk}
use Rattle.declared_rules.specs.Telling.{Adds}
use Rattle.declared_rules.specs.Parts.{bind_name}
use Rattle.declared_rules.proofs.bind_walk.Walk.bind_names.Given as goal

abbrev pub invariant-loop-bind : goal.invariant-loop-bind
invariant-loop-bind l = (k : Walk) → Adds l.sight any_name l.self k (λ ms r. flat_map (λ b. rebound ms r (bind_name b)) (drop l.bind-index l.list)) → Adds l.sight any_name l.fn.self k (λ ms r. flat_map (λ b. rebound ms r (bind_name b)) l.list)
