-- What is kept: what is left still gives the whole.
use Rattle.std.proofs.Common.{drop}
use Rattle.std.specs.List.{flat_map}
use Rattle.pcal_tree.specs.OffencesRebind.{any_name}
use Rattle.declared_rules.specs.declared.bind_walk.Walk.{Walk}
use Rattle.declared_rules.specs.Telling.{Adds}
use Rattle.declared_rules.proofs.BindBodyLaws.{assigned}
use Rattle.declared_rules.proofs.bind_walk.Walk.assignments.Given as goal

abbrev pub invariant-loop-assignment : goal.invariant-loop-assignment
invariant-loop-assignment l = (k : Walk) → Adds l.sight any_name l.self k (λ ms r. flat_map (λ a. assigned l.pool a ms r) (drop l.assignment-index l.list)) → Adds l.sight any_name l.fn.self k (λ ms r. flat_map (λ a. assigned l.pool a ms r) l.list)
