-- What is kept: what is left still gives the whole.
use Rattle.std.proofs.Common.{List, drop}
use Rattle.std.specs.List.{flat_map}
use Rattle.tla_tree.specs.Tree.{Word}
use Rattle.pcal_tree.specs.Algorithm.{Procedure}
use Rattle.pcal_tree.specs.InMemory.{procedure_at}
use Rattle.pcal_tree.specs.OffencesRebind.{any_name, Calls, procedure_rebinds}
use Rattle.declared_rules.specs.declared.bind_walk.Walk.{Walk}
use Rattle.declared_rules.specs.Telling.{Adds}
use Rattle.declared_rules.specs.Keeping.{KnowsCalls}
use Rattle.declared_rules.proofs.bind_walk.Walk.procedures.Given as goal

abbrev pub invariant-loop-i : goal.invariant-loop-i
invariant-loop-i l =
    (C : List Word → Calls) (ps : List Procedure) → KnowsCalls l.sight l.calls C ps → (k : Walk) → Adds l.sight any_name l.self k (λ ms r. flat_map (λ p. procedure_rebinds ms ps (C ms) r (procedure_at l.pool p)) (drop l.i l.list))
    → Adds l.sight any_name l.fn.self k (λ ms r. flat_map (λ p. procedure_rebinds ms ps (C ms) r (procedure_at l.pool p)) l.list)
