-- What is kept: what is left still gives the whole.
use Rattle.std.proofs.Common.{Bool, drop}
use Rattle.std.specs.List.{flat_map}
use Rattle.tla_tree.specs.Tree.{Word}
use Rattle.pcal_tree.specs.InMemory.{start_at}
use Rattle.pcal_tree.specs.OffencesRebind.{start_rebinds}
use Rattle.declared_rules.specs.declared.bind_walk.Walk.{Walk}
use Rattle.declared_rules.specs.Telling.{Adds}
use Rattle.declared_rules.proofs.bind_walk.Walk.starts.Given as goal

abbrev pub invariant-loop-i : goal.invariant-loop-i
invariant-loop-i l = (K : Word → Bool) (k : Walk) → Adds l.sight K l.self k (λ ms r. flat_map (λ d. start_rebinds ms K (start_at l.pool d.start) r) (drop l.i l.list)) → Adds l.sight K l.fn.self k (λ ms r. flat_map (λ d. start_rebinds ms K (start_at l.pool d.start) r) l.list)
