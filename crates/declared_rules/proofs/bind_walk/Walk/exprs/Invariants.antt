-- What is kept: what is left still gives the whole.
use Rattle.std.proofs.Common.{drop}
use Rattle.std.specs.List.{flat_map}
use Rattle.tla_tree.specs.Pool.{at}
use Rattle.pcal_tree.specs.OffencesRebind.{tree_rebinds, any_name}
use Rattle.declared_rules.specs.declared.bind_walk.Walk.{Walk}
use Rattle.declared_rules.specs.Telling.{Adds}
use Rattle.declared_rules.proofs.bind_walk.Walk.exprs.Given as goal

abbrev pub invariant-loop-i : goal.invariant-loop-i
invariant-loop-i l = (k : Walk) → Adds l.sight any_name l.self k (λ ms r. flat_map (λ e. tree_rebinds ms any_name (at l.pool e) r) (drop l.i l.es)) → Adds l.sight any_name l.fn.self k (λ ms r. flat_map (λ e. tree_rebinds ms any_name (at l.pool e) r) l.es)
