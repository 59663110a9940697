-- What is kept: those that were passed were gone through.
use Rattle.std.proofs.Common.{List, [], map, take, reverse}
use Rattle.pcal_tree.specs.Algorithm.{Procedure}
use Rattle.pcal_tree.specs.InMemory.{macro_at}
use Rattle.pcal_tree.specs.OffencesRebind.{macro_rebinds}
use Rattle.declared_rules.specs.Keeping.{Means}
use Rattle.declared_rules.specs.Macros.{macro_names, Ready, MacrosAt}
use Rattle.declared_rules.proofs.bind_walk.Walk.macros.Given as goal

abbrev pub invariant-loop-i : goal.invariant-loop-i
invariant-loop-i l =
    (ps : List Procedure) → Ready l.near l.far l.fn.calls ps (macro_names l.list) → Means l.far l.far.stands l.fn.calls.macros (λ ms. macro_rebinds ms ps [])
    → MacrosAt l.near l.far ps l.fn.self l.self l.fn.calls l.calls (reverse (map (macro_at l.pool) (take l.i l.list)))
