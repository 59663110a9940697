-- What is kept: what is left still gives the whole.
use Rattle.std.proofs.Common.{drop, map}
use Rattle.std.specs.List.{flat_map}
use Rattle.pcal_tree.specs.OffencesRebind.{binds}
use Rattle.declared_rules.specs.declared.pieces.Pieces.{Pieces}
use Rattle.declared_rules.specs.Gathering.{Gathers}
use Rattle.declared_rules.proofs.pieces.Pieces.groups.Given as goal

abbrev pub invariant-loop-i : goal.invariant-loop-i
invariant-loop-i l = (k : Pieces) → Gathers l.self k (λ xs. flat_map (λ g. map binds g.items) (drop l.i l.groups)) → Gathers l.fn.self k (λ xs. flat_map (λ g. map binds g.items) l.groups)
