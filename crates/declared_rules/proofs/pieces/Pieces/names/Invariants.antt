-- What is kept: what is left still gives the whole.
use Rattle.std.proofs.Common.{[], ◌∷◌, drop}
use Rattle.std.specs.List.{flat_map}
use Rattle.pcal_tree.specs.OffencesRebind.{binds}
use Rattle.declared_rules.specs.declared.pieces.Pieces.{Pieces}
use Rattle.declared_rules.specs.Gathering.{Gathers}
use Rattle.declared_rules.proofs.pieces.Pieces.names.Given as goal

abbrev pub invariant-loop-name : goal.invariant-loop-name
invariant-loop-name l = (k : Pieces) → Gathers l.self k (λ xs. flat_map (λ n. binds n ∷ []) (drop l.name-index l.names)) → Gathers l.fn.self k (λ xs. flat_map (λ n. binds n ∷ []) l.names)
