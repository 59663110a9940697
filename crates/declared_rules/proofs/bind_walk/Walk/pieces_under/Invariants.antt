-- What is kept: what is left still gives the whole.
use Rattle.std.proofs.Common.{[], ◌∷◌, drop}
use Rattle.std.specs.List.{flat_map}
use Rattle.pcal_tree.specs.OffencesRebind.{naming, rebound_all, any_name, piece_names}
use Rattle.declared_rules.specs.declared.bind_walk.Walk.{Walk}
use Rattle.declared_rules.specs.Telling.{Adds}
use Rattle.declared_rules.specs.Gathering.{list_of}
use Rattle.declared_rules.proofs.bind_walk.Walk.pieces_under.Given as goal

abbrev pub invariant-loop-piece : goal.invariant-loop-piece
invariant-loop-piece l = (k : Walk) → Adds l.sight any_name l.self k (λ ms r. flat_map (λ p. rebound_all ms (naming (l.under ∷ []) []) (flat_map (piece_names r) (list_of (p ∷ [])))) (drop l.piece-index l.list)) → Adds l.sight any_name l.fn.self k (λ ms r. flat_map (λ p. rebound_all ms (naming (l.under ∷ []) []) (flat_map (piece_names r) (list_of (p ∷ [])))) l.list)
