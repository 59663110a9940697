-- Proves that all that an argument brings is looked at.
use Rattle.std.proofs.Common.{[], ◌∷◌, sym, subst}
use Rattle.std.specs.List.{flat_map}
use Rattle.pcal_tree.specs.OffencesRebind.{rebound_all, any_name, piece_names}
use Rattle.declared_rules.specs.declared.pieces.Piece.{Piece}
use Rattle.declared_rules.specs.Gathering.{list_of}
use Rattle.declared_rules.specs.declared.bind_walk.Walk.{Walk}
use Rattle.declared_rules.specs.Telling.{Adds}
use Rattle.declared_rules.proofs.TellLaws.{adds_as, list_then, list_done}
use Rattle.declared_rules.proofs.PutLaws.{each_piece, one_bound, one_free}
use Rattle.declared_rules.proofs.bind_walk.Walk.pieces.Goals as goal
use Rattle.declared_rules.proofs.bind_walk.Walk.pieces.Goals.{in-Binds+in_ok-name-in-Binds, in-Frees+in_ok-standing-in-Frees}

pub loop-piece-init : goal.loop-piece-init
loop-piece-init c = λ k g. g

pub loop-piece-preserved : goal.loop-piece-preserved
loop-piece-preserved c = λ k g.
    let s = c.args.sight.now in
    let old = c.loop-piece.self in
    c.loop-piece.invariant k
    (list_then s any_name (λ (p : Piece) ms r. rebound_all ms r (flat_map (piece_names r) (list_of (p ∷ [])))) old c.match-piece.self k c.args.list.now c.loop-piece.piece-index c.piece-item.result c.piece-item.is c.loop-piece-test.true
    (elim c.match-piece.branch [
      | in-Binds+in_ok-name-in-Binds w ↦
          subst (λ (new : Walk). Adds s any_name old new (λ ms r. rebound_all ms r (flat_map (piece_names r) (list_of (c.piece-item.result ∷ []))))) (sym w.self-is)
          (subst (λ (p : Piece). Adds s any_name old w.name.new.self (λ ms r. rebound_all ms r (flat_map (piece_names r) (list_of (p ∷ []))))) (sym w.in-Binds.is)
          (adds_as s any_name old w.name.new.self _ _ (λ ms r. one_bound ms r w.in-Binds.name) (w.in_ok-name-in-Binds.ensures any_name)))
      | in-Frees+in_ok-standing-in-Frees w ↦
          subst (λ (new : Walk). Adds s any_name old new (λ ms r. rebound_all ms r (flat_map (piece_names r) (list_of (c.piece-item.result ∷ []))))) (sym w.self-is)
          (subst (λ (p : Piece). Adds s any_name old w.standing.new.self (λ ms r. rebound_all ms r (flat_map (piece_names r) (list_of (p ∷ []))))) (sym w.in-Frees.is)
          (adds_as s any_name old w.standing.new.self _ _ (λ ms r. one_free ms r r w.in-Frees.name) (w.in_ok-standing-in-Frees.ensures any_name)))
    ]) g)

pub returns : goal.returns
returns c =
    adds_as c.args.sight.now any_name c.args.self.now c.loop-piece.self _ _ (λ ms r. each_piece ms r r c.args.list.now)
    (c.loop-piece.invariant c.loop-piece.self (list_done c.args.sight.now any_name (λ (p : Piece) ms r. rebound_all ms r (flat_map (piece_names r) (list_of (p ∷ [])))) c.loop-piece.self c.args.list.now c.loop-piece.piece-index c.loop-piece-test.false))
