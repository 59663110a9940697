-- Proves that names are gathered.
use Rattle.std.proofs.Common.{[], ◌∷◌, refl, subst, List}
use Rattle.tla_tree.specs.Tree.{Name, Word}
use Rattle.pcal_tree.specs.OffencesRebind.{binds}
use Rattle.declared_rules.specs.declared.pieces.Piece.TheVariants as piece
use Rattle.declared_rules.specs.declared.pieces.Pieces.{Pieces}
use Rattle.declared_rules.specs.Gathering.{Gathers}
use Rattle.declared_rules.proofs.PieceLaws.{gathers_as, gathers_push, list_then, list_done, each_name}
use Rattle.declared_rules.proofs.pieces.Pieces.names.Goals as goal

pub loop-name-init : goal.loop-name-init
loop-name-init c = λ k g. g

pub loop-name-preserved : goal.loop-name-preserved
loop-name-preserved c = λ k g.
    let next : Pieces = record { list = c.push.new.self; bound = c.loop-name.self.bound } in
    c.loop-name.invariant k
    (list_then (λ (n : Name) (xs : List Word). binds n ∷ []) c.loop-name.self next k c.args.names.now c.loop-name.name-index c.name-item.result c.name-item.is c.loop-name-test.true
    (subst (λ (n : Name). Gathers c.loop-name.self next (λ xs. binds n ∷ [])) c.in_ok-copied.ensures (gathers_push c.loop-name.self next (piece.Binds c.in_ok-copied.field-0) refl c.in_ok-push.ensures.items)) g)

pub returns : goal.returns
returns c =
    gathers_as c.args.self.now c.loop-name.self _ _ (λ xs. each_name c.args.names.now)
    (c.loop-name.invariant c.loop-name.self (list_done (λ (n : Name) (xs : List Word). binds n ∷ []) c.loop-name.self c.args.names.now c.loop-name.name-index c.loop-name-test.false))
