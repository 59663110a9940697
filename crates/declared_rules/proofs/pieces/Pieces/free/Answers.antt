-- Proves that a name that is used is gathered, unless it is bound there.
use Rattle.std.proofs.Common.{Bool, [], ◌∷◌, ◌++◌, cond, refl, sym, ap, ◌∙◌, append-nil}
use Rattle.tla_tree.specs.Tree.{Word}
use Rattle.pcal_tree.specs.OffencesRebind.{frees}
use Rattle.declared_rules.specs.declared.pieces.Piece.TheVariants as piece
use Rattle.declared_rules.specs.Gathering.{list_of}
use Rattle.declared_rules.proofs.PieceLaws.{gathers_push}
use Rattle.declared_rules.proofs.pieces.Pieces.free.Goals as goal

pub returns-in_ok-push : goal.returns-in_ok-push
returns-in_ok-push c =
    let ps = list_of c.args.self.now.list.items in
    let x = c.args.name.now in
    record {
      bound = refl;
      meets = λ xs b.
          (gathers_push c.args.self.now (record { list = c.push.new.self; bound = c.args.self.now.bound }) (piece.Frees c.in_ok-copied.field-0) refl c.in_ok-push.ensures.items).meets xs b
          ∙ ap (λ (w : Word). ps ++ frees w ∷ []) c.in_ok-copied.ensures
          ∙ ap (λ (v : Bool). ps ++ cond v [] (frees x ∷ [])) (sym (sym (b x) ∙ sym c.has.ensures ∙ c.if-not-has.true));
    }

pub returns-else-not-has : goal.returns-else-not-has
returns-else-not-has c =
    let ps = list_of c.args.self.now.list.items in
    let x = c.args.name.now in
    record {
      bound = refl;
      meets = λ xs b.
          sym (append-nil ps) ∙ ap (λ (v : Bool). ps ++ cond v [] (frees x ∷ [])) (sym (sym (b x) ∙ sym c.has.ensures ∙ c.if-not-has.false));
    }
