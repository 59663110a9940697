-- Proves that a name that is bound is looked at.
use Rattle.std.proofs.lemmas.Result.{on_ok_weaker}
use Rattle.std.proofs.Common.{sym, ◌∙◌, subst}
use Rattle.tla_tree.specs.Tree.{Name}
use Rattle.pcal_tree.specs.OffencesRebind.{rebound}
use Rattle.declared_rules.specs.Telling.{Gains, Adds}
use Rattle.declared_rules.proofs.LeafLaws.{name_adds}
use Rattle.declared_rules.proofs.bind_walk.Walk.name.Goals as goal

pub returns-then-is_told : goal.returns-then-is_told
returns-then-is_told c = λ K.
    let g = c.args.sight.now in
    let k = c.offence.new.self in
    let n : Name = record { word = c.name.inside.name; place = c.name.inside.place } in
    subst (λ (n : Name). Adds g K c.args.self.now k (λ ms r. rebound ms r n)) c.name.view_is
    (name_adds g K c.args.self.now k k n c.has-bound.result c.rebinds.result c.has-bound.ensures c.rebinds.ensures c.offence.ensures
    (subst (λ (m : Name). Gains k k (λ ms s. rebound ms s m)) (sym c.name.view_is) (c.is_told.ensures.tells c.if-is_told.true)))

pub returns : goal.returns
returns c =
    on_ok_weaker c.keep.result
    (λ a K.
    let g = c.args.sight.now in
    let n : Name = record { word = c.name.inside.name; place = c.name.inside.place } in
    subst (λ (n : Name). Adds g K c.args.self.now c.keep.new.self (λ ms r. rebound ms r n)) c.name.view_is
    (name_adds g K c.args.self.now c.offence.new.self c.keep.new.self n c.has-bound.result c.rebinds.result c.has-bound.ensures c.rebinds.ensures c.offence.ensures
    (subst (λ (m : Name). Gains c.offence.new.self c.keep.new.self (λ ms s. rebound ms s m)) (c.in_ok-copied.ensures ∙ sym c.name.view_is) a))) c.keep.ensures
