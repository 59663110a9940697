-- Proves that definitions that were read are known, the latest first.
use Rattle.std.proofs.Common.{◌∷◌, length, take, refl, ap, ◌∙◌}
use Rattle.pcal_tree.specs.NameUses.{takes, knowing}
use Rattle.module_outside.specs.declared.definition.ReadDefinition.{ReadDefinition}
use Rattle.declared_rules.proofs.SeenLaws.{read_known, sees_is, latest, latest_next, latest_all, read_latest}
use Rattle.declared_rules.proofs.use_sight.Sight.set_read.Goals as goal

pub loop-definition-init : goal.loop-definition-init
loop-definition-init c = λ s h. h

pub loop-definition-preserved : goal.loop-definition-preserved
loop-definition-preserved c = λ s h.
    let known = latest read_known (take c.loop-definition.definition-index c.args.list.now) s in
    let arity = c.how_many-arity.ensures ∙ ap length c.deref.ensures.value ∙ ap (λ (d : ReadDefinition). length d.params.items) c.definition.view_is in
    latest_next read_known c.set.new.self c.args.list.now c.loop-definition.definition-index c.definition-item.result s c.definition-item.is c.loop-definition-test.true
    (sees_is c.set.new.self _ _ (λ i. knowing (takes (arity i)) (c.definition.view_is i).title.word ∷ known)
    (c.in_ok-set.ensures known (takes c.how_many-arity.result) (c.loop-definition.invariant s h) refl))

pub returns : goal.returns
returns c = λ ts s h.
    sees_is c.loop-definition.self _ _ (read_latest ts c.args.list.now s)
    (latest_all read_known c.loop-definition.self c.args.list.now c.loop-definition.definition-index s c.loop-definition-test.false (c.loop-definition.invariant s h))
