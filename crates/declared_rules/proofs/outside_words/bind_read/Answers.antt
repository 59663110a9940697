-- Proves that the names of definitions are bound.
use Rattle.std.proofs.Common.{[], ◌∷◌, subst}
use Rattle.algorithm_limits.specs.DepthsIn.{Hides}
use Rattle.algorithm_limits.proofs.BoundLemmas.{hides_as}
use Rattle.module_outside.specs.declared.definition.ReadDefinition.{ReadDefinition}
use Rattle.declared_rules.proofs.OutsideLaws.{hides_more, hides_all, each_word}
use Rattle.declared_rules.proofs.outside_words.bind_read.Goals as goal

pub loop-definition-preserved : goal.loop-definition-preserved
loop-definition-preserved c =
    hides_more (λ (d : ReadDefinition). d.title.word ∷ []) c.args.list.now c.args.bound.now c.loop-definition.bound c.add.new.self c.loop-definition.definition-index c.definition-item.result c.definition-item.is
    c.loop-definition-test.true c.loop-definition.invariant (subst (λ (d : ReadDefinition). Hides c.loop-definition.bound c.add.new.self (d.title.word ∷ [])) c.definition.view_is c.in_ok-add.ensures)

pub returns : goal.returns
returns c =
    hides_as c.args.bound.now c.loop-definition.bound _ _ (each_word (λ (d : ReadDefinition). d.title.word) c.args.list.now)
    (hides_all (λ (d : ReadDefinition). d.title.word ∷ []) c.args.list.now c.args.bound.now c.loop-definition.bound c.loop-definition.definition-index c.loop-definition-test.false c.loop-definition.invariant)
