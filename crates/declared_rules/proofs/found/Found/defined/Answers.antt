-- Proves that their names are looked at.
use Rattle.std.proofs.Common.{[], ◌∷◌}
use Rattle.pcal_tree.specs.declared.algorithm.Definition.{Definition}
use Rattle.declared_rules.proofs.NameLaws.{names_as, names_more, names_all, one_each}
use Rattle.declared_rules.proofs.found.Found.defined.Goals as goal

pub loop-definition-preserved : goal.loop-definition-preserved
loop-definition-preserved c =
    names_more (λ (d : Definition). d.name ∷ []) c.args.list.now c.args.self.now c.loop-definition.self c.once.new.self c.loop-definition.definition-index c.definition-item.result c.definition-item.is c.loop-definition-test.true
    c.loop-definition.invariant c.in_ok-once.ensures

pub returns : goal.returns
returns c =
    names_as c.args.self.now c.loop-definition.self _ _ (one_each (λ (d : Definition). d.name) c.args.list.now)
    (names_all (λ (d : Definition). d.name ∷ []) c.args.list.now c.args.self.now c.loop-definition.self c.loop-definition.definition-index c.loop-definition-test.false c.loop-definition.invariant)
