-- Proves that they are looked at.
use Rattle.declared_rules.specs.Titles.{read_parts}
use Rattle.declared_rules.proofs.JoinLaws.{adds_more, adds_all}
use Rattle.declared_rules.proofs.found.Found.read_titles.Goals as goal

pub loop-definition-preserved : goal.loop-definition-preserved
loop-definition-preserved c = λ ts.
    adds_more ts read_parts c.args.list.now c.args.self.now c.loop-definition.self c.declares.new.self c.loop-definition.definition-index c.definition-item.result c.definition-item.is c.loop-definition-test.true (c.loop-definition.invariant ts) (c.declares.ensures.adds ts)

pub returns : goal.returns
returns c = λ ts. adds_all ts read_parts c.args.list.now c.args.self.now c.loop-definition.self c.loop-definition.definition-index c.loop-definition-test.false (c.loop-definition.invariant ts)
