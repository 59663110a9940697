-- Proves that they are looked at.
use Rattle.declared_rules.specs.Titles.{constant_parts}
use Rattle.declared_rules.proofs.JoinLaws.{adds_more, adds_all}
use Rattle.declared_rules.proofs.found.Found.constants.Goals as goal

pub loop-name-preserved : goal.loop-name-preserved
loop-name-preserved c = λ ts.
    adds_more ts constant_parts c.args.names.now c.args.self.now c.loop-name.self c.declares.new.self c.loop-name.name-index c.name-item.result c.name-item.is c.loop-name-test.true (c.loop-name.invariant ts) (c.declares.ensures.adds ts)

pub returns : goal.returns
returns c = λ ts. adds_all ts constant_parts c.args.names.now c.args.self.now c.loop-name.self c.loop-name.name-index c.loop-name-test.false (c.loop-name.invariant ts)
