-- Proves that all that a `with` names is looked at.
use Rattle.declared_rules.specs.Parts.{bind_parts}
use Rattle.declared_rules.proofs.WalkLaws.{adds_more, adds_all}
use Rattle.declared_rules.proofs.walk.Walked.binds.Goals as goal

pub loop-bind-preserved : goal.loop-bind-preserved
loop-bind-preserved c = λ ts.
    adds_more ts (bind_parts ts) c.args.list.now c.args.self.now c.loop-bind.self c.bind.new.self c.loop-bind.bind-index c.bind-item.result c.bind-item.is c.loop-bind-test.true (c.loop-bind.invariant ts) (c.bind.ensures ts)

pub returns : goal.returns
returns c = λ ts. adds_all ts (bind_parts ts) c.args.list.now c.args.self.now c.loop-bind.self c.loop-bind.bind-index c.loop-bind-test.false (c.loop-bind.invariant ts)
