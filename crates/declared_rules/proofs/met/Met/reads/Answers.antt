-- Proves that the names that definitions outside bind are added.
use Rattle.std.proofs.Common.{arith}
use Rattle.declared_rules.specs.Met.{words_within}
use Rattle.declared_rules.proofs.MetWalks.{adds_more, adds_all}
use Rattle.declared_rules.proofs.met.Met.reads.Goals as goal

pub loop-definition-preserved : goal.loop-definition-preserved
loop-definition-preserved c = λ ts l.
    adds_more ts (words_within ts) c.args.list.now c.args.self.now c.loop-definition.self c.read.new.self c.loop-definition.definition-index c.definition-item.result c.definition-item.is c.loop-definition-test.true (c.loop-definition.invariant ts l)
    (c.in_ok-read.ensures ts (omega (arith, l, (c.loop-definition.invariant ts l).many)))

pub returns : goal.returns
returns c = λ ts l. adds_all ts (words_within ts) c.args.list.now c.args.self.now c.loop-definition.self c.loop-definition.definition-index c.loop-definition-test.false (c.loop-definition.invariant ts l)
