-- Proves that all uses that are kept of a macro are looked at where it is called.
use Rattle.name_rules.proofs.CallLaws.{called_then, called_done}
use Rattle.name_rules.proofs.found.Found.all_called.Goals as goal

pub loop-i-init : goal.loop-i-init
loop-i-init c = λ k g. g

pub loop-i-preserved : goal.loop-i-preserved
loop-i-preserved c = λ k g.
    c.loop-i.invariant k (called_then c.args.pool.now c.args.es.now c.args.params.now c.loop-i.self c.called.new.self k c.args.uses.now c.loop-i.i c.index-uses-i.result c.index-uses-i.is c.loop-i-test.true c.in_ok-called.ensures g)

pub returns : goal.returns
returns c = c.loop-i.invariant c.loop-i.self (called_done c.args.pool.now c.args.es.now c.args.params.now c.loop-i.self c.args.uses.now c.loop-i.i c.loop-i-test.false)
