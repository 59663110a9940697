-- Proves that first values are looked at.
use Rattle.name_rules.proofs.RoutineLaws.{declared_then, declared_done}
use Rattle.name_rules.proofs.found.Found.declared.Goals as goal

pub loop-i-init : goal.loop-i-init
loop-i-init c = λ k g. g

pub loop-i-preserved : goal.loop-i-preserved
loop-i-preserved c = λ k g.
    c.loop-i.invariant k (declared_then c.args.pool.now c.loop-i.self c.start.new.self k c.args.list.now c.loop-i.i c.index-list-i.result c.index-list-i.is c.loop-i-test.true c.in_ok-start.ensures g)

pub returns : goal.returns
returns c = c.loop-i.invariant c.loop-i.self (declared_done c.args.pool.now c.loop-i.self c.args.list.now c.loop-i.i c.loop-i-test.false)
