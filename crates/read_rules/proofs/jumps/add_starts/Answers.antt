-- Proves that the names of initial values are met.
use Rattle.read_rules.proofs.JumpLaws.{starts_then, starts_done}
use Rattle.read_rules.proofs.jumps.add_starts.Goals as goal

pub loop-i-init : goal.loop-i-init
loop-i-init c = λ k g. g

pub loop-i-preserved : goal.loop-i-preserved
loop-i-preserved c = λ k g.
    c.loop-i.invariant k
    (starts_then c.args.pool.now c.loop-i.used c.add_start.new.used k c.args.list.now c.loop-i.i c.index-list-i.result c.index-list-i.is c.loop-i-test.true
    c.in_ok-add_start.ensures g)

pub returns : goal.returns
returns c = c.loop-i.invariant c.loop-i.used (starts_done c.args.pool.now c.loop-i.used c.args.list.now c.loop-i.i c.loop-i-test.false)
