-- Proves that the names of all that a `with` names are met.
use Rattle.read_rules.proofs.BodyLaws.{binds_start, binds_step, binds_done}
use Rattle.read_rules.proofs.used.Used.binds.Goals as goal

pub loop-bind-init : goal.loop-bind-init
loop-bind-init c = binds_start c.args.pool.now c.args.list.now c.args.self.now

pub loop-bind-preserved : goal.loop-bind-preserved
loop-bind-preserved c =
    binds_step c.args.pool.now c.args.list.now c.args.self.now c.loop-bind.self c.bind.new.self c.loop-bind.bind-index c.bind-item.result c.bind-item.is c.loop-bind-test.true c.in_ok-bind.ensures c.loop-bind.invariant

pub returns : goal.returns
returns c = binds_done c.args.pool.now c.args.list.now c.args.self.now c.loop-bind.self c.loop-bind.bind-index c.loop-bind-test.false c.loop-bind.invariant
