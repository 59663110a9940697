-- Proves what the expressions of a `with` use.
use Rattle.std.proofs.Common.{◌∙◌}
use Rattle.read_rules.specs.UsesIn.{uses_of}
use Rattle.read_rules.proofs.StepLaws.{binds_then, binds_done}
use Rattle.read_rules.proofs.steps.add_binds.Goals as goal

pub loop-bind-preserved : goal.loop-bind-preserved
loop-bind-preserved c =
    binds_then c.args.pool.now (uses_of c.loop-bind.list.items) (uses_of c.add_bind.new.list.items) c.args.binds.now c.loop-bind.bind-index c.bind-item.result c.bind-item.is c.loop-bind-test.true c.in_ok-add_bind.ensures
    ∙ c.loop-bind.invariant

pub returns : goal.returns
returns c = binds_done c.args.pool.now (uses_of c.loop-bind.list.items) c.args.binds.now c.loop-bind.bind-index c.loop-bind-test.false ∙ c.loop-bind.invariant
