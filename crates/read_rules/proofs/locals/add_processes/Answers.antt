-- Proves that the names of processes are added.
use Rattle.std.proofs.Common.{ap}
use Rattle.algorithm_limits.proofs.BoundLemmas.{hides_as}
use Rattle.read_rules.specs.NumbersIn.{declared_in}
use Rattle.read_rules.specs.Locals.{process_words}
use Rattle.read_rules.proofs.LocalLaws.{hides_more, hides_all}
use Rattle.read_rules.proofs.locals.add_processes.Goals as goal

pub loop-process-preserved : goal.loop-process-preserved
loop-process-preserved c =
    hides_more process_words c.args.names.now c.loop-process.names c.add_declared.new.names c.args.processes.now c.loop-process.process-index c.process-item.result c.process-item.is c.loop-process-test.true c.loop-process.invariant
    (hides_as c.loop-process.names c.add_declared.new.names _ _ (ap declared_in c.deref.ensures.value) c.in_ok-add_declared.ensures)

pub returns : goal.returns
returns c = hides_all process_words c.args.names.now c.loop-process.names c.args.processes.now c.loop-process.process-index c.loop-process-test.false c.loop-process.invariant
