-- Proves that the names of procedures are added.
use Rattle.std.proofs.Common.{ap}
use Rattle.algorithm_limits.proofs.BoundLemmas.{hides_then, hides_as}
use Rattle.read_rules.specs.NumbersIn.{declared_in}
use Rattle.read_rules.specs.Locals.{procedure_words}
use Rattle.read_rules.proofs.LocalLaws.{hides_more, hides_all}
use Rattle.read_rules.proofs.locals.add_procedures.Goals as goal

pub loop-procedure-preserved : goal.loop-procedure-preserved
loop-procedure-preserved c =
    hides_more procedure_words c.args.names.now c.loop-procedure.names c.add_declared-in-loop-procedure.new.names c.args.procedures.now c.loop-procedure.procedure-index c.procedure-item.result c.procedure-item.is c.loop-procedure-test.true c.loop-procedure.invariant
    (hides_then c.loop-procedure.names c.add_declared.new.names c.add_declared-in-loop-procedure.new.names _ _ (hides_as c.loop-procedure.names c.add_declared.new.names _ _ (ap declared_in c.deref.ensures.value) c.in_ok-add_declared.ensures)
    (hides_as c.add_declared.new.names c.add_declared-in-loop-procedure.new.names _ _ (ap declared_in c.deref-in-loop-procedure.ensures.value) c.in_ok-add_declared-2.ensures))

pub returns : goal.returns
returns c = hides_all procedure_words c.args.names.now c.loop-procedure.names c.args.procedures.now c.loop-procedure.procedure-index c.loop-procedure-test.false c.loop-procedure.invariant
