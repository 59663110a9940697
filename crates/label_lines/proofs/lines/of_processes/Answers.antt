-- Proves that the lines of one routine more are added.
use Rattle.std.proofs.Common.{List, ◌++◌, ap, ◌∙◌}
use Rattle.pcal_tree.specs.declared.algorithm.Stmt.{Stmt}
use Rattle.pcal_tree.specs.Algorithm.{process_routine}
use Rattle.pcal_tree.specs.InMemory.{statements_at, process_at}
use Rattle.source_map.specs.Lines.{Line, lines_of_unit}
use Rattle.written_names.specs.Units.{naming_of}
use Rattle.label_lines.specs.Found.{lines_seen, unit_lines}
use Rattle.label_lines.proofs.LineLaws.{unit_is, unit_more}
use Rattle.label_lines.proofs.lines.of_processes.Goals as goal

pub loop-process-preserved : goal.loop-process-preserved
loop-process-preserved c = λ ts.
    unit_more (lines_of_unit (naming_of c.args.naming.now)) process_routine (process_at ts) c.args.list.now
    c.loop-process.process-index c.loop-process.number c.in_ok-number.number c.process-item.result c.process-item.is c.loop-process-test.true c.in_ok-number.ensures c.loop-process.into.items c.statements.new.into.items _
    (c.in_ok-statements.ensures ts
    ∙ ap (λ (ls : List Line). lines_seen c.loop-process.into.items ++ ls)
    (ap (λ (ys : List Stmt). unit_lines (naming_of c.args.naming.now) c.in_ok-unit.unit (statements_at ts ys)) c.deref.ensures.value
    ∙ unit_is (naming_of c.args.naming.now) c.in_ok-unit.unit c.loop-process.number (statements_at ts c.process-item.result.body.items) c.in_ok-unit.ensures.0 c.in_ok-unit.ensures.1))
    (c.loop-process.invariant ts)
