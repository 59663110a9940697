-- Proves that the lines of one routine more are added.
use Rattle.std.proofs.Common.{List, ◌++◌, ap, ◌∙◌}
use Rattle.pcal_tree.specs.declared.algorithm.Stmt.{Stmt}
use Rattle.pcal_tree.specs.Algorithm.{procedure_routine}
use Rattle.pcal_tree.specs.InMemory.{statements_at, procedure_at}
use Rattle.source_map.specs.Lines.{Line, lines_of_unit}
use Rattle.written_names.specs.Units.{naming_of}
use Rattle.label_lines.specs.Found.{lines_seen, unit_lines}
use Rattle.label_lines.proofs.LineLaws.{unit_is, unit_more}
use Rattle.label_lines.proofs.lines.of_procedures.Goals as goal

pub loop-procedure-preserved : goal.loop-procedure-preserved
loop-procedure-preserved c = λ ts.
    unit_more (lines_of_unit (naming_of c.args.naming.now)) procedure_routine (procedure_at ts) c.args.list.now
    c.loop-procedure.procedure-index c.loop-procedure.number c.in_ok-number.number c.procedure-item.result c.procedure-item.is c.loop-procedure-test.true c.in_ok-number.ensures c.loop-procedure.into.items c.statements.new.into.items _
    (c.in_ok-statements.ensures ts
    ∙ ap (λ (ls : List Line). lines_seen c.loop-procedure.into.items ++ ls)
    (ap (λ (ys : List Stmt). unit_lines (naming_of c.args.naming.now) c.in_ok-unit.unit (statements_at ts ys)) c.deref.ensures.value
    ∙ unit_is (naming_of c.args.naming.now) c.in_ok-unit.unit c.loop-procedure.number (statements_at ts c.procedure-item.result.body.items) c.in_ok-unit.ensures.0 c.in_ok-unit.ensures.1))
    (c.loop-procedure.invariant ts)
