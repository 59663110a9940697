-- Proves that the rows are those of all procedures.
use Rattle.std.proofs.Common.{List, map, take, take_all, sym, ap, ◌∙◌}
use Rattle.pcal_tree.specs.Algorithm.{Procedure}
use Rattle.pcal_tree.specs.declared.algorithm.Procedure as declared
use Rattle.pcal_tree.specs.InMemory.{procedure_at}
use Rattle.fairness_lines.specs.Tables.{rows_of}
use Rattle.fairness_lines.proofs.TableRows.{map_taken}
use Rattle.fairness_lines.proofs.table.add_procedures.Goals as goal

pub loop-procedure-preserved : goal.loop-procedure-preserved
loop-procedure-preserved c = (
  c.in_ok-add_procedure.ensures.long ∙ c.loop-procedure.invariant.0,
  λ ts e.
      c.in_ok-add_procedure.ensures.rows ts (map (procedure_at ts) (take c.loop-procedure.procedure-index c.args.procedures.now)) (c.loop-procedure.invariant.1 ts e)
      ∙ ap (λ (ps : List Procedure). rows_of c.args.names.now ps)
      (sym (map_taken (procedure_at ts) c.args.procedures.now c.loop-procedure.procedure-index c.procedure-item.result c.procedure-item.is c.loop-procedure-test.true)),
)

pub returns : goal.returns
returns c = λ ts e.
    c.loop-procedure.invariant.1 ts e
    ∙ ap (λ (ps : List declared.Procedure). rows_of c.args.names.now (map (procedure_at ts) ps)) (take_all c.loop-procedure.procedure-index c.args.procedures.now c.loop-procedure-test.false)
