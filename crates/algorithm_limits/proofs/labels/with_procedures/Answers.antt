-- Proves that labels are counted in each of a list.
use Rattle.std.proofs.Common.{List, ap, ◌∙◌}
use Rattle.pcal_tree.specs.declared.algorithm.Stmt.{Stmt}
use Rattle.pcal_tree.specs.InMemory.{statements_at}
use Rattle.algorithm_limits.specs.Counting.{counted}
use Rattle.algorithm_limits.specs.LabelNames.{label_names}
use Rattle.algorithm_limits.specs.LabelsIn.{procedure_labels}
use Rattle.algorithm_limits.proofs.Counts.{counted_more}
use Rattle.algorithm_limits.proofs.labels.with_procedures.Goals as goal

pub loop-procedure-preserved : goal.loop-procedure-preserved
loop-procedure-preserved c = λ ts.
    counted_more (procedure_labels ts) c.args.procedures.now c.loop-procedure.so_far _ c.loop-procedure.procedure-index c.procedure-item.result c.procedure-item.is c.loop-procedure-test.true
    (c.with_statements-so_far.ensures ts ∙ ap (λ (ys : List Stmt). counted c.loop-procedure.so_far (label_names (statements_at ts ys))) c.deref.ensures.value)
    ∙ c.loop-procedure.invariant ts
