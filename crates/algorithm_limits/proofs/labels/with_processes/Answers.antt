-- Proves that labels are counted in each of a list.
use Rattle.std.proofs.Common.{List, ap, ◌∙◌}
use Rattle.pcal_tree.specs.declared.algorithm.Stmt.{Stmt}
use Rattle.pcal_tree.specs.InMemory.{statements_at}
use Rattle.algorithm_limits.specs.Counting.{counted}
use Rattle.algorithm_limits.specs.LabelNames.{label_names}
use Rattle.algorithm_limits.specs.LabelsIn.{process_labels}
use Rattle.algorithm_limits.proofs.Counts.{counted_more}
use Rattle.algorithm_limits.proofs.labels.with_processes.Goals as goal

pub loop-process-preserved : goal.loop-process-preserved
loop-process-preserved c = λ ts.
    counted_more (process_labels ts) c.args.processes.now c.loop-process.so_far _ c.loop-process.process-index c.process-item.result c.process-item.is c.loop-process-test.true
    (c.with_statements-so_far.ensures ts ∙ ap (λ (ys : List Stmt). counted c.loop-process.so_far (label_names (statements_at ts ys))) c.deref.ensures.value)
    ∙ c.loop-process.invariant ts
