-- Proves that labels are counted in each of a list.
use Rattle.std.proofs.Common.{List, ap, ◌∙◌}
use Rattle.pcal_tree.specs.declared.algorithm.Stmt.{Stmt}
use Rattle.pcal_tree.specs.InMemory.{statements_at}
use Rattle.algorithm_limits.specs.Counting.{counted}
use Rattle.algorithm_limits.specs.LabelNames.{label_names}
use Rattle.algorithm_limits.specs.LabelsIn.{macro_labels}
use Rattle.algorithm_limits.proofs.Counts.{counted_more}
use Rattle.algorithm_limits.proofs.labels.with_macros.Goals as goal

pub loop-one-preserved : goal.loop-one-preserved
loop-one-preserved c = λ ts.
    counted_more (macro_labels ts) c.args.macros.now c.loop-one.so_far _ c.loop-one.one-index c.one-item.result c.one-item.is c.loop-one-test.true
    (c.with_statements-so_far.ensures ts ∙ ap (λ (ys : List Stmt). counted c.loop-one.so_far (label_names (statements_at ts ys))) c.deref.ensures.value)
    ∙ c.loop-one.invariant ts
