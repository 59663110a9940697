-- Proves that labels are counted in what runs.
use Rattle.std.proofs.Common.{List, sym, ap, ◌∙◌}
use Rattle.pcal_tree.specs.declared.algorithm.Stmt.{Stmt}
use Rattle.pcal_tree.specs.declared.algorithm.Main.{Main}
use Rattle.pcal_tree.specs.InMemory.{statements_at}
use Rattle.algorithm_limits.specs.Counting.{counted}
use Rattle.algorithm_limits.specs.LabelNames.{label_names}
use Rattle.algorithm_limits.specs.LabelsIn.{main_labels}
use Rattle.algorithm_limits.proofs.labels.with_main.Goals as goal

pub returns-in-Alone : goal.returns-in-Alone
returns-in-Alone c = λ ts.
    c.with_statements.ensures ts
    ∙ ap (λ (ys : List Stmt). counted c.args.count (label_names (statements_at ts ys))) c.deref.ensures.value
    ∙ ap (λ (m : Main). counted c.args.count (main_labels ts m)) (sym c.in-Alone.is)
