-- Proves that all that is misplaced in what runs is found.
use Rattle.std.proofs.Common.{◌++◌, false, List, sym, ap, ◌∙◌}
use Rattle.pcal_tree.specs.declared.algorithm.Main.{Main}
use Rattle.pcal_tree.specs.declared.algorithm.Stmt.{Stmt}
use Rattle.pcal_tree.specs.InMemory.{statements_at, main_at}
use Rattle.pcal_tree.specs.OffencesLabels.{misplaced}
use Rattle.label_jumps.specs.Parted.{misplaced_in_main}
use Rattle.label_rules.proofs.bodies.of_main.Goals as goal

pub returns-in_ok-of_body-in-Alone : goal.returns-in_ok-of_body-in-Alone
returns-in_ok-of_body-in-Alone c = λ ts.
    c.in_ok-of_body-in-Alone.ensures ts
    ∙ ap (λ (ss : List Stmt). c.args.found.now.items ++ misplaced false false (statements_at ts ss)) c.deref.ensures.value
    ∙ ap (λ (m : Main). c.args.found.now.items ++ misplaced_in_main (main_at ts m)) (sym c.in-Alone.is)
