-- Proves that the first of what is misplaced in what runs is found.
use Rattle.std.proofs.Common.{false, List, sym, ap, ◌∙◌}
use Rattle.std.proofs.lemmas.Result.{IfOk-weaker}
use Rattle.pcal_tree.specs.declared.algorithm.Main.{Main}
use Rattle.pcal_tree.specs.declared.algorithm.Stmt.{Stmt}
use Rattle.pcal_tree.specs.InMemory.{statements_at, main_at}
use Rattle.pcal_tree.specs.Offences.{first}
use Rattle.pcal_tree.specs.OffencesLabels.{misplaced}
use Rattle.algorithm_answer.specs.Joined.{joined}
use Rattle.label_jumps.specs.Parted.{misplaced_in_main}
use Rattle.label_jumps.proofs.bodies.with_main.Goals as goal

pub returns-in-Alone : goal.returns-in-Alone
returns-in-Alone c =
    IfOk-weaker c.with_body.result _ _ (λ r h ts.
    h ts ∙ ap (λ (ss : List Stmt). joined c.args.found (first (misplaced false false (statements_at ts ss)))) c.deref.ensures.value
    ∙ ap (λ (m : Main). joined c.args.found (first (misplaced_in_main (main_at ts m)))) (sym c.in-Alone.is))
    c.with_body.ensures
