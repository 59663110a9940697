-- Proves that the first label that is missing in what runs is found.
use Rattle.std.proofs.Common.{List, sym, ap, ◌∙◌}
use Rattle.pcal_tree.specs.declared.algorithm.Main.{Main}
use Rattle.pcal_tree.specs.declared.algorithm.Stmt.{Stmt}
use Rattle.pcal_tree.specs.InMemory.{statements_at, main_at}
use Rattle.pcal_tree.specs.Offences.{first}
use Rattle.algorithm_answer.specs.Joined.{joined}
use Rattle.label_steps.specs.MissingLabels.{due_in_body, due_in_main}
use Rattle.label_steps.proofs.due.with_main.Goals as goal

pub returns-in-Alone : goal.returns-in-Alone
returns-in-Alone c = λ ts.
    c.with_body.ensures ts ∙ ap (λ (ss : List Stmt). joined c.args.found (first (due_in_body (statements_at ts ss)))) c.deref.ensures.value
    ∙ ap (λ (m : Main). joined c.args.found (first (due_in_main (main_at ts m)))) (sym c.in-Alone.is)
