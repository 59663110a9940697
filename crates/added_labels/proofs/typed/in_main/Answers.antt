-- Proves that the labels of what runs are met.
use Rattle.std.proofs.Common.{false, List, sym, ap, ◌∙◌}
use Rattle.std.proofs.lemmas.Result.{on_ok_weaker}
use Rattle.pcal_tree.specs.declared.algorithm.Main.{Main}
use Rattle.pcal_tree.specs.declared.algorithm.Stmt.{Stmt}
use Rattle.pcal_tree.specs.InMemory.{statements_at, main_at}
use Rattle.pcal_tree.specs.OffencesLabels.{labels, labels_of_main}
use Rattle.label_jumps.proofs.MeetLaws.{met_as}
use Rattle.added_labels.proofs.typed.in_main.Goals as goal

pub returns-in-Alone : goal.returns-in-Alone
returns-in-Alone c =
    on_ok_weaker c.body.result (λ h ts.
    met_as c.args.met.now c.body.new.self (labels false (statements_at ts c.deref.result.now)) (labels_of_main (main_at ts c.args.main.now))
    (ap (λ (ss : List Stmt). labels false (statements_at ts ss)) c.deref.ensures.value ∙ ap (λ (m : Main). labels_of_main (main_at ts m)) (sym c.in-Alone.is)) (h ts)) c.body.ensures
