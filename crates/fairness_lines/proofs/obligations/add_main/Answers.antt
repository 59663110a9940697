-- Proves that the labels of the one body are listed.
use Rattle.std.proofs.Common.{◌++◌, List, sym, ap, ◌∙◌, append-nil}
use Rattle.std.proofs.lemmas.Result.{on_ok_weaker}
use Rattle.tla_tree.specs.Tree.{Word}
use Rattle.pcal_tree.specs.declared.algorithm.Main.{Main}
use Rattle.pcal_tree.specs.Algorithm.{main_routines}
use Rattle.pcal_tree.specs.InMemory.{statements_at, main_at}
use Rattle.written_names.specs.Units.{naming_of}
use Rattle.marked_labels.specs.declared.labels.Wanted.TheVariants.{All}
use Rattle.marked_labels.specs.Wanted.{labels_of}
use Rattle.fairness_lines.specs.LinesOf.{every_in}
use Rattle.fairness_lines.proofs.obligations.add_main.Goals as goal

pub returns-in-Alone : goal.returns-in-Alone
returns-in-Alone c =
    on_ok_weaker c.statements.result (λ h ts a e.
    let f = naming_of c.args.draft.now.naming.now in
    h ts
    ∙ (λ i. c.args.into.now ++ labels_of f (sym e i) All (statements_at ts (c.deref.ensures.value i)))
    ∙ ap (λ (xs : List Word). c.args.into.now ++ xs) (sym (append-nil _))
    ∙ ap (λ (m : Main). c.args.into.now ++ every_in f (main_routines a (main_at ts m))) (sym c.in-Alone.is))
    c.statements.ensures
