-- Proves that all labels of a body are there.
use Rattle.std.proofs.Common.{List, ◌++◌, ap, ◌∙◌}
use Rattle.tla_tree.specs.Tree.{Word}
use Rattle.pcal_tree.specs.InMemory.{statements_at}
use Rattle.written_names.proofs.UnitWalks.{labels_are}
use Rattle.module_formulas.proofs.LabelLists.{label_words}
use Rattle.module_formulas.proofs.labels.label_words.Goals as goal

pub returns : goal.returns
returns c = λ ts.
    let body = statements_at ts c.args.body.now in
    c.in_ok-add_statements.ensures ts ∙ ap (λ (l : List Word). l ++ label_words body) c.new-labels.ensures ∙ labels_are body
