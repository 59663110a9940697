-- Proves that the first label is given by its written name.
use Rattle.std.proofs.Common.{sym, ap, ◌∙◌}
use Rattle.std.proofs.lemmas.Result.{IfOk-weaker}
use Rattle.tla_tree.specs.Tree.{Word}
use Rattle.pcal_tree.specs.Run.{label_of}
use Rattle.pcal_tree.specs.Calls.{label_name}
use Rattle.draft.proofs.draft.Draft.first_label.Goals as goal

pub returns : goal.returns
returns c =
    IfOk-weaker c.copied.result _ _ (λ r h ts P u same number body exit.
    h ∙ c.label_name.ensures P u same number
    ∙ ap (λ (l : Word). label_name P u l) (c.in_ok-label.ensures ts ∙ (λ i. label_of (sym body i) (sym exit i))))
    c.copied.ensures
