-- Proves that the first label is given as a string.
use Rattle.std.proofs.Common.{ap, ◌∙◌}
use Rattle.std.proofs.lemmas.Result.{IfOk-weaker}
use Rattle.module_tree.specs.Formulas.{quoted}
use Rattle.module_formulas.proofs.init.first_pc.Goals as goal

pub returns-clause-tree : goal.returns-clause-tree
returns-clause-tree c =
    IfOk-weaker c.string_of.result _ _ (λ r h ts P u same number body exit. h ∙ ap quoted (c.bytes.ensures ∙ c.in_ok-label.ensures ts P u same number body exit)) c.string_of.ensures.tree
