-- Proves that these units are put in, one after another, and the rest stays.
use Rattle.std.proofs.Common.{map, ap, ◌∙◌}
use Rattle.std.proofs.lemmas.Result.{on_ok_weaker}
use Rattle.module_tree.specs.Module as tree
use Rattle.pcal_tree.specs.Program.{inner}
use Rattle.pcal_tree.specs.Variables.{vars}
use Rattle.module_builder.proofs.region.add_declarations.Goals as goal

pub returns-clause-made : goal.returns-clause-made
returns-clause-made c =
    on_ok_weaker c.add_vars.result (λ h ts P d.
    h ts P d
    ∙ ap (λ (R : tree.Region). record R { vars = vars P })
    (c.in_ok-add_definitions.ensures.made ts P d
    ∙ ap (λ (R : tree.Region). record R { definitions = map inner P.algorithm.definitions })
    (c.in_ok-add_variables.ensures.made ts P d ∙ ap (λ (R : tree.Region). record R { variables = vars P }) (c.in_ok-add_model_values.ensures.made ts P d))))
    c.add_vars.ensures.made

pub returns-clause-within : goal.returns-clause-within
returns-clause-within c =
    on_ok_weaker c.add_vars.result (λ h m past old. h m (c.in_ok-add_definitions.ensures.within m past (c.in_ok-add_variables.ensures.within m (c.in_ok-add_model_values.ensures.within m old))))
    c.add_vars.ensures.within
