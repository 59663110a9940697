-- Proves that all that a body offends is found.
use Rattle.std.proofs.Common.{◌++◌, false, Some, ap, ◌∙◌}
use Rattle.std.proofs.lemmas.Result.{on_ok_weaker}
use Rattle.tla_token.specs.declared.rule.Rule.TheVariants.{FirstLabel}
use Rattle.pcal_tree.specs.InMemory.{statements_at}
use Rattle.pcal_tree.specs.OffencesLabels.{misplaced}
use Rattle.pcal_tree.specs.OffencesSteps.{at_first, step_offences, missing_in_body}
use Rattle.pcal_tree.specs.Paths.{Effects}
use Rattle.label_steps.specs.AroundIn.{effects_around}
use Rattle.added_labels.proofs.SightLaws.{effects_there}
use Rattle.label_rules.proofs.AddedLaws.{added_then}
use Rattle.label_rules.proofs.all.add_body.Goals as goal

pub returns : goal.returns
returns c =
    on_ok_weaker c.of_body.result (λ h ms k.
    let b = statements_at c.args.pool.now c.args.stmts.now in
    added_then c.args.found.now.items c.add_missing.new.found.items c.of_body.new.found.items (missing_in_body (effects_around c.args.place.now.around ms) b) (misplaced false c.args.in_procedure b)
    (c.in_ok-add_missing.ensures ms k ∙ ap (λ (E : Effects). c.args.found.now.items ++ step_offences E (at_first (Some FirstLabel)) b) (effects_there c.args.place.now ms c.requires.loud))
    (h c.args.pool.now)) c.of_body.ensures
