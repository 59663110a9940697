-- Proves that all units but one are put in.
use Rattle.std.proofs.Common.{ap, ◌∙◌}
use Rattle.std.proofs.lemmas.Result.{on_ok_weaker}
use Rattle.module_tree.specs.Module as tree
use Rattle.action_builder.specs.NextFormula as pure
use Rattle.fairness.specs.FairnessLines.{fairness_lines}
use Rattle.step_forms.specs.Steps.{actions_by_steps}
use Rattle.draft.proofs.Grown.{draft_kept}
use Rattle.module_builder.proofs.region.add_units.Goals as goal

pub returns-clause-made : goal.returns-clause-made
returns-clause-made c =
    on_ok_weaker c.add_steps.result (λ h P d runs acts in_old.
    let first = c.in_ok-add_start.ensures in
    h P (draft_kept c.args.pool.now c.add_start.new.pool first.kept c.args.draft.now P d) acts (first.within in_old)
    ∙ ap (λ (R : tree.Region). record R {
      actions = actions_by_steps P;
      ended = pure.ended c.args.no_terminating P.algorithm.main;
      next = pure.next c.args.no_terminating P;
      fairness = fairness_lines P;
    }) (first.made P d runs in_old))
    c.add_steps.ensures.made
