-- Proves that these units are put in, one after another, and the rest stays.
use Rattle.std.proofs.Common.{ap, ◌∙◌}
use Rattle.std.proofs.lemmas.Result.{on_ok_weaker}
use Rattle.module_tree.specs.Module as tree
use Rattle.action_builder.specs.NextFormula as pure
use Rattle.fairness.specs.FairnessLines.{fairness_lines}
use Rattle.draft.proofs.Grown.{draft_kept}
use Rattle.module_builder.proofs.region.add_steps.Goals as goal

pub returns-clause-made : goal.returns-clause-made
returns-clause-made c =
    on_ok_weaker c.add_fairness.result (λ h P d acts in_old.
    let draft = c.args.draft.now in
    let first = c.in_ok-add_actions.ensures in
    let second = c.in_ok-add_ended.ensures in
    let third = c.in_ok-add_next.ensures in
    let d1 = draft_kept c.args.pool.now c.add_actions.new.pool first.kept draft P d in
    let d2 = draft_kept c.add_actions.new.pool c.add_ended.new.pool second.kept draft P d1 in
    let d3 = draft_kept c.add_ended.new.pool c.add_next.new.pool third.kept draft P d2 in
    let in1 = first.within in_old in
    let in2 = second.within in1 in
    let in3 = third.within in2 in
    h P d3 in3
    ∙ ap (λ (R : tree.Region). record R { fairness = fairness_lines P })
    (third.made P d2 in2
    ∙ ap (λ (R : tree.Region). record R { next = pure.next c.args.no_terminating P })
    (second.made P d1 in1 ∙ ap (λ (R : tree.Region). record R { ended = pure.ended c.args.no_terminating P.algorithm.main }) (first.made P d acts in_old))))
    c.add_fairness.ensures.made
