-- Proves that these units are put in, one after another, and the rest stays.
use Rattle.std.proofs.Common.{length, ap, ◌∙◌}
use Rattle.std.proofs.lemmas.Result.{on_ok_weaker}
use Rattle.module_tree.specs.Module as tree
use Rattle.action_builder.specs.InitialFormulas.{init}
use Rattle.action_builder.specs.ProcessSets.{process_set_of}
use Rattle.draft.proofs.Grown.{draft_kept}
use Rattle.module_builder.proofs.region.add_start.Goals as goal

pub returns-clause-made : goal.returns-clause-made
returns-clause-made c =
    on_ok_weaker c.add_init.result (λ h P d runs in_old.
    let draft = c.args.draft.now in
    let ts = c.args.pool.now in
    let first = c.in_ok-add_declarations.ensures in
    let second = c.in_ok-add_process_set.ensures in
    let in1 = first.within (length ts) c.requires in_old in
    let in2 = second.within in1 in
    h P (draft_kept ts c.add_process_set.new.pool second.kept draft P d) runs in2
    ∙ ap (λ (R : tree.Region). record R { init = init P })
    (second.made P d in1 ∙ ap (λ (R : tree.Region). record R { process_set = process_set_of P.algorithm.main }) (first.made ts P d)))
    c.add_init.ensures.made

pub returns-clause-within : goal.returns-clause-within
returns-clause-within c =
    on_ok_weaker c.add_init.result (λ h old. h (c.in_ok-add_process_set.ensures.within (c.in_ok-add_declarations.ensures.within (length c.args.pool.now) c.requires old)))
    c.add_init.ensures.within
