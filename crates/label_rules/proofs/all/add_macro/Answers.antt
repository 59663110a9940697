-- Proves that all that a macro offends is found.
use Rattle.std.proofs.Common.{◌++◌, true, false, List, None, ap, ◌∙◌}
use Rattle.std.proofs.lemmas.Result.{on_ok_weaker}
use Rattle.pcal_tree.specs.declared.algorithm.Stmt.{Stmt}
use Rattle.pcal_tree.specs.InMemory.{statements_at, macro_at}
use Rattle.pcal_tree.specs.OffencesLabels.{misplaced}
use Rattle.pcal_tree.specs.OffencesSteps.{at_first, step_offences, missing_in_macro}
use Rattle.pcal_tree.specs.Paths.{Effects}
use Rattle.added_labels.specs.Sight.{effects_of}
use Rattle.label_rules.proofs.AddedLaws.{added_then}
use Rattle.label_rules.proofs.AllLaws.{effects_silent}
use Rattle.label_rules.proofs.all.add_macro.Goals as goal

pub returns : goal.returns
returns c =
    on_ok_weaker c.of_body.result (λ h ms k.
    let ts = c.args.pool.now in
    let b = statements_at ts c.args.one.now.body.items in
    added_then c.args.found.now.items c.add_missing.new.found.items c.of_body.new.found.items (missing_in_macro (macro_at ts c.args.one.now)) (misplaced true false b)
    (c.in_ok-add_missing.ensures ms k
    ∙ ap (λ (ys : List Stmt). c.args.found.now.items ++ step_offences (effects_of c.args.place.now ms) (at_first None) (statements_at ts ys)) c.deref.ensures.value
    ∙ ap (λ (E : Effects). c.args.found.now.items ++ step_offences E (at_first None) b) (effects_silent c.args.place.now ms c.requires.silent))
    (h ts ∙ ap (λ (ys : List Stmt). c.add_missing.new.found.items ++ misplaced true false (statements_at ts ys)) c.deref-2.ensures.value)) c.of_body.ensures
