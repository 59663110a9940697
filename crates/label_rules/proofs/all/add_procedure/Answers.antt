-- Proves that all that a procedure offends is found.
use Rattle.std.proofs.Common.{◌++◌, true, false, List, Some, ap, ◌∙◌}
use Rattle.std.proofs.lemmas.Result.{on_ok_weaker}
use Rattle.tla_tree.specs.Tree.{Name}
use Rattle.pcal_tree.specs.declared.algorithm.Stmt.{Stmt}
use Rattle.pcal_tree.specs.InMemory.{statements_at}
use Rattle.pcal_tree.specs.OffencesLabels.{misplaced}
use Rattle.pcal_tree.specs.OffencesSteps.{missing_in_body}
use Rattle.pcal_tree.specs.Paths.{Effects}
use Rattle.label_steps.specs.declared.around.Around.{Around}
use Rattle.label_steps.specs.AroundIn.{effects_around}
use Rattle.label_steps.proofs.TwiceLaws.{in_procedure}
use Rattle.label_rules.proofs.all.add_procedure.Goals as goal

pub returns-clause-told : goal.returns-clause-told
returns-clause-told c =
    on_ok_weaker c.add_body.result (λ h ms k.
    let ts = c.args.pool.now in
    let here : Around = record { known = c.args.place.now.around.known; name = Some c.in_ok-copied.field-0; own = c.in_ok-place.field-0 } in
    h ms k
    ∙ ap (λ (ys : List Stmt). c.args.found.now.items ++ (missing_in_body (effects_around here ms) (statements_at ts ys) ++ misplaced false true (statements_at ts ys))) c.deref.ensures.value
    ∙ ap (λ (E : Effects). c.args.found.now.items ++ (missing_in_body E (statements_at ts c.args.one.now.body.items) ++ misplaced false true (statements_at ts c.args.one.now.body.items)))
    (in_procedure here ms ts c.args.one.now (ap (λ (n : Name). Some n) c.in_ok-copied.ensures) c.in_ok-place.ensures)) c.add_body.ensures
