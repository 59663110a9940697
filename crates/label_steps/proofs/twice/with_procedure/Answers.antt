-- Proves that the first variable that is assigned twice in a procedure is found.
use Rattle.std.proofs.Common.{Some, [], List, ap, ◌∙◌}
use Rattle.std.proofs.lemmas.Result.{IfOk-weaker}
use Rattle.tla_tree.specs.Tree.{Name}
use Rattle.pcal_tree.specs.declared.algorithm.Stmt.{Stmt}
use Rattle.pcal_tree.specs.InMemory.{statements_at}
use Rattle.pcal_tree.specs.Offences.{first}
use Rattle.pcal_tree.specs.Paths.{Effects}
use Rattle.algorithm_answer.specs.Joined.{joined}
use Rattle.label_steps.specs.declared.around.Around.{Around}
use Rattle.label_steps.specs.AroundIn.{effects_around}
use Rattle.label_steps.specs.StraightPaths.{straight_twice}
use Rattle.label_steps.proofs.TwiceLaws.{in_procedure}
use Rattle.label_steps.proofs.twice.with_procedure.Goals as goal

pub returns-clause-first : goal.returns-clause-first
returns-clause-first c =
    IfOk-weaker c.with_body.result _ _ (λ r h ms k.
    let ts = c.args.pool.now in
    let here : Around = record { known = c.args.around.now.known; name = Some c.in_ok-copied.field-0; own = c.in_ok-around.field-0 } in
    h ms k ∙ ap (λ (ys : List Stmt). joined c.args.found (first (straight_twice (effects_around here ms) (Some []) (statements_at ts ys)))) c.deref.ensures.value
    ∙ ap (λ (E : Effects). joined c.args.found (first (straight_twice E (Some []) (statements_at ts c.args.one.now.body.items))))
    (in_procedure here ms ts c.args.one.now (ap (λ (n : Name). Some n) c.in_ok-copied.ensures) c.in_ok-around.ensures)) c.with_body.ensures
