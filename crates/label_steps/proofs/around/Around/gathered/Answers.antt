-- Proves that what a macro's body assigns is gathered.
use Rattle.std.proofs.Common.{false, None, sym, ◌∙◌}
use Rattle.std.proofs.lemmas.Result.{IfOk-weaker}
use Rattle.pcal_tree.specs.InMemory.{statements_at}
use Rattle.label_steps.specs.MissingLabels.{due_in}
use Rattle.label_steps.proofs.AgreeLaws.{none_first}
use Rattle.label_steps.proofs.around.Around.gathered.Goals as goal

pub returns-in-None : goal.returns-in-None
returns-in-None c =
    IfOk-weaker c.straight.result _ _ (λ r g ms k name own.
    g ms k name own (none_first (due_in false None (statements_at c.args.pool.now c.args.stmts.now)) (sym (c.due_in_macro.ensures c.args.pool.now) ∙ c.in-None.is))) c.straight.ensures
