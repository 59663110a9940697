-- Proves that the first of what is missing or assigned twice is found.
use Rattle.std.proofs.Common.{List, map, reverse, sym, ◌∙◌, subst}
use Rattle.std.proofs.lemmas.Result.{IfOk-weaker}
use Rattle.pcal_tree.specs.declared.algorithm.Macro.{Macro}
use Rattle.pcal_tree.specs.InMemory.{macro_at, algorithm_at}
use Rattle.pcal_tree.specs.OffencesSteps.{call_effect}
use Rattle.pcal_tree.specs.laws.MacroSummaries.{summaries}
use Rattle.label_steps.specs.KnownIn.{AreMacros}
use Rattle.label_steps.proofs.AgreeLaws.{due_steps, twice_steps}
use Rattle.label_steps.proofs.steps.steps_refusal.Goals as goal

pub returns-in-Some : goal.returns-in-Some
returns-in-Some c =
    let a = algorithm_at c.args.pool.now c.args.algorithm.now in
    sym c.in-Some.is ∙ due_steps (call_effect (reverse a.macros)) a c.due_refusal-due.result c.in-Some.refusal (c.due_refusal-due.ensures c.args.pool.now) c.in-Some.is

pub returns-in_ok-known-in-None : goal.returns-in_ok-known-in-None
returns-in_ok-known-in-None c =
    let ts = c.args.pool.now in
    let a = algorithm_at ts c.args.algorithm.now in
    IfOk-weaker c.twice_refusal.result _ _ (λ r h.
    twice_steps a c.due_refusal-due.result r (c.due_refusal-due.ensures ts) c.in-None.is
    (h (summaries (reverse a.macros))
    (subst (λ (ds : List Macro). AreMacros c.in_ok-known-in-None.known (summaries (reverse (map (macro_at ts) ds)))) c.deref.ensures.value c.in_ok-known-in-None.ensures))) c.twice_refusal.ensures
