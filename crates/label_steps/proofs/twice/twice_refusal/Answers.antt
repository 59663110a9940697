-- Proves that the first variable that is assigned twice in an algorithm is found.
use Rattle.std.proofs.Common.{Some, [], List, map, sym, ap, ◌∙◌, subst}
use Rattle.std.specs.List.{flat_map}
use Rattle.std.proofs.lemmas.Result.{IfOk-weaker}
use Rattle.pcal_tree.specs.declared.algorithm.Procedure.{Procedure}
use Rattle.pcal_tree.specs.Algorithm as tree
use Rattle.pcal_tree.specs.InMemory.{procedure_at, algorithm_at}
use Rattle.pcal_tree.specs.Offences.{first}
use Rattle.pcal_tree.specs.OffencesSteps.{procedure_effects}
use Rattle.pcal_tree.specs.laws.MacroSummaries.{summary_effect}
use Rattle.label_steps.specs.KnownIn.{AreMacros}
use Rattle.label_steps.specs.StraightPaths.{straight_twice}
use Rattle.label_steps.proofs.TwiceLaws.{both_twice}
use Rattle.label_steps.proofs.twice.twice_refusal.Goals as goal

pub returns : goal.returns
returns c =
    IfOk-weaker c.with_main.result _ _ (λ r h ms k.
    let ts = c.args.pool.now in
    both_twice (summary_effect ms) (algorithm_at ts c.args.algorithm.now) c.in_ok-procedures.procedures r
    (c.in_ok-procedures.ensures.first ms k
    ∙ ap (λ (ps : List Procedure). first (flat_map (λ (q : tree.Procedure). straight_twice (procedure_effects (summary_effect ms) q) (Some []) q.body) (map (procedure_at ts) ps))) c.deref.ensures.value)
    (h ms (subst (λ z. AreMacros z ms) (sym c.in_ok-procedures.ensures.known) k))) c.with_main.ensures
