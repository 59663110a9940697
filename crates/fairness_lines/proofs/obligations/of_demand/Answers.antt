-- Proves that the obligation of a demand is made by its kind.
use Rattle.std.proofs.Common.{sym, ap, ◌∙◌}
use Rattle.std.proofs.lemmas.Result.{IfOk-weaker}
use Rattle.pcal_tree.specs.Algorithm.{routines}
use Rattle.pcal_tree.specs.InMemory.{algorithm_at}
use Rattle.written_names.specs.Units.{naming_of}
use Rattle.fairness_lines.specs.declared.demands.Demand.{Demand}
use Rattle.fairness_lines.specs.DemandsAt.{asked_at}
use Rattle.fairness_lines.specs.LinesOf.{obligation_for, every_in}
use Rattle.fairness_lines.proofs.obligations.of_demand.Goals as goal

pub returns-in-Routine : goal.returns-in-Routine
returns-in-Routine c =
    IfOk-weaker c.of_routine_steps.result _ _ (λ r h ts.
    let f = naming_of c.args.draft.now.naming.now in
    let every = every_in f (routines (algorithm_at ts c.args.draft.now.algorithm.now)) in
    h ts every ∙ ap (λ (d : Demand). obligation_for f every (asked_at ts d)) (sym c.in-Routine.is))
    c.of_routine_steps.ensures
