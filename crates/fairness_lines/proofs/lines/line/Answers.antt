-- Proves that the formula of a demand is made by its kind.
use Rattle.std.proofs.Common.{length, sym, ap, ◌∙◌, subst}
use Rattle.std.proofs.lemmas.Result.{IfOk-weaker}
use Rattle.pcal_tree.specs.Takers.{Takers}
use Rattle.pcal_tree.specs.InMemory.{statements_at}
use Rattle.written_names.specs.Units.{naming_of}
use Rattle.fairness_lines.specs.declared.demands.Demand.{Demand}
use Rattle.fairness_lines.specs.DemandsAt.{asked_at, DemandIn}
use Rattle.fairness_lines.specs.LinesOf.{line_for, routine_line}
use Rattle.fairness_lines.proofs.LineLaws.{takers_kept}
use Rattle.fairness_lines.proofs.lines.line.Goals as goal

pub returns-in-All-clause-within : goal.returns-in-All-clause-within
returns-in-All-clause-within c = IfOk-weaker c.next_line.result _ _ (λ r h. h (length c.args.pool.now)) c.next_line.ensures.within

pub returns-in-Routine-clause-line : goal.returns-in-Routine-clause-line
returns-in-Routine-clause-line c =
    IfOk-weaker c.routine_line.result _ _ (λ r h ts k d.
    let f = naming_of c.args.draft.now.naming.now in
    h ts
    ∙ ap (λ (t : Takers). routine_line f t c.in-Routine.owner.number c.in-Routine.owner.strong c.in-Routine.unit (statements_at ts c.in-Routine.body.now))
    (takers_kept ts c.args.pool.now k c.in-Routine.owner (subst (λ (e : Demand). DemandIn (length ts) e) c.in-Routine.is d))
    ∙ ap (λ (e : Demand). line_for f (asked_at ts e)) (sym c.in-Routine.is))
    c.routine_line.ensures.line
