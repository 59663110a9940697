-- Proves what Terminating says.
use Rattle.std.proofs.Common.{None, Ok, refl, sym, ap, subst, ◌∙◌}
use Rattle.tla_tree.specs.Pool.{at}
use Rattle.tla_value.specs.Limits.{bounded}
use Rattle.tla_value.specs.Meaning.{Env}
use Rattle.tla_value.specs.States.{value_of}
use Rattle.tla_value.specs.Value.{and_then}
use Rattle.module_tree.specs.ActionTruth.{Verdict, truth_in, are_unchanged}
use Rattle.value_forms.specs.Gives.{Stops}
use Rattle.value_forms.proofs.StopLaws.{tells_err}
use Rattle.action_truth.proofs.EndingLaws.{ending_is}
use Rattle.action_truth.proofs.ListLaws.{and_stops}
use Rattle.action_truth.proofs.ScopeLaws.{none_bound}
use Rattle.action_truth.proofs.actions.ending_true.Goals as goal

pub returns-in_err-first : goal.returns-in_err-first
returns-in_err-first c = λ acts.
    let p = c.args.pair.now in
    let k = c.in_err-first.field-0.0 in
    tells_err c.from_residual.result k _ c.from_residual.ensures
    (subst (Stops k) (sym (ending_is p c.args.e acts None refl))
    (and_stops k _ (Ok (are_unchanged (value_of p.from.now) (value_of p.to.now) p.asked.region.now.vars))
    (subst (λ (env : Env). Stops k (truth_in bounded env (at p.asked.pool.now c.args.e))) (none_bound p c.new-none.result c.new-none.ensures.names c.new-none.ensures.values) c.in_err-first.ensures)))

pub returns-then-not-first : goal.returns-then-not-first
returns-then-not-first c = λ acts.
    let p = c.args.pair.now in
    let u = are_unchanged (value_of p.from.now) (value_of p.to.now) p.asked.region.now.vars in
    ending_is p c.args.e acts None refl
    ∙ ap (λ (w : Verdict). and_then w (Ok u))
    (sym (ap (λ (env : Env). truth_in bounded env (at p.asked.pool.now c.args.e)) (none_bound p c.new-none.result c.new-none.ensures.names c.new-none.ensures.values)) ∙ c.in_ok-first.ensures ∙ ap Ok c.if-not-first.true)

pub returns : goal.returns
returns c = λ acts.
    let p = c.args.pair.now in
    let u = are_unchanged (value_of p.from.now) (value_of p.to.now) p.asked.region.now.vars in
    ending_is p c.args.e acts None refl
    ∙ ap (λ (w : Verdict). and_then w (Ok u))
    (sym (ap (λ (env : Env). truth_in bounded env (at p.asked.pool.now c.args.e)) (none_bound p c.new-none.result c.new-none.ensures.names c.new-none.ensures.values)) ∙ c.in_ok-first.ensures ∙ ap Ok c.if-not-first.false)
    ∙ ap Ok (sym (c.are_unchanged.ensures ∙ ap (are_unchanged (value_of p.from.now) (value_of p.to.now)) c.as_slice.ensures))
