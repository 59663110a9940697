-- Proves what a process's disjunct says of it.
use Rattle.std.proofs.Common.{Bool, false, cond, Ok, sym, ap, subst, ◌∙◌}
use Rattle.tla_tree.specs.Pool.{at}
use Rattle.tla_value.specs.Limits.{bounded}
use Rattle.tla_value.specs.Meaning.{Env}
use Rattle.module_tree.specs.Module as tree
use Rattle.module_tree.specs.Ways.{call_of}
use Rattle.module_tree.specs.ActionTruth.{value_in}
use Rattle.module_tree.specs.ProcessPart.{called_for}
use Rattle.module_write.specs.InMemory.{way_at}
use Rattle.value_forms.specs.Gives.{Stops, Tells}
use Rattle.value_forms.proofs.StopLaws.{tells_err}
use Rattle.action_truth.specs.Pairs.{scope_at, all_acts}
use Rattle.action_truth.proofs.CaseLaws.{case_no_value, case_no_set, case_is}
use Rattle.action_truth.proofs.ScopeLaws.{none_bound}
use Rattle.action_truth.proofs.processes.case_holds.Goals as goal

pub returns-in_err-all : goal.returns-in_err-all
returns-in_err-all c =
    let p = c.args.pair.now in
    let t = at p.asked.pool.now c.args.set in
    let k = c.in_err-all.field-0.0 in
    tells_err c.from_residual.result k _ c.from_residual.ensures
    (case_no_value (scope_at p) (all_acts p) c.args.who.now (way_at p.asked.pool.now c.args.way.now) t k (subst (λ (env : Env). Stops k (value_in bounded env t)) (none_bound p c.new-none.result c.new-none.ensures.names c.new-none.ensures.values) c.in_err-all.ensures))

pub returns-in_err-is_in : goal.returns-in_err-is_in
returns-in_err-is_in c =
    let p = c.args.pair.now in
    let t = at p.asked.pool.now c.args.set in
    let k = c.in_err-is_in.field-0.0 in
    tells_err c.from_residual-in_err-is_in.result k _ c.from_residual-in_err-is_in.ensures
    (case_no_set (scope_at p) (all_acts p) c.args.who.now (way_at p.asked.pool.now c.args.way.now) t k c.in_ok-all.all _
    (sym (ap (λ (env : Env). value_in bounded env t) (none_bound p c.new-none.result c.new-none.ensures.names c.new-none.ensures.values)) ∙ c.in_ok-all.ensures) (sym c.place_of-here.ensures) c.in_err-is_in.ensures)

pub returns-then-not-is_in : goal.returns-then-not-is_in
returns-then-not-is_in c =
    let p = c.args.pair.now in
    let t = at p.asked.pool.now c.args.set in
    let y = way_at p.asked.pool.now c.args.way.now in
    case_is (scope_at p) (all_acts p) c.args.who.now y t c.in_ok-all.all _ c.in_ok-is_in.is_in
    (sym (ap (λ (env : Env). value_in bounded env t) (none_bound p c.new-none.result c.new-none.ensures.names c.new-none.ensures.values)) ∙ c.in_ok-all.ensures) (sym c.place_of-here.ensures) c.in_ok-is_in.ensures
    ∙ ap (λ (b : Bool). cond b (called_for (all_acts p) c.args.who.now (call_of y)) (Ok false)) c.if-not-is_in.true

pub returns : goal.returns
returns c =
    let p = c.args.pair.now in
    let t = at p.asked.pool.now c.args.set in
    let y = way_at p.asked.pool.now c.args.way.now in
    subst (Tells c.called_for.result)
    (sym (case_is (scope_at p) (all_acts p) c.args.who.now y t c.in_ok-all.all _ c.in_ok-is_in.is_in
    (sym (ap (λ (env : Env). value_in bounded env t) (none_bound p c.new-none.result c.new-none.ensures.names c.new-none.ensures.values)) ∙ c.in_ok-all.ensures) (sym c.place_of-here.ensures) c.in_ok-is_in.ensures
    ∙ ap (λ (b : Bool). cond b (called_for (all_acts p) c.args.who.now (call_of y)) (Ok false)) c.if-not-is_in.false))
    (subst (λ (u : tree.Call). Tells c.called_for.result (called_for (all_acts p) c.args.who.now u)) (c.call.ensures p.asked.pool.now) c.called_for.ensures)
