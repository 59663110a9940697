-- Proves what a disjunct says, if it isn't Terminating.
use Rattle.std.proofs.Common.{ℕ, Bool, false, cond, Ok, sym, ap, subst, ◌∙◌}
use Rattle.tla_value.specs.Limits.{bounded}
use Rattle.module_tree.specs.ActionTruth.{way_holds}
use Rattle.module_write.specs.InMemory.{way_at}
use Rattle.value_forms.specs.Gives.{Tells}
use Rattle.action_truth.specs.Pairs.{env_at, acts_at, all_acts}
use Rattle.action_truth.proofs.processes.step_holds.Goals as goal

pub returns-then-is_terminating-clause-holds : goal.returns-then-is_terminating-clause-holds
returns-then-is_terminating-clause-holds c =
    let p = c.args.pair.now in
    let ts = p.asked.pool.now in
    ap (λ (b : Bool). cond b (Ok false) (way_holds bounded (env_at p c.args.bound.now) (all_acts p) (way_at ts c.args.way.now))) (sym (c.is_terminating.ensures ts) ∙ c.if-is_terminating.true)

pub returns-clause-holds : goal.returns-clause-holds
returns-clause-holds c =
    let p = c.args.pair.now in
    let ts = p.asked.pool.now in
    let env = env_at p c.args.bound.now in
    subst (Tells c.way_holds.result) (sym (ap (λ (b : Bool). cond b (Ok false) (way_holds bounded env (all_acts p) (way_at ts c.args.way.now))) (sym (c.is_terminating.ensures ts) ∙ c.if-is_terminating.false)))
    (subst (λ (n : ℕ). Tells c.way_holds.result (way_holds bounded env (acts_at p n) (way_at ts c.args.way.now))) c.count.ensures c.way_holds.ensures.holds)
