-- Proves what the action of a call says for a process.
use Rattle.std.proofs.Common.{ℕ, Some, None, sym, subst}
use Rattle.tla_value.specs.Value.{Value}
use Rattle.module_tree.specs.ActionTruth.{acted}
use Rattle.module_tree.specs.ProcessPart.{called_for}
use Rattle.module_write.specs.declared.«module».Call.{Call}
use Rattle.module_write.specs.InMemory.{call_at}
use Rattle.value_forms.specs.Gives.{Tells}
use Rattle.action_truth.specs.Pairs.{acts_at, all_acts}
use Rattle.action_truth.proofs.processes.called_for.Goals as goal

pub returns-in-Bare : goal.returns-in-Bare
returns-in-Bare c =
    let p = c.args.pair.now in
    subst (λ (u : Call). Tells c.called.result (called_for (all_acts p) c.args.who.now (call_at p.asked.pool.now u))) (sym c.in-Bare.is)
    (subst (λ (n : ℕ). Tells c.called.result (acted (acts_at p n c.in-Bare.title) None)) c.count-all.ensures c.called.ensures)

pub returns-in_ok-v-in-With : goal.returns-in_ok-v-in-With
returns-in_ok-v-in-With c =
    let p = c.args.pair.now in
    subst (λ (u : Call). Tells c.called-in-With.result (called_for (all_acts p) c.args.who.now (call_at p.asked.pool.now u))) (sym c.in-With.is)
    (subst (λ (v : Value). Tells c.called-in-With.result (acted (all_acts p c.in-With.title) (Some v))) c.in_ok-v-in-With.ensures
    (subst (λ (n : ℕ). Tells c.called-in-With.result (acted (acts_at p n c.in-With.title) (Some c.in_ok-v-in-With.v))) c.count-all.ensures c.called-in-With.ensures))
