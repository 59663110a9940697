-- Proves what a procedure's disjunct says of a process.
use Rattle.std.proofs.Common.{Bool, false, not, ◌&&◌, cond, Ok, sym, ap, subst, ◌∙◌}
use Rattle.module_tree.specs.Module as tree
use Rattle.module_tree.specs.Ways.{is_procedure, call_of}
use Rattle.module_tree.specs.ProcessPart.{called_for}
use Rattle.module_write.specs.InMemory.{way_at}
use Rattle.value_forms.specs.Gives.{Tells}
use Rattle.action_truth.specs.Pairs.{all_acts}
use Rattle.action_truth.proofs.processes.shared_holds.Goals as goal

pub returns-then-is_terminating : goal.returns-then-is_terminating
returns-then-is_terminating c =
    let p = c.args.pair.now in
    let ts = p.asked.pool.now in
    let y = way_at ts c.args.way.now in
    ap (λ (b : Bool). cond (not b && is_procedure y) (called_for (all_acts p) c.args.who.now (call_of y)) (Ok false)) (sym (c.is_terminating.ensures ts) ∙ c.if-is_terminating.true)

pub returns-then-not-is_procedure : goal.returns-then-not-is_procedure
returns-then-not-is_procedure c =
    let p = c.args.pair.now in
    let ts = p.asked.pool.now in
    let y = way_at ts c.args.way.now in
    let C = called_for (all_acts p) c.args.who.now (call_of y) in
    ap (λ (b : Bool). cond (not b && is_procedure y) C (Ok false)) (sym (c.is_terminating.ensures ts) ∙ c.if-is_terminating.false) ∙ ap (λ (b : Bool). cond b C (Ok false)) (sym c.is_procedure.ensures ∙ c.if-not-is_procedure.true)

pub returns : goal.returns
returns c =
    let p = c.args.pair.now in
    let ts = p.asked.pool.now in
    let y = way_at ts c.args.way.now in
    let C = called_for (all_acts p) c.args.who.now (call_of y) in
    subst (Tells c.called_for.result)
    (sym (ap (λ (b : Bool). cond (not b && is_procedure y) C (Ok false)) (sym (c.is_terminating.ensures ts) ∙ c.if-is_terminating.false) ∙ ap (λ (b : Bool). cond b C (Ok false)) (sym c.is_procedure.ensures ∙ c.if-not-is_procedure.false)))
    (subst (λ (u : tree.Call). Tells c.called_for.result (called_for (all_acts p) c.args.who.now u)) (c.call.ensures ts) c.called_for.ensures)
