-- Proves that a callee is entered with the values that its variables have, and what stops that.
use Rattle.std.proofs.Common.{List, sym, ap, subst, ◌∙◌}
use Rattle.tla_value.specs.Value.{Value, Outcome}
use Rattle.pcal_tree.specs.Scope.{State}
use Rattle.value_forms.specs.Gives.{Gives, Stops}
use Rattle.value_forms.proofs.StopLaws.{err_is}
use Rattle.step_walks.specs.WrittenCalls.{entered_keeping_by}
use Rattle.step_spots.specs.InMemory.{routine_at}
use Rattle.step_moves.specs.Programs.{program_at}
use Rattle.step_moves.specs.StatesOf.{state_of}
use Rattle.step_moves.specs.Prepared.{as_prepared}
use Rattle.step_moves.proofs.EntryForms.{olds_are, entered_unread, entered_read}
use Rattle.step_moves.proofs.calls.enter.Goals as goal

pub returns-in_err-olds-clause-entered : goal.returns-in_err-olds-clause-entered
returns-in_err-olds-clause-entered c v u h =
    let r = c.args.runner.now in
    let w = c.args.visit.now in
    let P = program_at r.program in
    let s = state_of c.args.state.now in
    let stop = c.in_err-olds.field-0.0 in
    let same = olds_are r v w.callee h.identifier w.place s c.deref.result.now c.deref-2.result.now (c.deref.ensures.value ∙ c.in_ok-names.ensures) (c.deref-2.ensures.value ∙ c.in_ok-path.ensures) in
    err_is _ c.from_residual-in_err-olds.result stop _ c.from_residual-in_err-olds.ensures
    (entered_unread (as_prepared P) P v w.place c.args.back (routine_at r.program.pool.now w.callee) w.places.now w.values.now s stop (subst (Stops stop) (sym same) c.in_err-olds.ensures))

pub returns-clause-entered : goal.returns-clause-entered
returns-clause-entered c v u h =
    let r = c.args.runner.now in
    let w = c.args.visit.now in
    let P = program_at r.program in
    let p = routine_at r.program.pool.now w.callee in
    let s = state_of c.args.state.now in
    let same = olds_are r v w.callee h.identifier w.place s c.deref.result.now c.deref-2.result.now (c.deref.ensures.value ∙ c.in_ok-names.ensures) (c.deref-2.ensures.value ∙ c.in_ok-path.ensures) in
    subst (λ (o : Outcome State). Gives (λ x. state_of c.enter_keeping.new.state) c.enter_keeping.result o)
    (ap (λ (olds : List Value). entered_keeping_by (as_prepared P) P v w.place c.args.back p w.places.now w.values.now olds s) c.deref-4.ensures.value
    ∙ sym (entered_read (as_prepared P) P v w.place c.args.back p w.places.now w.values.now s c.in_ok-olds.olds.items (same ∙ c.in_ok-olds.ensures)))
    (c.enter_keeping.ensures.entered v u h)
