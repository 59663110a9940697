-- Proves that a return and an entry are one after the other, and what stops them.
use Rattle.std.proofs.Common.{List, ap, ◌∙◌, sym}
use Rattle.tla_tree.specs.Tree.{Word}
use Rattle.tla_value.specs.Strict.{applied}
use Rattle.tla_value.specs.Value.{Value, text}
use Rattle.value_forms.proofs.StopLaws.{err_is}
use Rattle.step_walks.specs.WrittenCalls.{entered_keeping_by}
use Rattle.step_spots.specs.InMemory.{routine_at}
use Rattle.step_moves.specs.Programs.{program_at}
use Rattle.step_moves.specs.StatesOf.{state_of}
use Rattle.step_moves.specs.Prepared.{as_prepared}
use Rattle.step_moves.proofs.ReplaceForms.{gives_as, both_not_restored, both_unread, both_last}
use Rattle.step_moves.proofs.calls.replace_front.Goals as goal

pub returns-in_err-restore_front-clause-replaced : goal.returns-in_err-restore_front-clause-replaced
returns-in_err-restore_front-clause-replaced c v u h =
    let r = c.args.runner.now in
    let w = c.args.visit.now in
    let P = program_at r.program in
    let label = ap (λ (x : Word). applied c.args.end c.args.front.now (text x)) (sym c.requires.ready.pc_is) ∙ c.in_ok-back.ensures in
    err_is _ c.from_residual-in_err-restore_front.result c.in_err-restore_front.field-0.0 _ c.from_residual-in_err-restore_front.ensures
    (both_not_restored (as_prepared P) P v w.place c.args.end u (routine_at r.program.pool.now w.callee) w.places.now w.values.now (state_of c.args.state.now) c.args.front.now c.args.frames.now _ label
    c.in_err-restore_front.field-0.0 (c.in_err-restore_front.ensures.restored v u h))

pub returns-in_err-olds-clause-replaced : goal.returns-in_err-olds-clause-replaced
returns-in_err-olds-clause-replaced c v u h =
    let r = c.args.runner.now in
    let w = c.args.visit.now in
    let P = program_at r.program in
    let label = ap (λ (x : Word). applied c.args.end c.args.front.now (text x)) (sym c.requires.ready.pc_is) ∙ c.in_ok-back.ensures in
    err_is _ c.from_residual-in_err-olds.result c.in_err-olds.field-0.0 _ c.from_residual-in_err-olds.ensures
    (both_unread (as_prepared P) P v w.place c.args.end u (routine_at r.program.pool.now w.callee) w.places.now w.values.now (state_of c.args.state.now) c.args.front.now c.args.frames.now _ label
    (state_of c.restore_front.new.state) (c.in_ok-restore_front.ensures.restored v u h) c.in_err-olds.field-0.0 (c.in_err-olds.ensures v u h))

pub returns-clause-replaced : goal.returns-clause-replaced
returns-clause-replaced c v u h =
    let r = c.args.runner.now in
    let w = c.args.visit.now in
    let P = program_at r.program in
    let p = routine_at r.program.pool.now w.callee in
    let t = state_of c.restore_front.new.state in
    let back = c.in_ok-back.back in
    let label = ap (λ (x : Word). applied c.args.end c.args.front.now (text x)) (sym c.requires.ready.pc_is) ∙ c.in_ok-back.ensures in
    gives_as _ c.enter_keeping.result _ _
    (both_last (as_prepared P) P v w.place c.args.end u p w.places.now w.values.now (state_of c.args.state.now) c.args.front.now c.args.frames.now _ label
    t (c.in_ok-restore_front.ensures.restored v u h) c.in_ok-olds.olds.items (c.in_ok-olds.ensures v u h)
    ∙ ap (λ (olds : List Value). entered_keeping_by (as_prepared P) P v w.place back p w.places.now w.values.now olds t) (sym c.deref-3.ensures.value))
    (c.enter_keeping.ensures.entered v u h)
