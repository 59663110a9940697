-- Proves that an entry is the record, the stack with parameters, variables and `pc`, one after another, and what stops it.
use Rattle.std.proofs.Common.{◌≡◌, sym, ap, subst, ◌∙◌, refl}
use Rattle.tla_value.specs.Limits.{bounded}
use Rattle.tla_value.specs.Value.{Value, Outcome}
use Rattle.pcal_tree.specs.Assign as pure
use Rattle.pcal_tree.specs.Calls.{label_value, first_label, setting}
use Rattle.pcal_tree.specs.Program.{index}
use Rattle.pcal_tree.specs.Scope.{State}
use Rattle.pcal_tree.specs.Variables.{pc}
use Rattle.value_forms.specs.Gives.{Gives, Stops}
use Rattle.value_forms.proofs.StopLaws.{err_is}
use Rattle.step_spots.specs.InMemory.{routine_at}
use Rattle.step_moves.specs.Programs.{program_at}
use Rattle.step_moves.specs.StatesOf.{state_of}
use Rattle.step_moves.specs.Prepared.{as_prepared}
use Rattle.step_moves.proofs.EntryForms.{frame_is, entry_over, entry_not_given, entry_not_started, entry_last}
use Rattle.step_moves.proofs.entries.enter_keeping.Goals as goal

pub returns-in_err-front-clause-entered : goal.returns-in_err-front-clause-entered
returns-in_err-front-clause-entered c v u h =
    let r = c.args.runner.now in
    let w = c.args.visit.now in
    let P = program_at r.program in
    let stop = c.in_err-front.field-0.0 in
    let is = frame_is r w.callee c.args.back c.args.olds.now c.args.names.now c.title.result.now c.requires.names c.title.ensures in
    err_is _ c.from_residual.result stop _ c.from_residual.ensures
    (entry_over (as_prepared P) P v w.place c.args.back (routine_at r.program.pool.now w.callee) w.places.now w.values.now c.args.olds.now (state_of c.args.state.now) stop
    (subst (λ (f : Value). Stops stop (bounded w.place f)) (sym is) c.in_err-front.ensures))

pub returns-in_err-give-clause-entered : goal.returns-in_err-give-clause-entered
returns-in_err-give-clause-entered c v u h =
    let r = c.args.runner.now in
    let w = c.args.visit.now in
    let P = program_at r.program in
    let stop = c.in_err-give.field-0.0 in
    let is = frame_is r w.callee c.args.back c.args.olds.now c.args.names.now c.title.result.now c.requires.names c.title.ensures in
    err_is _ c.from_residual-in_err-give.result stop _ c.from_residual-in_err-give.ensures
    (entry_not_given (as_prepared P) P v w.place c.args.back (routine_at r.program.pool.now w.callee) w.places.now w.values.now c.args.olds.now (state_of c.args.state.now)
    c.in_ok-front.front (ap (bounded w.place) is ∙ c.in_ok-front.ensures) stop (c.in_err-give.ensures.given v u h))

pub returns-in_err-start_all-clause-entered : goal.returns-in_err-start_all-clause-entered
returns-in_err-start_all-clause-entered c v u h =
    let r = c.args.runner.now in
    let w = c.args.visit.now in
    let P = program_at r.program in
    let stop = c.in_err-start_all.field-0.0 in
    let is = frame_is r w.callee c.args.back c.args.olds.now c.args.names.now c.title.result.now c.requires.names c.title.ensures in
    err_is _ c.from_residual-in_err-start_all.result stop _ c.from_residual-in_err-start_all.ensures
    (entry_not_started (as_prepared P) P v w.place c.args.back (routine_at r.program.pool.now w.callee) w.places.now w.values.now c.args.olds.now (state_of c.args.state.now)
    c.in_ok-front.front (ap (bounded w.place) is ∙ c.in_ok-front.ensures) (state_of c.give.new.state) (c.in_ok-give.ensures.given v u h) stop (c.in_err-start_all.ensures.started v u h))

pub returns-clause-entered : goal.returns-clause-entered
returns-clause-entered c v u h =
    let r = c.args.runner.now in
    let w = c.args.visit.now in
    let P = program_at r.program in
    let p = routine_at r.program.pool.now w.callee in
    let t = state_of c.start_all.new.state in
    let is = frame_is r w.callee c.args.back c.args.olds.now c.args.names.now c.title.result.now c.requires.names c.title.ensures in
    let label : c.in_ok-label.label ≡ label_value P p (first_label p) = c.in_ok-label.ensures P p refl refl ∙ ap (label_value P p) (c.next_target-first.ensures r.program.pool.now) in
    subst (λ (o : Outcome State). Gives (λ x. state_of c.set_pc.new.state) c.set_pc.result o)
    (ap (λ (l : Value). pure.set_one bounded (setting w.place pc (index v.self) l) t) label
    ∙ sym (entry_last (as_prepared P) P v w.place c.args.back p w.places.now w.values.now c.args.olds.now (state_of c.args.state.now)
    c.in_ok-front.front (ap (bounded w.place) is ∙ c.in_ok-front.ensures) (state_of c.give.new.state) (c.in_ok-give.ensures.given v u h) t (c.in_ok-start_all.ensures.started v u h)))
    (c.set_pc.ensures.set v u h)
