-- Proves that a call is the call of the procedure that is found.
use Rattle.std.proofs.Common.{List, sym, ap, subst, ◌∙◌}
use Rattle.tla_value.specs.Value.{Value}
use Rattle.value_forms.specs.Gives.{Stops}
use Rattle.value_forms.proofs.StopLaws.{err_is}
use Rattle.step_walks.specs.WrittenCalls.{called_by}
use Rattle.step_spots.specs.InMemory.{routine_at}
use Rattle.step_spots.specs.Targets.{target_word}
use Rattle.step_moves.specs.Programs.{program_at}
use Rattle.step_moves.specs.StatesOf.{state_of}
use Rattle.step_moves.specs.Prepared.{as_prepared}
use Rattle.step_moves.specs.Runners.{partner_of}
use Rattle.step_moves.proofs.CalleeLaws.{calling_missing, calling_stops, calling_done}
use Rattle.step_moves.proofs.calls.call.Goals as goal

pub returns-in_default-clause-called : goal.returns-in_default-clause-called
returns-in_default-clause-called c v u h =
    calling_missing c.args.runner.now v u c.requires.ready c.args.at c.args.name.now c.args.places.now c.args.values.items (target_word c.args.label) (partner_of c.args.partner) (state_of c.args.state.now)
    c.in_ok-callee.field-0 c.in_ok-callee.ensures.found c.in_default.is

pub returns-in_err-enter_with-clause-called : goal.returns-in_err-enter_with-clause-called
returns-in_err-enter_with-clause-called c v u h =
    let r = c.args.runner.now in
    let P = program_at r.program in
    let l = target_word c.args.label in
    let j = partner_of c.args.partner in
    let s = state_of c.args.state.now in
    let stop = c.in_err-enter_with.field-0.0 in
    err_is _ c.from_residual-in_err-enter_with.result stop _ c.from_residual-in_err-enter_with.ensures
    (calling_stops r v u c.requires.ready c.args.at c.args.name.now c.args.places.now c.args.values.items l j s c.in_ok-callee.field-0 c.in_ok-callee.ensures.found c.in-Some.callee c.in-Some.is stop
    (subst (λ (vs : List Value). Stops stop (called_by (as_prepared P) P v u c.args.at (routine_at r.program.pool.now c.in-Some.callee) c.args.places.now vs l j s)) c.deref.ensures.value (c.in_err-enter_with.ensures.entered v u h)))

pub returns-clause-called : goal.returns-clause-called
returns-clause-called c v u h =
    let r = c.args.runner.now in
    let P = program_at r.program in
    let l = target_word c.args.label in
    let j = partner_of c.args.partner in
    let s = state_of c.args.state.now in
    calling_done r v u c.requires.ready c.args.at c.args.name.now c.args.places.now c.args.values.items l j s c.in_ok-callee.field-0 c.in_ok-callee.ensures.found c.in-Some.callee c.in-Some.is (state_of c.enter_with.new.state)
    (ap (λ (vs : List Value). called_by (as_prepared P) P v u c.args.at (routine_at r.program.pool.now c.in-Some.callee) c.args.places.now vs l j s) (sym c.deref.ensures.value) ∙ c.in_ok-enter_with.ensures.entered v u h)
