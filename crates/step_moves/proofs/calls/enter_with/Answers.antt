-- Proves that an entry goes back as the call's partner has it.
use Rattle.std.proofs.Common.{◌≡◌, refl, sym, ap, ◌∙◌}
use Rattle.tla_value.specs.Value.{Value}
use Rattle.pcal_tree.specs.Run.{Partner, goto_partner}
use Rattle.step_walks.specs.WrittenCalls.{called_by, entered_by}
use Rattle.step_spots.specs.InMemory.{routine_at}
use Rattle.step_spots.specs.Targets.{target_word}
use Rattle.step_moves.specs.Programs.{program_at}
use Rattle.step_moves.specs.StatesOf.{state_of}
use Rattle.step_moves.specs.Prepared.{as_prepared}
use Rattle.step_moves.specs.Runners.{partner_of}
use Rattle.step_moves.proofs.ReplaceForms.{gives_as}
use Rattle.step_moves.proofs.calls.enter_with.Goals as goal

pub returns-in_ok-back-in-None-clause-entered : goal.returns-in_ok-back-in-None-clause-entered
returns-in_ok-back-in-None-clause-entered c v u h =
    let r = c.args.runner.now in
    let w = c.args.visit.now in
    let P = program_at r.program in
    let p = routine_at r.program.pool.now w.callee in
    let s = state_of c.args.state.now in
    gives_as _ c.enter.result _ _
    (ap (λ (j : Partner). called_by (as_prepared P) P v u w.place p w.places.now w.values.now (target_word c.args.label) j s) (ap partner_of c.in-None.is)
    ∙ ap (λ (back : Value). entered_by (as_prepared P) P v w.place back p w.places.now w.values.now s) (sym (c.in_ok-back-in-None.ensures P u refl h.number)))
    (c.enter.ensures.entered v u h)

pub returns-in_ok-back-in-Goto-clause-entered : goal.returns-in_ok-back-in-Goto-clause-entered
returns-in_ok-back-in-Goto-clause-entered c v u h =
    let r = c.args.runner.now in
    let w = c.args.visit.now in
    let P = program_at r.program in
    let p = routine_at r.program.pool.now w.callee in
    let s = state_of c.args.state.now in
    let is : partner_of c.args.partner ≡ goto_partner c.in-Goto.name.now = ap partner_of c.in-Goto.is in
    gives_as _ c.enter-in-Goto.result _ _
    (ap (λ (j : Partner). called_by (as_prepared P) P v u w.place p w.places.now w.values.now (target_word c.args.label) j s) is
    ∙ ap (λ (back : Value). entered_by (as_prepared P) P v w.place back p w.places.now w.values.now s) (sym (c.in_ok-back-in-Goto.ensures P u refl h.number)))
    (c.enter-in-Goto.ensures.entered v u h)
