-- Proves what comes of a call.
use Rattle.std.proofs.Common.{◌∙◌, ap}
use Rattle.tla_tree.specs.Pool.{trees_at}
use Rattle.tla_tree.specs.Tree.{Name}
use Rattle.step_moves.specs.Programs.{program_at}
use Rattle.step_spots.specs.Targets.{target_word}
use Rattle.step_moves.specs.StatesOf.{state_of}
use Rattle.step_moves.specs.Runners.{partner_of}
use Rattle.step_flow.specs.Ends.{left_of, root_places}
use Rattle.step_choices.specs.Pauses.{pause_of}
use Rattle.step_flow.proofs.FlowLaws.{err_ends}
use Rattle.step_flow.proofs.CallLaws.{call_goes, call_held, call_stops, answer_as, stops_as}
use Rattle.step_flow.proofs.simple.called.Goals as goal

pub returns-in_err-call-clause-ends : goal.returns-in_err-call-clause-ends
returns-in_err-call-clause-ends c v u r =
    let P = program_at c.args.runner.now.program in
    err_ends c.from_residual-in_err-call.result (pause_of c.in_err-call.field-0.0) _ c.args.choices.now _ c.from_residual-in_err-call.ensures
    (call_stops P v u (target_word c.args.here) c.args.span.first c.args.name.now (trees_at c.args.runner.now.program.pool.now c.args.arguments.now) c.args.going.now.bound.names.items c.args.going.now.bound.values.items
    (target_word c.args.exit) (partner_of c.args.partner) (state_of c.args.going.now.state) (left_of c.args.choices.now c.args.going.now) c.in_ok-values.values.items c.in_err-call.field-0.0 c.in_ok-values.ensures
    (stops_as P v u c.args.span.first c.in_ok-values.values.items (target_word c.args.exit) (partner_of c.args.partner) (state_of c.args.going.now.state) c.name.inside.name c.args.name.now.word c.deref.result.now (root_places (trees_at c.args.runner.now.program.pool.now c.args.arguments.now)) c.in_err-call.field-0.0 (ap (λ (n : Name). n.word) c.name.view_is) (c.deref.ensures.value ∙ c.in_ok-places.ensures) (c.in_err-call.ensures.called v u r)))

pub returns-then-branch-clause-ends : goal.returns-then-branch-clause-ends
returns-then-branch-clause-ends c v u r =
    let P = program_at c.args.runner.now.program in
    call_goes P v u (target_word c.args.here) c.args.span.first c.args.name.now (trees_at c.args.runner.now.program.pool.now c.args.arguments.now) c.args.going.now.bound.names.items c.args.going.now.bound.values.items
    (target_word c.args.exit) (partner_of c.args.partner) (state_of c.args.going.now.state) (left_of c.args.choices.now c.args.going.now) c.in_ok-values.values.items (state_of c.call.new.state) c.in_ok-call.field-0 c.in_ok-values.ensures c.if-branch.true
    (answer_as P v u c.args.span.first c.in_ok-values.values.items (target_word c.args.exit) (partner_of c.args.partner) (state_of c.args.going.now.state) c.name.inside.name c.args.name.now.word c.deref.result.now (root_places (trees_at c.args.runner.now.program.pool.now c.args.arguments.now)) (c.in_ok-call.field-0, state_of c.call.new.state) (ap (λ (n : Name). n.word) c.name.view_is) (c.deref.ensures.value ∙ c.in_ok-places.ensures) (c.in_ok-call.ensures.called v u r))

pub returns-clause-ends : goal.returns-clause-ends
returns-clause-ends c v u r =
    let P = program_at c.args.runner.now.program in
    call_held P v u (target_word c.args.here) c.args.span.first c.args.name.now (trees_at c.args.runner.now.program.pool.now c.args.arguments.now) c.args.going.now.bound.names.items c.args.going.now.bound.values.items
    (target_word c.args.exit) (partner_of c.args.partner) (state_of c.args.going.now.state) (left_of c.args.choices.now c.args.going.now) c.in_ok-values.values.items (state_of c.call.new.state) c.in_ok-call.field-0 c.in_ok-values.ensures c.if-branch.false
    (answer_as P v u c.args.span.first c.in_ok-values.values.items (target_word c.args.exit) (partner_of c.args.partner) (state_of c.args.going.now.state) c.name.inside.name c.args.name.now.word c.deref.result.now (root_places (trees_at c.args.runner.now.program.pool.now c.args.arguments.now)) (c.in_ok-call.field-0, state_of c.call.new.state) (ap (λ (n : Name). n.word) c.name.view_is) (c.deref.ensures.value ∙ c.in_ok-places.ensures) (c.in_ok-call.ensures.called v u r))
