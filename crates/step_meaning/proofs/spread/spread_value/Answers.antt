-- Proves that the function is that of the definition.
use Rattle.std.proofs.Common.{drop, sym, ◌∙◌}
use Rattle.tla_value.specs.Limits.{bounded}
use Rattle.tla_value.specs.Value.{fun, values_in}
use Rattle.pcal_tree.specs.InMemory.{start_at}
use Rattle.step_walks.specs.Flows.{falls}
use Rattle.step_spots.specs.InMemory.{routine_at}
use Rattle.step_moves.specs.StatesOf.{state_of}
use Rattle.step_meaning.proofs.FlowLaws.{through, outcome_through, pauses_flowing, pauses_is, paused}
use Rattle.step_meaning.proofs.SpreadLaws.{spread_alike, checked}
use Rattle.step_meaning.proofs.spread.spread_value.Goals as goal

pub returns-in_err-function_for : goal.returns-in_err-function_for
returns-in_err-function_for c vs h =
    let p = c.args.origin.now.program in
    let u = routine_at p.pool.now c.args.routine.now in
    let d = start_at p.pool.now c.args.start.now in
    let s = state_of c.args.state.now in
    let ns = drop c.args.used.now c.args.choices.now in
    let ms = drop c.each_first.new.used c.args.choices.now in
    let us = c.in_ok-values.values.items in
    paused _ c.from_residual-in_err-function_for.result _ _ _ c.from_residual-in_err-function_for.ensures
    (pauses_is _ (checked p u c.args.ids.now c.args.place us ms) _ (sym (spread_alike p u vs c.args.ids.now c.args.place d s ns h ∙ through _ us ms (checked p u c.args.ids.now c.args.place) (c.in_ok-values.ensures vs h)))
    (pauses_flowing c.in_err-function_for.field-0.0 (bounded c.args.place (fun (values_in c.args.ids.now) (values_in us))) (λ f. falls f ms) c.in_err-function_for.ensures))

pub returns : goal.returns
returns c vs h =
    let p = c.args.origin.now.program in
    let u = routine_at p.pool.now c.args.routine.now in
    let d = start_at p.pool.now c.args.start.now in
    let s = state_of c.args.state.now in
    let ns = drop c.args.used.now c.args.choices.now in
    let ms = drop c.each_first.new.used c.args.choices.now in
    let us = c.in_ok-values.values.items in
    spread_alike p u vs c.args.ids.now c.args.place d s ns h
    ∙ through _ us ms (checked p u c.args.ids.now c.args.place) (c.in_ok-values.ensures vs h)
    ∙ outcome_through (bounded c.args.place (fun (values_in c.args.ids.now) (values_in us))) c.in_ok-function_for.field-0 (λ f. falls f ms) c.in_ok-function_for.ensures
