-- Proves that the values are those of the declaration, by its kind.
use Rattle.std.proofs.Common.{List, drop, sym, ap, ◌∙◌}
use Rattle.tla_tree.specs.Pool.{at}
use Rattle.tla_value.specs.Value.{Value, in_order}
use Rattle.pcal_tree.specs.declared.algorithm.Start.{Start}
use Rattle.pcal_tree.specs.InMemory.{start_at}
use Rattle.action_builder.specs.InitialFormulas.{written_in}
use Rattle.step_walks.specs.Flows.{falls, flowing}
use Rattle.step_spots.specs.InMemory.{routine_at}
use Rattle.step_moves.specs.Programs.{program_at}
use Rattle.step_moves.specs.StatesOf.{state_of}
use Rattle.step_moves.specs.Prepared.{prepared_start}
use Rattle.step_meaning.proofs.FlowLaws.{outcome_through, pauses_flowing, pauses_is, paused, flows_is}
use Rattle.step_meaning.proofs.SpreadLaws.{value_each, unset_is, equals_is, among_is}
use Rattle.step_meaning.proofs.spread.each_first.Goals as goal

pub returns-in_err-each_prepared-in-Equals : goal.returns-in_err-each_prepared-in-Equals
returns-in_err-each_prepared-in-Equals c vs h =
    let p = c.args.origin.now.program in
    let u = routine_at p.pool.now c.args.routine.now in
    let e = written_in (program_at p) u (at p.pool.now c.in-Equals.field-0) in
    let ns = drop c.args.used.now c.args.choices.now in
    let made = c.requires.prepared ∙ ap (λ (d : Start). prepared_start (program_at p) u (start_at p.pool.now d)) c.in-Equals.is in
    paused _ c.from_residual-in_err-each_prepared-in-Equals.result _ _ _ c.from_residual-in_err-each_prepared-in-Equals.ensures
    (pauses_is _ (flowing (in_order (value_each p e (state_of c.args.state.now)) c.args.ids.now) (λ us. falls us ns)) _ (sym (equals_is p u vs c.args.ids.now c.args.place (state_of c.args.state.now) ns h c.args.start.now c.in-Equals.field-0 c.in-Equals.is))
    (pauses_flowing c.in_err-each_prepared-in-Equals.field-0.0 (in_order (value_each p e (state_of c.args.state.now)) c.args.ids.now) (λ us. falls us ns) (c.in_err-each_prepared-in-Equals.ensures e made)))

pub returns-in_ok-each_default-in-Unset : goal.returns-in_ok-each_default-in-Unset
returns-in_ok-each_default-in-Unset c vs h =
    let p = c.args.origin.now.program in
    let u = routine_at p.pool.now c.args.routine.now in
    let ns = drop c.args.used.now c.args.choices.now in
    unset_is p u vs c.args.ids.now c.args.place (state_of c.args.state.now) ns h c.args.start.now c.in-Unset.is ∙ ap (λ (l : List Value). falls l ns) (sym c.in_ok-each_default-in-Unset.ensures)

pub returns-in_ok-each_prepared-in-Equals : goal.returns-in_ok-each_prepared-in-Equals
returns-in_ok-each_prepared-in-Equals c vs h =
    let p = c.args.origin.now.program in
    let u = routine_at p.pool.now c.args.routine.now in
    let e = written_in (program_at p) u (at p.pool.now c.in-Equals.field-0) in
    let ns = drop c.args.used.now c.args.choices.now in
    let made = c.requires.prepared ∙ ap (λ (d : Start). prepared_start (program_at p) u (start_at p.pool.now d)) c.in-Equals.is in
    equals_is p u vs c.args.ids.now c.args.place (state_of c.args.state.now) ns h c.args.start.now c.in-Equals.field-0 c.in-Equals.is
    ∙ outcome_through (in_order (value_each p e (state_of c.args.state.now)) c.args.ids.now) c.in_ok-each_prepared-in-Equals.field-0.items (λ us. falls us ns) (c.in_ok-each_prepared-in-Equals.ensures e made)

pub returns-in-Among : goal.returns-in-Among
returns-in-Among c vs h =
    let p = c.args.origin.now.program in
    let u = routine_at p.pool.now c.args.routine.now in
    flows_is _ c.each_of_set.result _ _ _ (sym (among_is p u vs c.args.ids.now c.args.place (state_of c.args.state.now) (drop c.args.used.now c.args.choices.now) h c.args.start.now c.in-Among.e c.in-Among.is)) c.each_of_set.ensures
