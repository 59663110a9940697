-- Proves that variables get their first values one after another, and what stops that.
use Rattle.std.proofs.Common.{◌≡◌, ◌≤◌, true, arith}
use Rattle.tla_token.specs.Signs.{is_among}
use Rattle.tla_tree.proofs.PoolNumbers.{past_at}
use Rattle.pcal_tree.specs.InMemory.{past_declaration, past_declarations}
use Rattle.pcal_tree.specs.Variables.{vars}
use Rattle.value_forms.proofs.StopLaws.{err_is}
use Rattle.written_names.specs.Units.{naming_of}
use Rattle.step_spots.specs.InMemory.{routine_at}
use Rattle.step_moves.specs.Programs.{program_at}
use Rattle.step_moves.specs.StatesOf.{state_of}
use Rattle.step_moves.specs.Prepared.{as_prepared}
use Rattle.step_moves.specs.Runners.{names_of}
use Rattle.step_moves.proofs.EntryForms.{variable_known, started_next, started_stops, started_end}
use Rattle.step_moves.proofs.entries.start_all.Goals as goal

pub start_one-requires-clause-below : goal.start_one-requires-clause-below
start_one-requires-clause-below c =
    let ds = c.args.visit.now.callee.variables.now in
    let below : past_declaration c.one-item.result ≤ past_declarations ds = past_at past_declaration ds c.loop-one.one-index c.one-item.result c.one-item.is c.loop-one-test.true in
    omega (arith, below, c.requires.callee.within)

pub start_one-requires-clause-known : goal.start_one-requires-clause-known
start_one-requires-clause-known c =
    let r = c.args.runner.now in
    let u = c.args.visit.now.callee in
    variable_known (λ x. is_among (vars (program_at r.program)) x ≡ true) ((naming_of r.program.naming.now).local u.number) (names_of u.params.now) u.variables.now c.loop-one.one-index c.one-item.result c.loop-one-test.true c.one-item.is
    c.requires.callee.variables

pub returns-in_err-start_one-clause-started : goal.returns-in_err-start_one-clause-started
returns-in_err-start_one-clause-started c v u h =
    let r = c.args.runner.now in
    let w = c.args.visit.now in
    let P = program_at r.program in
    err_is _ c.from_residual-in_err-start_one.result c.in_err-start_one.field-0.0 _ c.from_residual-in_err-start_one.ensures
    (started_stops (as_prepared P) P v (routine_at r.program.pool.now w.callee) w.place r.program.pool.now w.callee.variables.now c.loop-one.one-index c.one-item.result (state_of c.loop-one.state) _ c.loop-one-test.true c.one-item.is
    (c.loop-one.invariant.0 v u h) c.in_err-start_one.field-0.0 (c.in_err-start_one.ensures.started v h.identifier (c.in_ok-bound.ensures v u h)))

pub loop-one-preserved : goal.loop-one-preserved
loop-one-preserved c =
    let r = c.args.runner.now in
    let w = c.args.visit.now in
    let P = program_at r.program in (
      λ v u h. started_next (as_prepared P) P v (routine_at r.program.pool.now w.callee) w.place r.program.pool.now w.callee.variables.now c.loop-one.one-index c.one-item.result (state_of c.loop-one.state) _ c.loop-one-test.true c.one-item.is
          (c.loop-one.invariant.0 v u h) (state_of c.start_one.new.state) (c.in_ok-start_one.ensures.started v h.identifier (c.in_ok-bound.ensures v u h)),
      c.in_ok-start_one.ensures.scene,
    )

pub returns-clause-started : goal.returns-clause-started
returns-clause-started c v u h =
    let r = c.args.runner.now in
    let w = c.args.visit.now in
    let P = program_at r.program in
    started_end (as_prepared P) P v (routine_at r.program.pool.now w.callee) w.place r.program.pool.now w.callee.variables.now c.loop-one.one-index (state_of c.loop-one.state) _ c.loop-one-test.false (c.loop-one.invariant.0 v u h)
