-- Proves what each variable asks, and that the rest goes on from there.
use Rattle.std.proofs.Common.{◌≡◌, ◌<◌, ◌≤◌, ◌∷◌, false, true, length, map, drop, get_or, arith}
use Rattle.tla_token.specs.Signs.{is_among}
use Rattle.tla_tree.specs.Nesting.{greatest}
use Rattle.tla_tree.proofs.PoolNumbers.{past_at}
use Rattle.pcal_tree.specs.InMemory.{past_start, past_declaration}
use Rattle.pcal_tree.specs.Variables.{vars}
use Rattle.step_spots.specs.InMemory.{routine_at}
use Rattle.step_moves.specs.Programs.{program_at}
use Rattle.step_moves.specs.StatesOf.{state_of}
use Rattle.step_moves.proofs.SettingLists.{found}
use Rattle.step_meaning.proofs.FlowLaws.{paused}
use Rattle.step_meaning.proofs.LocalLaws.{local_known, prepared_at, locals_next, locals_pause, locals_done}
use Rattle.step_meaning.proofs.locals.plain_locals.Goals as goal

pub plain_local-requires-clause-within : goal.plain_local-requires-clause-within
plain_local-requires-clause-within c =
    let less : c.loop-i.i < length c.args.prepared.now = omega (arith, c.loop-i-test.true, c.requires.many) in
    let h : past_start (get_or c.args.prepared.now c.loop-i.i c.index-prepared-i.result).start ≤ greatest (map past_declaration c.args.prepared.now) = past_at past_declaration c.args.prepared.now c.loop-i.i (get_or c.args.prepared.now c.loop-i.i c.index-prepared-i.result) (found c.args.prepared.now c.loop-i.i c.index-prepared-i.result less) less in omega (arith, h, c.requires.within)

pub plain_local-requires-clause-prepared : goal.plain_local-requires-clause-prepared
plain_local-requires-clause-prepared c =
    let p = c.args.origin.now.program in
    let less : c.loop-i.i < length c.args.prepared.now = omega (arith, c.loop-i-test.true, c.requires.many) in
    prepared_at p.pool.now (program_at p) (routine_at p.pool.now c.args.routine.now) c.args.prepared.now c.args.list.now c.loop-i.i (get_or c.args.prepared.now c.loop-i.i c.index-prepared-i.result) c.index-list-i.result c.requires.prepared c.loop-i-test.true
    (found c.args.prepared.now c.loop-i.i c.index-prepared-i.result less) c.index-list-i.is

pub plain_local-requires-clause-known : goal.plain_local-requires-clause-known
plain_local-requires-clause-known c =
    let p = c.args.origin.now.program in
    local_known p.pool.now (program_at p) (routine_at p.pool.now c.args.routine.now) (λ x. is_among (vars (program_at p)) x ≡ true) c.args.list.now c.loop-i.i c.index-list-i.result c.loop-i-test.true c.index-list-i.is c.requires.known

pub returns-in_err-plain_local-clause-set : goal.returns-in_err-plain_local-clause-set
returns-in_err-plain_local-clause-set c v vs h =
    let p = c.args.origin.now.program in
    paused _ c.from_residual.result c.in_err-plain_local.field-0.0 _ _ c.from_residual.ensures
    (locals_pause p (routine_at p.pool.now c.args.routine.now) false (v ∷ vs) c.args.list.now (state_of c.args.state.now) (drop c.args.used.now c.args.choices.now) c.loop-i.i c.index-list-i.result (state_of c.loop-i.state) (drop c.loop-i.used c.args.choices.now)
    c.in_err-plain_local.field-0.0 c.loop-i-test.true c.index-list-i.is (c.in_err-plain_local.ensures.set v vs h) (c.loop-i.invariant.flows v vs h))

pub loop-i-preserved : goal.loop-i-preserved
loop-i-preserved c =
    let p = c.args.origin.now.program in
    record {
      begun = c.in_ok-plain_local.ensures.begun;
      flows = λ v vs h.
          locals_next p (routine_at p.pool.now c.args.routine.now) false (v ∷ vs) c.args.list.now (state_of c.args.state.now) (drop c.args.used.now c.args.choices.now) c.loop-i.i c.index-list-i.result (state_of c.loop-i.state) (state_of c.plain_local.new.state)
          (drop c.loop-i.used c.args.choices.now) (drop c.plain_local.new.used c.args.choices.now) c.loop-i-test.true c.index-list-i.is (c.in_ok-plain_local.ensures.set v vs h) (c.loop-i.invariant.flows v vs h);
    }

pub returns-clause-set : goal.returns-clause-set
returns-clause-set c v vs h =
    let p = c.args.origin.now.program in
    locals_done p (routine_at p.pool.now c.args.routine.now) false (v ∷ vs) c.args.list.now (state_of c.args.state.now) (drop c.args.used.now c.args.choices.now) c.loop-i.i (state_of c.loop-i.state) (drop c.loop-i.used c.args.choices.now) c.loop-i-test.false (c.loop-i.invariant.flows v vs h)
