-- Proves what each variable asks, and that the first that isn't allowed decides, or the first stop.
use Rattle.std.proofs.Common.{◌<◌, ◌≤◌, Bool, Ok, length, map, get_or, sym, ap, ◌∙◌, arith}
use Rattle.tla_tree.specs.Nesting.{greatest}
use Rattle.tla_tree.proofs.PoolNumbers.{past_at}
use Rattle.pcal_tree.specs.InMemory.{past_start, past_declaration}
use Rattle.value_forms.proofs.StopLaws.{tells_err}
use Rattle.step_spots.specs.InMemory.{routine_at}
use Rattle.step_moves.specs.Programs.{program_at}
use Rattle.step_moves.specs.StatesOf.{state_of}
use Rattle.step_moves.proofs.SettingLists.{found}
use Rattle.step_meaning.proofs.LocalLaws.{prepared_at}
use Rattle.start_troubles.proofs.AskedLaws.{all_asked, stops_is, asked_next, asked_not, asked_stops, asked_done}
use Rattle.start_troubles.proofs.LocalLaws.{one_local, locals_all}
use Rattle.start_troubles.proofs.locals.locals_allowed.Goals as goal

pub local_allowed-requires-clause-below : goal.local_allowed-requires-clause-below
local_allowed-requires-clause-below c =
    let h : past_start c.index-list-i.result.start ≤ greatest (map past_declaration c.args.list.now) = past_at past_declaration c.args.list.now c.loop-i.i c.index-list-i.result c.index-list-i.is c.loop-i-test.true in omega (arith, h, c.requires.below)

pub local_allowed-requires-clause-within : goal.local_allowed-requires-clause-within
local_allowed-requires-clause-within c =
    let less : c.loop-i.i < length c.args.prepared.now = omega (arith, c.loop-i-test.true, c.requires.many) in
    let h : past_start (get_or c.args.prepared.now c.loop-i.i c.index-prepared-i.result).start ≤ greatest (map past_declaration c.args.prepared.now) = past_at past_declaration c.args.prepared.now c.loop-i.i (get_or c.args.prepared.now c.loop-i.i c.index-prepared-i.result) (found c.args.prepared.now c.loop-i.i c.index-prepared-i.result less) less in omega (arith, h, c.requires.within)

pub local_allowed-requires-clause-prepared : goal.local_allowed-requires-clause-prepared
local_allowed-requires-clause-prepared c =
    let p = c.args.origin.now.program in
    let less : c.loop-i.i < length c.args.prepared.now = omega (arith, c.loop-i-test.true, c.requires.many) in
    prepared_at p.pool.now (program_at p) (routine_at p.pool.now c.args.routine.now) c.args.prepared.now c.args.list.now c.loop-i.i (get_or c.args.prepared.now c.loop-i.i c.index-prepared-i.result) c.index-list-i.result c.requires.prepared c.loop-i-test.true
    (found c.args.prepared.now c.loop-i.i c.index-prepared-i.result less) c.index-list-i.is

pub returns-in_err-allowed : goal.returns-in_err-allowed
returns-in_err-allowed c spread vs h =
    let p = c.args.origin.now.program in
    let u = routine_at p.pool.now c.args.routine.now in
    let one = one_local p u spread vs (state_of c.args.state.now) in
    let k = c.in_err-allowed.field-0.0 in
    tells_err c.from_residual.result k _ c.from_residual.ensures
    (stops_is k (all_asked one c.args.list.now) _ (locals_all p u spread vs (state_of c.args.state.now) c.args.list.now)
    (asked_stops one c.args.list.now c.loop-i.i c.index-list-i.result k c.loop-i-test.true c.index-list-i.is (c.in_err-allowed.ensures spread vs h) (c.loop-i.invariant spread vs h)))

pub returns-then-not-allowed : goal.returns-then-not-allowed
returns-then-not-allowed c spread vs h =
    let p = c.args.origin.now.program in
    let u = routine_at p.pool.now c.args.routine.now in
    sym (locals_all p u spread vs (state_of c.args.state.now) c.args.list.now)
    ∙ asked_not (one_local p u spread vs (state_of c.args.state.now)) c.args.list.now c.loop-i.i c.index-list-i.result c.loop-i-test.true c.index-list-i.is
    (c.in_ok-allowed.ensures spread vs h ∙ ap (λ (b : Bool). Ok b) c.if-not-allowed.true) (c.loop-i.invariant spread vs h)

pub loop-i-preserved : goal.loop-i-preserved
loop-i-preserved c spread vs h =
    let p = c.args.origin.now.program in
    asked_next (one_local p (routine_at p.pool.now c.args.routine.now) spread vs (state_of c.args.state.now)) c.args.list.now c.loop-i.i c.index-list-i.result c.loop-i-test.true c.index-list-i.is
    (c.in_ok-allowed.ensures spread vs h ∙ ap (λ (b : Bool). Ok b) c.if-not-allowed.false) (c.loop-i.invariant spread vs h)

pub returns : goal.returns
returns c spread vs h =
    let p = c.args.origin.now.program in
    let u = routine_at p.pool.now c.args.routine.now in
    sym (locals_all p u spread vs (state_of c.args.state.now) c.args.list.now)
    ∙ asked_done (one_local p u spread vs (state_of c.args.state.now)) c.args.list.now c.loop-i.i c.loop-i-test.false (c.loop-i.invariant spread vs h)
