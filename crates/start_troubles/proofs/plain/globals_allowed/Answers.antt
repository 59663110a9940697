-- Proves that the first that isn't allowed decides, or the first stop.
use Rattle.std.proofs.Common.{◌≤◌, map, sym, ◌∙◌, ap, Ok, Bool, arith}
use Rattle.tla_tree.specs.Nesting.{greatest}
use Rattle.tla_tree.proofs.PoolNumbers.{past_at}
use Rattle.pcal_tree.specs.InMemory.{past_start, past_declaration}
use Rattle.value_forms.proofs.StopLaws.{tells_err}
use Rattle.step_moves.specs.StatesOf.{state_of}
use Rattle.start_troubles.proofs.AskedLaws.{all_asked, stops_is, asked_next, asked_not, asked_stops, asked_done}
use Rattle.start_troubles.proofs.LocalLaws.{one_global, globals_all}
use Rattle.start_troubles.proofs.plain.globals_allowed.Goals as goal

pub global_allowed-requires-clause-below : goal.global_allowed-requires-clause-below
global_allowed-requires-clause-below c =
    let h : past_start c.one-item.result.start ≤ greatest (map past_declaration c.args.list.now) = past_at past_declaration c.args.list.now c.loop-one.one-index c.one-item.result c.one-item.is c.loop-one-test.true in omega (arith, h, c.requires.below)

pub returns-in_err-allowed : goal.returns-in_err-allowed
returns-in_err-allowed c =
    let one = one_global c.args.program.now (state_of c.args.state.now) in
    let k = c.in_err-allowed.field-0.0 in
    tells_err c.from_residual.result k _ c.from_residual.ensures
    (stops_is k (all_asked one c.args.list.now) _ (globals_all c.args.program.now (state_of c.args.state.now) c.args.list.now)
    (asked_stops one c.args.list.now c.loop-one.one-index c.one-item.result k c.loop-one-test.true c.one-item.is c.in_err-allowed.ensures c.loop-one.invariant))

pub returns-then-not-allowed : goal.returns-then-not-allowed
returns-then-not-allowed c =
    let one = one_global c.args.program.now (state_of c.args.state.now) in
    sym (globals_all c.args.program.now (state_of c.args.state.now) c.args.list.now)
    ∙ asked_not one c.args.list.now c.loop-one.one-index c.one-item.result c.loop-one-test.true c.one-item.is (c.in_ok-allowed.ensures ∙ ap (λ (b : Bool). Ok b) c.if-not-allowed.true) c.loop-one.invariant

pub loop-one-preserved : goal.loop-one-preserved
loop-one-preserved c =
    asked_next (one_global c.args.program.now (state_of c.args.state.now)) c.args.list.now c.loop-one.one-index c.one-item.result c.loop-one-test.true c.one-item.is (c.in_ok-allowed.ensures ∙ ap (λ (b : Bool). Ok b) c.if-not-allowed.false) c.loop-one.invariant

pub returns : goal.returns
returns c =
    sym (globals_all c.args.program.now (state_of c.args.state.now) c.args.list.now)
    ∙ asked_done (one_global c.args.program.now (state_of c.args.state.now)) c.args.list.now c.loop-one.one-index c.loop-one-test.false c.loop-one.invariant
