-- Proves what each global variable asks, and that a pause is the whole's.
use Rattle.std.proofs.Common.{◌≡◌, ◌≤◌, map, true, drop, arith}
use Rattle.tla_token.specs.Signs.{is_among}
use Rattle.tla_tree.specs.Nesting.{greatest}
use Rattle.tla_tree.proofs.PoolNumbers.{past_at}
use Rattle.pcal_tree.specs.InMemory.{past_start, past_declaration}
use Rattle.pcal_tree.specs.Variables.{vars}
use Rattle.step_moves.specs.Programs.{program_at}
use Rattle.step_moves.specs.StatesOf.{state_of}
use Rattle.step_meaning.proofs.FlowLaws.{paused}
use Rattle.step_meaning.proofs.LocalLaws.{global_known, globals_pause}
use Rattle.step_meaning.proofs.globals.globals.Goals as goal

pub global-requires-clause-below : goal.global-requires-clause-below
global-requires-clause-below c =
    let h : past_start c.one-item.result.start ≤ greatest (map past_declaration c.args.list.now) = past_at past_declaration c.args.list.now c.loop-one.one-index c.one-item.result c.one-item.is c.loop-one-test.true in omega (arith, h, c.requires.below)

pub global-requires-clause-known : goal.global-requires-clause-known
global-requires-clause-known c = global_known (λ x. is_among (vars (program_at c.args.program.now)) x ≡ true) c.args.list.now c.loop-one.one-index c.one-item.result c.loop-one-test.true c.one-item.is c.requires.known

pub returns-in_err-global-clause-set : goal.returns-in_err-global-clause-set
returns-in_err-global-clause-set c =
    paused _ c.from_residual.result c.in_err-global.field-0.0 _ _ c.from_residual.ensures
    (globals_pause c.args.program.now c.args.list.now (state_of c.args.state.now) (drop c.args.used.now c.args.choices.now) c.loop-one.one-index c.one-item.result (state_of c.loop-one.state) (drop c.loop-one.used c.args.choices.now) c.in_err-global.field-0.0
    c.loop-one-test.true c.one-item.is c.in_err-global.ensures.set c.loop-one.invariant.flows)
