-- Proves that parameters and then variables have their first values.
use Rattle.std.proofs.Common.{◌∷◌, false, drop}
use Rattle.step_moves.specs.InMemory.{actor_at}
use Rattle.step_moves.specs.Programs.{program_at}
use Rattle.step_moves.specs.StatesOf.{state_of}
use Rattle.step_meaning.proofs.FlowLaws.{paused}
use Rattle.step_meaning.proofs.ReadiedLaws.{params_names, variables_many, variables_names, readied_through, readied_pauses}
use Rattle.step_meaning.proofs.routines.plain_routine.Goals as goal

pub plain_locals-requires-clause-known : goal.plain_locals-requires-clause-known
plain_locals-requires-clause-known c = params_names c.args.origin.now.program c.args.routine.now c.args.locals.now c.requires.readied

pub returns-in_err-plain_locals-clause-set : goal.returns-in_err-plain_locals-clause-set
returns-in_err-plain_locals-clause-set c vs =
    let p = c.args.origin.now.program in
    let one = actor_at p.pool.now c.args.actor.now in
    paused _ c.from_residual-in_err-plain_locals.result c.in_err-plain_locals.field-0.0 _ _ c.from_residual-in_err-plain_locals.ensures
    (readied_pauses p c.args.routine.now c.args.locals.now c.requires.readied false (one ∷ vs) c.in_err-plain_locals.field-0.0 (state_of c.args.state.now) (drop c.args.used.now c.args.choices.now)
    (c.in_err-plain_locals.ensures.set one vs (c.in_ok-bound.ensures (program_at p) p.pool.now c.requires.origin.self_is)))

pub plain_locals-requires-2-clause-many : goal.plain_locals-requires-2-clause-many
plain_locals-requires-2-clause-many c = variables_many c.args.origin.now.program c.args.routine.now c.args.locals.now c.requires.readied

pub plain_locals-requires-2-clause-known : goal.plain_locals-requires-2-clause-known
plain_locals-requires-2-clause-known c = variables_names c.args.origin.now.program c.args.routine.now c.args.locals.now c.requires.readied

pub returns-clause-set : goal.returns-clause-set
returns-clause-set c vs =
    let p = c.args.origin.now.program in
    let one = actor_at p.pool.now c.args.actor.now in
    let scoped = c.in_ok-bound.ensures (program_at p) p.pool.now c.requires.origin.self_is in
    readied_through p c.args.routine.now c.args.locals.now c.requires.readied false (one ∷ vs) _ c.plain_locals-2.result _ (drop c.args.used.now c.args.choices.now) (drop c.plain_locals.new.used c.args.choices.now) (state_of c.args.state.now) (state_of c.plain_locals.new.state)
    (c.in_ok-plain_locals.ensures.set one vs scoped) (c.plain_locals-2.ensures.set one vs scoped)
