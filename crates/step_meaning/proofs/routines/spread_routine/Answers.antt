-- Proves that parameters and then variables have their first values.
use Rattle.std.proofs.Common.{List, true, map, drop, sym, subst}
use Rattle.tla_value.specs.Order.{IsAscending}
use Rattle.tla_value.specs.Value.{Value, values_in}
use Rattle.step_moves.specs.InMemory.{actor_at}
use Rattle.step_moves.specs.StatesOf.{state_of}
use Rattle.step_meaning.specs.Identified.{those, HaveThese}
use Rattle.step_meaning.proofs.ActorLaws.{ascending_of}
use Rattle.step_meaning.proofs.FlowLaws.{paused}
use Rattle.step_meaning.proofs.ReadiedLaws.{params_names, variables_many, variables_names, readied_through, readied_pauses}
use Rattle.step_meaning.proofs.routines.spread_routine.Goals as goal

pub spread_locals-requires-clause-known : goal.spread_locals-requires-clause-known
spread_locals-requires-clause-known c = params_names c.args.origin.now.program c.args.routine.now c.args.locals.now c.requires.readied

pub spread_locals-requires-clause-ascending : goal.spread_locals-requires-clause-ascending
spread_locals-requires-clause-ascending c =
    let ts = c.args.origin.now.program.pool.now in
    subst (λ (ws : List Value). IsAscending (values_in ws)) (sym c.deref.ensures.value) (ascending_of c.args.whose (map (actor_at ts) c.args.actors.now) c.in_ok-ids.ids.items (c.in_ok-ids.ensures ts) c.requires.ascending)

pub returns-in_err-spread_locals-clause-set : goal.returns-in_err-spread_locals-clause-set
returns-in_err-spread_locals-clause-set c =
    let p = c.args.origin.now.program in
    let vs = those c.args.whose (map (actor_at p.pool.now) c.args.actors.now) in
    paused _ c.from_residual-in_err-spread_locals.result c.in_err-spread_locals.field-0.0 _ _ c.from_residual-in_err-spread_locals.ensures
    (readied_pauses p c.args.routine.now c.args.locals.now c.requires.readied true vs c.in_err-spread_locals.field-0.0 (state_of c.args.state.now) (drop c.args.used.now c.args.choices.now)
    (c.in_err-spread_locals.ensures.set vs (subst (HaveThese vs) (sym c.deref.ensures.value) (c.in_ok-ids.ensures p.pool.now))))

pub spread_locals-requires-2-clause-many : goal.spread_locals-requires-2-clause-many
spread_locals-requires-2-clause-many c = variables_many c.args.origin.now.program c.args.routine.now c.args.locals.now c.requires.readied

pub spread_locals-requires-2-clause-known : goal.spread_locals-requires-2-clause-known
spread_locals-requires-2-clause-known c = variables_names c.args.origin.now.program c.args.routine.now c.args.locals.now c.requires.readied

pub spread_locals-requires-2-clause-ascending : goal.spread_locals-requires-2-clause-ascending
spread_locals-requires-2-clause-ascending c =
    let ts = c.args.origin.now.program.pool.now in
    subst (λ (ws : List Value). IsAscending (values_in ws)) (sym c.deref-2.ensures.value) (ascending_of c.args.whose (map (actor_at ts) c.args.actors.now) c.in_ok-ids.ids.items (c.in_ok-ids.ensures ts) c.requires.ascending)

pub returns-clause-set : goal.returns-clause-set
returns-clause-set c =
    let p = c.args.origin.now.program in
    let vs = those c.args.whose (map (actor_at p.pool.now) c.args.actors.now) in
    readied_through p c.args.routine.now c.args.locals.now c.requires.readied true vs _ c.spread_locals-2.result _ (drop c.args.used.now c.args.choices.now) (drop c.spread_locals.new.used c.args.choices.now) (state_of c.args.state.now) (state_of c.spread_locals.new.state)
    (c.in_ok-spread_locals.ensures.set vs (subst (HaveThese vs) (sym c.deref.ensures.value) (c.in_ok-ids.ensures p.pool.now))) (c.spread_locals-2.ensures.set vs (subst (HaveThese vs) (sym c.deref-2.ensures.value) (c.in_ok-ids.ensures p.pool.now)))
