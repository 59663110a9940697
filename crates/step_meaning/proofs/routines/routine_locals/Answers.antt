-- Proves that the variables are for whom they should be.
use Rattle.std.proofs.Common.{[], map, drop, sym, ◌∙◌}
use Rattle.pcal_tree.specs.Algorithm.{locals}
use Rattle.step_walks.specs.FirstValues.{as_written}
use Rattle.step_walks.specs.StartFlows.{locals_flow}
use Rattle.step_moves.specs.InMemory.{actor_at}
use Rattle.step_spots.specs.InMemory.{routine_at}
use Rattle.step_moves.specs.Programs.{program_at}
use Rattle.step_moves.specs.StatesOf.{state_of}
use Rattle.step_meaning.specs.Identified.{those}
use Rattle.step_meaning.proofs.FlowLaws.{flows_is}
use Rattle.step_meaning.proofs.LocalLaws.{none_have}
use Rattle.step_meaning.proofs.ReadiedLaws.{first_none, first_some}
use Rattle.step_meaning.proofs.routines.routine_locals.Goals as goal

pub returns-in-None-clause-set : goal.returns-in-None-clause-set
returns-in-None-clause-set c =
    let p = c.args.origin.now.program in
    let u = routine_at p.pool.now c.args.routine.now in
    let vs = those c.args.whose (map (actor_at p.pool.now) c.args.actors.now) in
    let s = state_of c.args.state.now in
    let ns = drop c.args.used.now c.args.choices.now in
    (λ i. locals_flow (as_written (program_at p) []) (program_at p) u (c.if-spread.false i) (first_none vs (sym (c.in-None.ensures p.pool.now)) i) (locals u) s ns) ∙ none_have p u (locals u) s ns

pub returns-in-Some-clause-set : goal.returns-in-Some-clause-set
returns-in-Some-clause-set c =
    let p = c.args.origin.now.program in
    let u = routine_at p.pool.now c.args.routine.now in
    let vs = those c.args.whose (map (actor_at p.pool.now) c.args.actors.now) in
    let s = state_of c.args.state.now in
    let ns = drop c.args.used.now c.args.choices.now in
    let there = first_some vs (actor_at p.pool.now c.in-Some.actor.now) (sym (c.in-Some.ensures p.pool.now)) in
    flows_is _ c.plain_routine.result _ _ _ (λ i. locals_flow (as_written (program_at p) []) (program_at p) u (sym c.if-spread.false i) (sym there.1 i) (locals u) s ns) (c.plain_routine.ensures.set there.0)
