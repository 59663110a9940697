-- Proves that the variables are those that they should be.
use Rattle.std.proofs.Common.{◌∷◌, List, map, true, false, sym, subst, ◌∙◌}
use Rattle.tla_value.specs.Order.{IsAscending}
use Rattle.tla_value.specs.Value.{Value, values_in}
use Rattle.pcal_tree.specs.Algorithm.{locals}
use Rattle.step_moves.specs.InMemory.{actor_at}
use Rattle.step_spots.specs.InMemory.{routine_at}
use Rattle.step_moves.specs.Programs.{program_at}
use Rattle.step_moves.specs.StatesOf.{state_of}
use Rattle.step_meaning.specs.Identified.{those, HaveThese}
use Rattle.step_meaning.proofs.ActorLaws.{ascending_of}
use Rattle.step_meaning.proofs.ReadiedLaws.{first_none, first_some}
use Rattle.written_traces.specs.AskedStarts.{as_written, locals_asked}
use Rattle.start_troubles.proofs.AskedLaws.{tells_is}
use Rattle.start_troubles.proofs.LocalLaws.{none_have}
use Rattle.start_troubles.proofs.routines.routine_allowed.Goals as goal

pub owned_allowed-requires-clause-ordered : goal.owned_allowed-requires-clause-ordered
owned_allowed-requires-clause-ordered c =
    let ts = c.args.origin.now.program.pool.now in
    subst (λ (ws : List Value). IsAscending (values_in ws)) (sym c.as_slice.ensures.value) (ascending_of c.args.whose (map (actor_at ts) c.args.actors.now) c.in_ok-ids.ids.items (c.in_ok-ids.ensures ts) c.requires.ascending)

pub returns-then-spread : goal.returns-then-spread
returns-then-spread c =
    let p = c.args.origin.now.program in
    let u = routine_at p.pool.now c.args.routine.now in
    let vs = those c.args.whose (map (actor_at p.pool.now) c.args.actors.now) in
    tells_is c.owned_allowed.result _ _ (λ i. locals_asked (as_written (program_at p)) (program_at p) u (sym c.if-spread.true i) vs (locals u) (state_of c.args.state.now))
    (c.owned_allowed.ensures true vs (subst (HaveThese vs) (sym c.as_slice.ensures.value) (c.in_ok-ids.ensures p.pool.now)))

pub returns-in-None : goal.returns-in-None
returns-in-None c =
    let p = c.args.origin.now.program in
    let u = routine_at p.pool.now c.args.routine.now in
    let vs = those c.args.whose (map (actor_at p.pool.now) c.args.actors.now) in
    let s = state_of c.args.state.now in
    (λ i. locals_asked (as_written (program_at p)) (program_at p) u (c.if-spread.false i) (first_none vs (sym (c.in-None.ensures p.pool.now)) i) (locals u) s) ∙ none_have p u (locals u) s

pub returns-in_ok-bound-in-Some : goal.returns-in_ok-bound-in-Some
returns-in_ok-bound-in-Some c =
    let p = c.args.origin.now.program in
    let u = routine_at p.pool.now c.args.routine.now in
    let one = actor_at p.pool.now c.in-Some.actor.now in
    let there = first_some (those c.args.whose (map (actor_at p.pool.now) c.args.actors.now)) one (sym (c.in-Some.ensures p.pool.now)) in
    tells_is c.owned_allowed-in-Some.result _ _ (λ i. locals_asked (as_written (program_at p)) (program_at p) u (sym c.if-spread.false i) (sym there.1 i) (locals u) (state_of c.args.state.now))
    (c.owned_allowed-in-Some.ensures false (one ∷ there.0) (c.in_ok-bound-in-Some.ensures (program_at p) p.pool.now c.requires.origin.self_is))
