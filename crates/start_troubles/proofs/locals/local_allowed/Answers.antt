-- Proves that the value is asked as it is declared, by whose the variable is.
use Rattle.std.proofs.Common.{subst}
use Rattle.step_spots.specs.InMemory.{routine_at}
use Rattle.step_moves.specs.Programs.{program_at}
use Rattle.step_moves.specs.StatesOf.{state_of}
use Rattle.start_troubles.specs.declared.locals.Owners.{Owners}
use Rattle.start_troubles.specs.Owned.{IsOrdered, AreOf}
use Rattle.start_troubles.proofs.LocalLaws.{each_have, first_has}
use Rattle.start_troubles.proofs.locals.local_allowed.Goals as goal

pub spread_allowed-requires-clause-ascending : goal.spread_allowed-requires-clause-ascending
spread_allowed-requires-clause-ascending c = subst (λ (o : Owners). IsOrdered o) c.in-Each.is c.requires.ordered

pub returns-in-Each : goal.returns-in-Each
returns-in-Each c spread vs h =
    let p = c.args.origin.now.program in
    each_have p (routine_at p.pool.now c.args.routine.now) c.in-Each.ids spread vs _ c.args.one.now c.local-name.result.now c.value_in-v.result.now (state_of c.args.state.now) c.spread_allowed.result
    (subst (λ (o : Owners). AreOf (program_at p) o spread vs) c.in-Each.is h) c.spread_allowed.ensures c.one.view_is c.local-name.ensures c.value_in-v.ensures

pub returns : goal.returns
returns c spread vs h =
    let p = c.args.origin.now.program in
    first_has p (routine_at p.pool.now c.args.routine.now) c.in-First.bound spread vs _ c.args.one.now c.args.prepared.now c.local-name.result.now c.value_in-v.result.now (state_of c.args.state.now) c.plain_allowed.result
    (subst (λ (o : Owners). AreOf (program_at p) o spread vs) c.in-First.is h) c.plain_allowed.ensures c.requires.prepared c.one.view_is c.local-name.ensures c.value_in-v.ensures
