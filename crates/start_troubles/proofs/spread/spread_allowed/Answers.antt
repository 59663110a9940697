-- Proves that the members of the set are asked.
use Rattle.std.proofs.Common.{sym, ap, ◌∙◌}
use Rattle.tla_tree.specs.Pool.{at}
use Rattle.tla_value.specs.Limits.{bounded}
use Rattle.tla_value.specs.Value.{values_in}
use Rattle.pcal_tree.specs.declared.algorithm.Start.{Start}
use Rattle.pcal_tree.specs.InMemory.{start_at}
use Rattle.pcal_tree.specs.Scope.{value_of}
use Rattle.step_spots.specs.InMemory.{routine_at}
use Rattle.step_moves.specs.Programs.{program_at}
use Rattle.step_moves.specs.StatesOf.{state_of}
use Rattle.step_moves.specs.ScopeIn.{scope_in}
use Rattle.written_traces.specs.AskedStarts.{as_written, spread_asked}
use Rattle.start_troubles.proofs.GivenLaws.{members_tell}
use Rattle.start_troubles.proofs.spread.spread_allowed.Goals as goal

pub returns-in_ok-members-in-Among : goal.returns-in_ok-members-in-Among
returns-in_ok-members-in-Among c vs h =
    let p = c.args.origin.now.program in
    let P = program_at p in
    let u = routine_at p.pool.now c.args.routine.now in
    let s = state_of c.args.state.now in
    let e = at p.pool.now c.in-Among.e in
    ap (λ (d : Start). spread_asked (as_written P) P u vs c.args.place (start_at p.pool.now d) s c.args.f.now) c.in-Among.is
    ∙ members_tell P u vs c.args.ids.now h c.args.place e s c.args.f.now c.in_ok-set-in-Among.set (values_in c.in_ok-members-in-Among.members.now) c.gives_members.result
    (sym (λ i. value_of bounded e (scope_in P (c.unbound-bound.ensures.names i) (c.unbound-bound.ensures.values i)) s) ∙ c.in_ok-set-in-Among.ensures) c.in_ok-members-in-Among.ensures.members c.gives_members.ensures
