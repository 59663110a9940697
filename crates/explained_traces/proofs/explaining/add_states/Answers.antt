-- Proves that the states after the first are looked at behind it, or that it is where the trace stops.
use Rattle.std.proofs.Common.{refl, sym, ap, subst, ◌∙◌}
use Rattle.std.specs.List.{AllByRecursion}
use Rattle.tla_value.specs.States.{value_of}
use Rattle.followed_runs.specs.Parties.{program_of, actors_of}
use Rattle.step_meaning.proofs.StandLaws.{if_ok}
use Rattle.explained_traces.specs.Halts.{halt_by, halt_of}
use Rattle.explained_traces.specs.Judging.{IsState}
use Rattle.explained_traces.proofs.TraceLaws.{no_states, not_begun_from, begun_from}
use Rattle.explained_traces.proofs.explaining.add_states.Goals as goal

pub start_halt-requires-clause-state : goal.start_halt-requires-clause-state
start_halt-requires-clause-state c = (subst (AllByRecursion (IsState c.args.judge.now)) c.in-Some.ensures.cases.0 c.requires.trace).0

pub add_pairs-requires : goal.add_pairs-requires
add_pairs-requires c =
    let all = subst (AllByRecursion (IsState c.args.judge.now)) c.in-Some.ensures.cases.0 c.requires.trace in
    record { judge = c.requires.judge; first = all.0; rest = all.1 }

pub returns-in-Some-2 : goal.returns-in-Some-2
returns-in-Some-2 c = λ m a.
    let j = c.args.judge.now in
    not_begun_from (program_of j.party) m (value_of j.asked.constants.now) (actors_of j.party) c.args.trace.now c.in-Some.first.now c.in-Some.rest.now c.in-Some.ensures.cases.0
    (halt_by c.in-Some-2.halt) _ c.args.text.now (sym (ap halt_of c.in-Some-2.is) ∙ c.in_ok-halt-in-Some.ensures m a) refl

pub returns-in_ok-add_state-in-None-2 : goal.returns-in_ok-add_state-in-None-2
returns-in_ok-add_state-in-None-2 c =
    let j = c.args.judge.now in
    let P = program_of j.party in
    if_ok _ _ c.add_pairs.result c.add_pairs.ensures
    (λ o g m a. begun_from P m (value_of j.asked.constants.now) (actors_of j.party) c.args.trace.now c.in-Some.first.now c.in-Some.rest.now c.in-Some.ensures.cases.0
    c.args.text.now c.add_state.new.out c.add_pairs.new.text o (sym (ap halt_of c.in-None-2.is) ∙ c.in_ok-halt-in-Some.ensures m a)
    (c.in_ok-add_state-in-None-2.ensures P (sym c.requires.judge.party.variables)) (g m a))

pub returns-in-None : goal.returns-in-None
returns-in-None c = λ m a.
    let j = c.args.judge.now in
    no_states (program_of j.party) m (value_of j.asked.constants.now) (actors_of j.party) c.args.trace.now c.args.text.now c.in-None.ensures.cases
