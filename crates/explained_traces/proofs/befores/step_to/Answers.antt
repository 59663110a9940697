-- Proves that the step is told of the process that is found, from where it is.
use Rattle.std.proofs.Common.{None, sym, ap, ◌∙◌}
use Rattle.std.specs.Option.{option_map}
use Rattle.step_moves.specs.InMemory.{actor_at}
use Rattle.followed_runs.proofs.OwnLaws.{one_own}
use Rattle.step_meaning.proofs.StandLaws.{if_some}
use Rattle.explained_traces.proofs.BeforeLaws.{before_is, unread_before, read_before}
use Rattle.explained_traces.proofs.befores.step_to.Goals as goal

pub label_named-requires-clause-own : goal.label_named-requires-clause-own
label_named-requires-clause-own c = one_own c.args.judge.now.party.stage c.args.judge.now.party.actors.now c.in-Some.actor.now c.requires.judge.party.own (if_some _ c.in_ok-actor.field-0 c.in-Some.actor c.in-Some.is c.in_ok-actor.ensures.among)

pub returns-in-Some-2 : goal.returns-in-Some-2
returns-in-Some-2 c =
    let ts = c.args.judge.now.party.stage.program.pool.now in
    read_before c.args.judge.now c.args.pair.now (actor_at ts c.in-Some.actor.now) c.requires.judge (λ m a. sym (ap (option_map (λ x. actor_at ts x.now)) c.in-Some.is) ∙ c.in_ok-actor.ensures.found m a)
    c.in-Some-2.pc c.label_named.result (c.in_ok-pc-in-Some.ensures _ c.pc_of.ensures ∙ c.in-Some-2.is) c.label_named.ensures

pub returns-in-None-2 : goal.returns-in-None-2
returns-in-None-2 c =
    let ts = c.args.judge.now.party.stage.program.pool.now in
    unread_before c.args.judge.now c.args.pair.now (actor_at ts c.in-Some.actor.now) c.requires.judge (λ m a. sym (ap (option_map (λ x. actor_at ts x.now)) c.in-Some.is) ∙ c.in_ok-actor.ensures.found m a)
    (c.in_ok-pc-in-Some.ensures _ c.pc_of.ensures ∙ c.in-None-2.is)

pub returns-in-None : goal.returns-in-None
returns-in-None c = λ m a.
    let ts = c.args.judge.now.party.stage.program.pool.now in
    before_is c.args.judge.now m c.args.pair.now None c.requires.judge (sym (ap (option_map (λ x. actor_at ts x.now)) c.in-None.is) ∙ c.in_ok-actor.ensures.found m a)
