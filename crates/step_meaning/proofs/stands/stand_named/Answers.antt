-- Proves that the label is found at which the process is.
use Rattle.std.proofs.Common.{ap, sym, ◌∙◌}
use Rattle.std.specs.Option.{option_map}
use Rattle.step_moves.specs.Programs.{program_at}
use Rattle.step_spots.specs.InMemory.{routine_at}
use Rattle.step_moves.specs.InMemory.{actor_at}
use Rattle.step_meaning.specs.StandsAt.{stand_at}
use Rattle.step_meaning.proofs.StandLaws.{named_first, named_later, if_ok}
use Rattle.step_meaning.proofs.stands.stand_named.Goals as goal

pub returns-in-Some-clause-found : goal.returns-in-Some-clause-found
returns-in-Some-clause-found c =
    let ts = c.args.stage.now.program.pool.now in
    named_first (program_at c.args.stage.now.program) c.requires.stage.openable c.args.label.now (actor_at ts c.args.actor.now) (routine_at ts c.in_ok-own.own) (stand_at ts c.in-Some.stand) c.in_ok-own.ensures.prepared
    (sym (ap (option_map (stand_at ts)) c.in-Some.is) ∙ c.in_ok-stand.ensures.found)

pub returns-in-None-clause-found : goal.returns-in-None-clause-found
returns-in-None-clause-found c =
    let ts = c.args.stage.now.program.pool.now in
    if_ok _ _ c.stand_in_procedures.result c.stand_in_procedures.ensures.found
    (λ r h. named_later (program_at c.args.stage.now.program) c.requires.stage.openable c.args.label.now (actor_at ts c.args.actor.now) (routine_at ts c.in_ok-own.own) (option_map (stand_at ts) r) c.in_ok-own.ensures.prepared
    (sym (ap (option_map (stand_at ts)) c.in-None.is) ∙ c.in_ok-stand.ensures.found) h)
