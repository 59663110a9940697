-- Proves that a process has its labels.
use Rattle.added_labels.proofs.BodyLaws.{process_is}
use Rattle.added_labels.proofs.bodies.in_process.Goals as goal

pub returns-clause-with : goal.returns-clause-with
returns-clause-with c = λ ms a. process_is c.args.pool.now c.args.place.now ms c.args.plan.now c.in_body.new.plan c.args.one c.in_ok-with.with c.requires.outside (c.in_ok-with.ensures.with ms a)
