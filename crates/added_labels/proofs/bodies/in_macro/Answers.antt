-- Proves that a macro has its labels.
use Rattle.added_labels.proofs.BodyLaws.{macro_is}
use Rattle.added_labels.proofs.bodies.in_macro.Goals as goal

pub returns-clause-with : goal.returns-clause-with
returns-clause-with c = macro_is c.args.pool.now c.args.place.now c.args.plan.now c.in_body.new.plan c.args.one c.in_ok-with.with c.requires.silent c.in_ok-with.ensures.with
