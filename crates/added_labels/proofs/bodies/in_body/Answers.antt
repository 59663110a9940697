-- Proves that a body has its labels.
use Rattle.std.proofs.Common.{refl}
use Rattle.added_labels.specs.Sight.{effects_of}
use Rattle.added_labels.proofs.SightLaws.{if_ok_then}
use Rattle.added_labels.proofs.BodyLaws.{body_is, chosen_here}
use Rattle.added_labels.proofs.bodies.in_body.Goals as goal

pub returns-clause-with : goal.returns-clause-with
returns-clause-with c =
    if_ok_then _ _ c.statements.result (λ r h ms a p b.
    body_is (effects_of c.args.place.now ms) p c.args.pool.now c.args.plan.now _ c.statements.new.self c.args.body.items r.items
    (chosen_here (effects_of c.args.place.now ms) p c.args.pool.now c.deref.result.now c.args.body.items _ _ c.deref.ensures.value c.new-wanted.ensures.items (c.in_ok-choose.ensures ms a p b)) refl refl h) c.statements.ensures.puts
