use Rattle.tla_token.proofs.Fronts.{front_outer}
use Rattle.tla_token.proofs.part.part_at.Goals as goal

pub returns-in-Some-clause-part : goal.returns-in-Some-clause-part
returns-in-Some-clause-part c = front_outer c.args.text.now c.in-Some.part c.in-Some.ensures.found
