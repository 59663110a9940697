use Rattle.tla_token.proofs.Fronts.{worded_sign}
use Rattle.tla_token.proofs.part.worded.Goals as goal

pub returns-in-Some : goal.returns-in-Some
returns-in-Some c = worded_sign c.args.word.now c.in-Some.sign c.in-Some.ensures
