use Rattle.tla_token.proofs.Fronts.{mark_sign}
use Rattle.tla_token.proofs.part.longest_mark.Goals as goal

pub returns-in-Some : goal.returns-in-Some
returns-in-Some c = mark_sign c.args.text.now c.in-Some.sign c.spelling_len.result c.unwrap_or.result c.in-Some.ensures c.spelling_len.ensures c.unwrap_or.ensures
