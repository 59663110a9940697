-- Proves the law `loops_follow_labels`.
use Rattle.translation.proofs.PlacedStatements.{procedure_placed, body_placed_in}
use Rattle.translation.proofs.laws.loops_follow_labels.Goals as goal

pub returns-clause-procedures : goal.returns-clause-procedures
returns-clause-procedures c = procedure_placed

pub returns-clause-bodies : goal.returns-clause-bodies
returns-clause-bodies c = body_placed_in
