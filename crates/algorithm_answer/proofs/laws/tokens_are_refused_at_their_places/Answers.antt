-- Proves the law.
use Rattle.algorithm_answer.proofs.PlacedTokens.{algorithm_placed, refusals_placed}
use Rattle.algorithm_answer.proofs.laws.tokens_are_refused_at_their_places.Goals as goal

pub returns : goal.returns
returns c = λ text from to ts t l e. refusals_placed text ts (algorithm_placed text from to ts t l) e
