-- Proves the laws.
use Rattle.step_moves.proofs.SightLaws.{seen_before, seen_in_state}
use Rattle.step_moves.proofs.laws.expressions_are_seen_alike.Goals as goal

pub returns-clause-before : goal.returns-clause-before
returns-clause-before c = seen_before

pub returns-clause-state : goal.returns-clause-state
returns-clause-state c = seen_in_state
