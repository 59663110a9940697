-- Proves that a `with` binds one name more.
use Rattle.step_moves.proofs.ScopeLaws.{scope_more}
use Rattle.step_moves.proofs.laws.names_are_bound_one_after_another.Goals as goal

pub returns-clause-more : goal.returns-clause-more
returns-clause-more c = scope_more
