-- Proves the law `sets_are_their_members`.
use Rattle.tla_value.proofs.OrderSets.{same_members, holds_set_from, set_from_ascending}
use Rattle.tla_value.proofs.laws.sets_are_their_members.Goals as goal

pub returns-clause-same : goal.returns-clause-same
returns-clause-same c = same_members

pub returns-clause-members : goal.returns-clause-members
returns-clause-members c = holds_set_from

pub returns-clause-canonical : goal.returns-clause-canonical
returns-clause-canonical c = set_from_ascending
