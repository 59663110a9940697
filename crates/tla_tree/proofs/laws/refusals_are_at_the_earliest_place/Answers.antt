-- Proves the law `refusals_are_at_the_earliest_place`.
use Rattle.tla_tree.proofs.StopsThere.{refused_is_completed}
use Rattle.tla_tree.proofs.LimitedStops.{completed_within}
use Rattle.tla_tree.proofs.laws.refusals_are_at_the_earliest_place.Goals as goal

pub returns-clause-whole : goal.returns-clause-whole
returns-clause-whole c = refused_is_completed

pub returns-clause-within : goal.returns-clause-within
returns-clause-within c = completed_within
