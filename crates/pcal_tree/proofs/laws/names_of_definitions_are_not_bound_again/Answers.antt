-- Proves the law `names_of_definitions_are_not_bound_again`.
use Rattle.pcal_tree.proofs.RefusedAlike.{unbound_without_offences, stale_alike_without_offences, first_with_rebinds}
use Rattle.pcal_tree.proofs.laws.names_of_definitions_are_not_bound_again.Goals as goal

pub returns-clause-unbound : goal.returns-clause-unbound
returns-clause-unbound c = unbound_without_offences

pub returns-clause-offences : goal.returns-clause-offences
returns-clause-offences c = stale_alike_without_offences

pub returns-clause-first : goal.returns-clause-first
returns-clause-first c = first_with_rebinds
