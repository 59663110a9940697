-- Proves the law `the_bound_of_a_module_only_refuses`.
use Rattle.tla_tree.proofs.ReadBounded.{bounded_read, bounded_refuses}
use Rattle.tla_tree.proofs.laws.the_bound_of_a_module_only_refuses.Goals as goal

pub returns-clause-within : goal.returns-clause-within
returns-clause-within c = bounded_read

pub returns-clause-refuses : goal.returns-clause-refuses
returns-clause-refuses c = bounded_refuses
