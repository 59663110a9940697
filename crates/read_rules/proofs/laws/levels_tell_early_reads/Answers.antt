-- The lists are the same.
use Rattle.std.proofs.Common.{ap}
use Rattle.pcal_tree.specs.Offences.{first}
use Rattle.read_rules.proofs.EarlyTold.{order_told}
use Rattle.read_rules.proofs.laws.levels_tell_early_reads.Goals as goal

pub returns-clause-same : goal.returns-clause-same
returns-clause-same c = order_told

pub returns-clause-first : goal.returns-clause-first
returns-clause-first c = λ a. ap first (order_told a)
