-- Proves the law `definitions_in_macros_are_looked_at_once`.
use Rattle.pcal_tree.proofs.StaleByMacro.{stale_alike, first_stale}
use Rattle.pcal_tree.proofs.BoundWrittenOut.{unbound_written_out}
use Rattle.pcal_tree.proofs.laws.definitions_in_macros_are_looked_at_once.Goals as goal

pub returns-clause-offences : goal.returns-clause-offences
returns-clause-offences c = stale_alike

pub returns-clause-first : goal.returns-clause-first
returns-clause-first c = first_stale

pub returns-clause-text : goal.returns-clause-text
returns-clause-text c = unbound_written_out
