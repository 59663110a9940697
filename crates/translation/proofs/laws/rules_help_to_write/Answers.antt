-- Proves the law `rules_help_to_write`.
use Rattle.translation.proofs.AcceptedNames.{names_once, definitions_free, bodies_labelled}
use Rattle.translation.proofs.laws.rules_help_to_write.Goals as goal

pub returns-clause-once : goal.returns-clause-once
returns-clause-once c = names_once

pub returns-clause-free : goal.returns-clause-free
returns-clause-free c = definitions_free

pub returns-clause-labelled : goal.returns-clause-labelled
returns-clause-labelled c = bodies_labelled
