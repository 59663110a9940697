-- Proves the law `written_jumps_do_what_the_rules_say`.
use Rattle.action_builder.proofs.Rules.{rules_do, rules_do_pairs}
use Rattle.action_builder.proofs.laws.written_jumps_do_what_the_rules_say.Goals as goal

pub returns-clause-calls : goal.returns-clause-calls
returns-clause-calls c = rules_do

pub returns-clause-pairs : goal.returns-clause-pairs
returns-clause-pairs c = rules_do_pairs
