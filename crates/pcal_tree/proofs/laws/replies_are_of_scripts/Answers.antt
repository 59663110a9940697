-- Proves the law `replies_are_of_scripts`.
use Rattle.pcal_tree.proofs.ReplyLaws.{step_replied, start_replied}
use Rattle.pcal_tree.proofs.ReplyConverse.{scripted}
use Rattle.pcal_tree.proofs.laws.replies_are_of_scripts.Goals as goal

pub returns-clause-step : goal.returns-clause-step
returns-clause-step c = step_replied

pub returns-clause-start : goal.returns-clause-start
returns-clause-start c = start_replied

pub returns-clause-taken : goal.returns-clause-taken
returns-clause-taken c = scripted
