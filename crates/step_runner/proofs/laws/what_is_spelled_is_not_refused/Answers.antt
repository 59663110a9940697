-- Proves the law `what_is_spelled_is_not_refused`.
use Rattle.step_runner.proofs.FilesOnce.{config_or_offence, script_or_offence, trace_or_offence}
use Rattle.step_runner.proofs.laws.what_is_spelled_is_not_refused.Goals as goal

pub returns-clause-config : goal.returns-clause-config
returns-clause-config c = config_or_offence

pub returns-clause-script : goal.returns-clause-script
returns-clause-script c = script_or_offence

pub returns-clause-trace : goal.returns-clause-trace
returns-clause-trace c = trace_or_offence
