-- Proves the law `a_file_is_spelled_or_refused`.
use Rattle.step_runner.proofs.FilesTold.{config_told, script_told, trace_told}
use Rattle.step_runner.proofs.laws.a_file_is_spelled_or_refused.Goals as goal

pub returns-clause-config : goal.returns-clause-config
returns-clause-config c = config_told

pub returns-clause-script : goal.returns-clause-script
returns-clause-script c = script_told

pub returns-clause-trace : goal.returns-clause-trace
returns-clause-trace c = trace_told
