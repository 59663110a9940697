-- Proves the law `a_file_is_refused_once`.
use Rattle.step_runner.proofs.FilesOnce.{config_refused_once, script_refused_once, trace_refused_once}
use Rattle.step_runner.proofs.laws.a_file_is_refused_once.Goals as goal

pub returns-clause-config : goal.returns-clause-config
returns-clause-config c = config_refused_once

pub returns-clause-script : goal.returns-clause-script
returns-clause-script c = script_refused_once

pub returns-clause-trace : goal.returns-clause-trace
returns-clause-trace c = trace_refused_once
