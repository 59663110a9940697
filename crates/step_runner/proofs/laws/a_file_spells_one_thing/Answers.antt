-- Proves the law `a_file_spells_one_thing`.
use Rattle.step_runner.proofs.FilesOnce.{config_once, script_once, trace_once}
use Rattle.step_runner.proofs.laws.a_file_spells_one_thing.Goals as goal

pub returns-clause-config : goal.returns-clause-config
returns-clause-config c = config_once

pub returns-clause-script : goal.returns-clause-script
returns-clause-script c = script_once

pub returns-clause-trace : goal.returns-clause-trace
returns-clause-trace c = trace_once
