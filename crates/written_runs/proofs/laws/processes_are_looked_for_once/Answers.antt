-- Proves the law `processes_are_looked_for_once`.
use Rattle.written_runs.proofs.OnceRuns.{turns_once, begun_once, script_once}
use Rattle.written_runs.proofs.laws.processes_are_looked_for_once.Goals as goal

pub returns-clause-turns : goal.returns-clause-turns
returns-clause-turns c = turns_once

pub returns-clause-start : goal.returns-clause-start
returns-clause-start c = begun_once

pub returns-clause-script : goal.returns-clause-script
returns-clause-script c = script_once
