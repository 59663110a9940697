-- Proves the law `runs_go_by_the_written_names`.
use Rattle.std.proofs.Common.{◌∙◌}
use Rattle.pcal_tree.specs.Programs.{program_in}
use Rattle.written_runs.specs.Ways.{by_written_names}
use Rattle.written_runs.proofs.SameRuns.{stepped_same, begun_same, followed_same, written_as_meant}
use Rattle.written_runs.proofs.OnceRuns.{script_once}
use Rattle.written_runs.proofs.laws.runs_go_by_the_written_names.Goals as goal

pub returns-clause-step : goal.returns-clause-step
returns-clause-step c b o g h values = stepped_same by_written_names (program_in b o g values) (written_as_meant b o g h values)

pub returns-clause-start : goal.returns-clause-start
returns-clause-start c b o g h values = begun_same by_written_names (program_in b o g values) (written_as_meant b o g h values)

pub returns-clause-script : goal.returns-clause-script
returns-clause-script c b o g h values = followed_same by_written_names (program_in b o g values) (written_as_meant b o g h values)

pub returns-clause-once : goal.returns-clause-once
returns-clause-once c b o g h values script =
    let P = program_in b o g values in
    script_once P script ∙ followed_same by_written_names P (written_as_meant b o g h values) script
