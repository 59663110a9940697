-- Proves the law `runs_by_the_meaning_are_followed`.
use Rattle.written_runs.specs.Ways.{by_meaning}
use Rattle.written_runs.proofs.SameRuns.{stepped_same, begun_same, followed_same, meant}
use Rattle.written_runs.proofs.laws.runs_by_the_meaning_are_followed.Goals as goal

pub returns-clause-step : goal.returns-clause-step
returns-clause-step c P = stepped_same by_meaning P (meant P)

pub returns-clause-start : goal.returns-clause-start
returns-clause-start c P = begun_same by_meaning P (meant P)

pub returns-clause-script : goal.returns-clause-script
returns-clause-script c P = followed_same by_meaning P (meant P)
