-- Proves the law `steps_by_the_written_names_have_courses`.
use Rattle.written_runs.proofs.WrittenLaws.{walks_written}
use Rattle.written_runs.proofs.laws.steps_by_the_written_names_have_courses.Goals as goal

pub returns : goal.returns
returns c = walks_written
