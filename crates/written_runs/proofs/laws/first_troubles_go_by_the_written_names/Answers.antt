-- Proves the law `first_troubles_go_by_the_written_names`.
use Rattle.written_runs.proofs.WrittenLaws.{all_same, searched}
use Rattle.written_runs.proofs.laws.first_troubles_go_by_the_written_names.Goals as goal

pub returns-clause-courses : goal.returns-clause-courses
returns-clause-courses c = all_same

pub returns-clause-search : goal.returns-clause-search
returns-clause-search c = searched
