-- Proves the law `the_first_trouble_is_found_by_a_search`.
use Rattle.written_runs.proofs.SearchLaws.{finds, same_first}
use Rattle.written_runs.proofs.laws.the_first_trouble_is_found_by_a_search.Goals as goal

pub returns-clause-found : goal.returns-clause-found
returns-clause-found c = finds

pub returns-clause-same : goal.returns-clause-same
returns-clause-same c = same_first
