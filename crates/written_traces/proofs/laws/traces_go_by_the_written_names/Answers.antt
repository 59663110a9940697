-- Proves the law `traces_go_by_the_written_names`.
use Rattle.written_traces.proofs.TraceLaws.{explained_same}
use Rattle.written_traces.proofs.laws.traces_go_by_the_written_names.Goals as goal

pub returns : goal.returns
returns c = explained_same
