-- Proves the law `starts_are_asked_by_the_written_names`.
use Rattle.written_traces.proofs.AskedLaws.{asked_declared}
use Rattle.written_traces.proofs.WrittenStarts.{asked_written}
use Rattle.written_traces.proofs.laws.starts_are_asked_by_the_written_names.Goals as goal

pub returns-clause-declared : goal.returns-clause-declared
returns-clause-declared c = asked_declared

pub returns-clause-written : goal.returns-clause-written
returns-clause-written c = asked_written
