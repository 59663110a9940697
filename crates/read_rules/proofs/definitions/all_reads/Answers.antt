-- Proves what definitions read.
use Rattle.read_rules.proofs.ReadLaws.{reads_none}
use Rattle.read_rules.proofs.definitions.all_reads.Goals as goal

pub returns-in-Ok : goal.returns-in-Ok
returns-in-Ok c = λ gs e. c.in-Ok.ensures gs e (reads_none _ c.new.ensures)
