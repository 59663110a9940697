-- Proves that the words of a routine get their names.
use Rattle.written_names.proofs.units.names_within.Goals as goal

pub returns-in-Ok : goal.returns-in-Ok
returns-in-Ok c = c.in-Ok.ensures c.new.ensures c.new-2.ensures
