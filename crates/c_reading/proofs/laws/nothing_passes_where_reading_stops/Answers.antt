-- Proves the law `nothing_passes_where_reading_stops`.
use Rattle.c_reading.proofs.FairAlgorithm.{none_through, unspelled}
use Rattle.c_reading.proofs.laws.nothing_passes_where_reading_stops.Goals as goal

pub returns-clause-refused : goal.returns-clause-refused
returns-clause-refused c = none_through

pub returns-clause-unspelled : goal.returns-clause-unspelled
returns-clause-unspelled c = unspelled
