-- Proves the law `nothing_passes_where_reading_stops`.
use Rattle.tla_tree.proofs.Farthest.{read_is_farthest, refused_is_farthest, refused_is_unspelled}
use Rattle.tla_tree.proofs.laws.nothing_passes_where_reading_stops.Goals as goal

pub returns-clause-read : goal.returns-clause-read
returns-clause-read c = read_is_farthest

pub returns-clause-refused : goal.returns-clause-refused
returns-clause-refused c = refused_is_farthest

pub returns-clause-unspelled : goal.returns-clause-unspelled
returns-clause-unspelled c = λ edge ts rest r. refused_is_unspelled edge ts (r, rest)
