-- Proves the law `the_limit_only_refuses`.
use Rattle.tla_tree.proofs.LimitedStops.{read_within, fits_within}
use Rattle.tla_tree.proofs.laws.the_limit_only_refuses.Goals as goal

pub returns-clause-within : goal.returns-clause-within
returns-clause-within c = read_within

pub returns-clause-fits : goal.returns-clause-fits
returns-clause-fits c = fits_within
