-- Proves the law `cutting_is_exact`.
use Rattle.tla_token.proofs.Parted.{cut_back}
use Rattle.tla_token.proofs.Cutting.{cut_fits}
use Rattle.tla_token.proofs.laws.cutting_is_exact.Goals as goal

pub returns-clause-fits : goal.returns-clause-fits
returns-clause-fits c = cut_fits

pub returns-clause-only : goal.returns-clause-only
returns-clause-only c = cut_back
