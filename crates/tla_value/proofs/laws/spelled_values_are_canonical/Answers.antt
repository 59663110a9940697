-- Proves the law `spelled_values_are_canonical`.
use Rattle.tla_value.proofs.ValueWithin.{spelled_is_canonical, spelled_fits}
use Rattle.tla_value.proofs.laws.spelled_values_are_canonical.Goals as goal

pub returns-clause-canonical : goal.returns-clause-canonical
returns-clause-canonical c = spelled_is_canonical

pub returns-clause-within : goal.returns-clause-within
returns-clause-within c = spelled_fits
