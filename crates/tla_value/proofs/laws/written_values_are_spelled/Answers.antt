-- Proves the law `written_values_are_spelled`.
use Rattle.tla_value.proofs.ValueWithin.{spells_shown}
use Rattle.tla_value.proofs.laws.written_values_are_spelled.Goals as goal

pub returns : goal.returns
returns c = spells_shown
