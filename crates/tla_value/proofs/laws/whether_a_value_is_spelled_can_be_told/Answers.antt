-- Proves the law `whether_a_value_is_spelled_can_be_told`.
use Rattle.tla_value.proofs.ValueDecided.{value_told}
use Rattle.tla_value.proofs.laws.whether_a_value_is_spelled_can_be_told.Goals as goal

pub returns : goal.returns
returns c = value_told
