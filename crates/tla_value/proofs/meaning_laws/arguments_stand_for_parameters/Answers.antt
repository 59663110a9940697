-- Proves the law `arguments_stand_for_parameters`.
use Rattle.tla_value.proofs.Owned.{macro_law}
use Rattle.tla_value.proofs.meaning_laws.arguments_stand_for_parameters.Goals as goal

pub returns : goal.returns
returns c = macro_law
