-- Proves the law `grafts_stand_for_names`.
use Rattle.tla_value.proofs.Graft.{through_law}
use Rattle.tla_value.proofs.meaning_laws.grafts_stand_for_names.Goals as goal

pub returns : goal.returns
returns c = through_law
