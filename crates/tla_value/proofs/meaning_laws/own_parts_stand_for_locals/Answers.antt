-- Proves the law `own_parts_stand_for_locals`.
use Rattle.tla_value.proofs.Owned.{owned_law}
use Rattle.tla_value.proofs.meaning_laws.own_parts_stand_for_locals.Goals as goal

pub returns : goal.returns
returns c = owned_law
