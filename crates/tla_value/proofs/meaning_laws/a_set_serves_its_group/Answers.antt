-- Proves the law `a_set_serves_its_group`.
use Rattle.tla_value.proofs.Groups.{groups_apart}
use Rattle.tla_value.proofs.meaning_laws.a_set_serves_its_group.Goals as goal

pub returns : goal.returns
returns c = groups_apart
