-- Proves the law `reading_is_exact`.
use Rattle.tla_tree.proofs.ReadAll.{spelled_is_read}
use Rattle.tla_tree.proofs.SoundLists.{read_is_spelled}
use Rattle.tla_tree.proofs.laws.reading_is_exact.Goals as goal

pub returns-clause-sound : goal.returns-clause-sound
returns-clause-sound c = read_is_spelled

pub returns-clause-complete : goal.returns-clause-complete
returns-clause-complete c = spelled_is_read
