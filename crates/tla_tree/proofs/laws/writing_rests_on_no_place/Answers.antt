-- Proves the law `writing_rests_on_no_place`.
use Rattle.tla_tree.proofs.WrittenBare.{same_written}
use Rattle.tla_tree.proofs.laws.writing_rests_on_no_place.Goals as goal

pub returns : goal.returns
returns c = same_written
