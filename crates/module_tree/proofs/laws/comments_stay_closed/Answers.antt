-- Proves the law `comments_stay_closed`.
use Rattle.module_tree.proofs.PairedMarks.{stays_closed}
use Rattle.module_tree.proofs.laws.comments_stay_closed.Goals as goal

pub returns : goal.returns
returns c = stays_closed
