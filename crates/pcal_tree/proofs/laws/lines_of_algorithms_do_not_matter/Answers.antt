-- Proves the law `lines_of_algorithms_do_not_matter`.
use Rattle.pcal_tree.proofs.LinesGood.{spelled_again, begins, begun}
use Rattle.pcal_tree.proofs.laws.lines_of_algorithms_do_not_matter.Goals as goal

pub returns-clause-spelled : goal.returns-clause-spelled
returns-clause-spelled c = spelled_again

pub returns-clause-begins : goal.returns-clause-begins
returns-clause-begins c = begins

pub returns-clause-begun : goal.returns-clause-begun
returns-clause-begun c = begun
