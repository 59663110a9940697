-- Proves the law `lines_do_not_matter`.
use Rattle.tla_tree.proofs.Columns.{spelled_again, read_again, begins, begun}
use Rattle.tla_tree.proofs.ColumnsGood.{good_same}
use Rattle.tla_tree.proofs.laws.lines_do_not_matter.Goals as goal

pub returns-clause-good : goal.returns-clause-good
returns-clause-good c = good_same

pub returns-clause-spelled : goal.returns-clause-spelled
returns-clause-spelled c = spelled_again

pub returns-clause-read : goal.returns-clause-read
returns-clause-read c = read_again

pub returns-clause-begins : goal.returns-clause-begins
returns-clause-begins c = begins

pub returns-clause-begun : goal.returns-clause-begun
returns-clause-begun c = begun
