-- Proves the law `swaps_keep_the_rest`.
use Rattle.module_tree.proofs.SwappedComment.{swapped_comment, swapped_begins, swapped_without}
use Rattle.module_tree.proofs.laws.swaps_keep_the_rest.Goals as goal

pub returns-clause-walked : goal.returns-clause-walked
returns-clause-walked c = swapped_comment

pub returns-clause-begins : goal.returns-clause-begins
returns-clause-begins c = swapped_begins

pub returns-clause-options : goal.returns-clause-options
returns-clause-options c = swapped_without
