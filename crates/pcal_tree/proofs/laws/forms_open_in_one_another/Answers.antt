-- Proves the law `forms_open_in_one_another`.
use Rattle.pcal_tree.proofs.DeepLaws.{brackets_open, heads_open, too_many_brackets, too_many_heads}
use Rattle.pcal_tree.proofs.laws.forms_open_in_one_another.Goals as goal

pub returns-clause-brackets : goal.returns-clause-brackets
returns-clause-brackets c = brackets_open

pub returns-clause-heads : goal.returns-clause-heads
returns-clause-heads c = heads_open

pub returns-clause-few_brackets : goal.returns-clause-few_brackets
returns-clause-few_brackets c = too_many_brackets

pub returns-clause-few_heads : goal.returns-clause-few_heads
returns-clause-few_heads c = too_many_heads
