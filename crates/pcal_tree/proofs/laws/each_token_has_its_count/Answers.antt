-- Proves the law `each_token_has_its_count`.
use Rattle.pcal_tree.proofs.OpensLaws.{as_many_opens}
use Rattle.pcal_tree.proofs.laws.each_token_has_its_count.Goals as goal

pub returns : goal.returns
returns c = as_many_opens
