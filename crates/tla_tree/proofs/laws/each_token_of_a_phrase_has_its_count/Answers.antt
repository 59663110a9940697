-- Proves the law `each_token_of_a_phrase_has_its_count`.
use Rattle.tla_tree.proofs.CountsLaws.{as_many_counts}
use Rattle.tla_tree.proofs.laws.each_token_of_a_phrase_has_its_count.Goals as goal

pub returns : goal.returns
returns c = as_many_counts
