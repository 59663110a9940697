-- Proves the law `settled_statements_have_the_same_ends`.
use Rattle.action_builder.proofs.Settle.{settle_in}
use Rattle.action_builder.proofs.laws.settled_statements_have_the_same_ends.Goals as goal

pub returns : goal.returns
returns c = settle_in
