-- Proves the law `refusals_are_unique`.
use Rattle.tla_token.proofs.Unique.{one_refusal}
use Rattle.tla_token.proofs.laws.refusals_are_unique.Goals as goal

pub returns : goal.returns
returns c = one_refusal
