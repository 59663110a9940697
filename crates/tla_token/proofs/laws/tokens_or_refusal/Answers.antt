-- Proves the law `tokens_or_refusal`.
use Rattle.tla_token.proofs.Faulty.{either, never_both}
use Rattle.tla_token.proofs.laws.tokens_or_refusal.Goals as goal

pub returns-clause-either : goal.returns-clause-either
returns-clause-either c = either

pub returns-clause-not_both : goal.returns-clause-not_both
returns-clause-not_both c = never_both
