-- Proves the law `tokens_are_cut`.
use Rattle.tla_token.proofs.Unique.{tok_parts}
use Rattle.tla_token.proofs.Exact.{parts_tok}
use Rattle.tla_token.proofs.laws.tokens_are_cut.Goals as goal

pub returns-clause-found : goal.returns-clause-found
returns-clause-found c = tok_parts

pub returns-clause-given : goal.returns-clause-given
returns-clause-given c = parts_tok
