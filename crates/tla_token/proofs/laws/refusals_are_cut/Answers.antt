-- Proves the law `refusals_are_cut`.
use Rattle.tla_token.proofs.Unique.{offends_parts, tok_offences}
use Rattle.tla_token.proofs.Exact.{parts_offend}
use Rattle.tla_token.proofs.laws.refusals_are_cut.Goals as goal

pub returns-clause-found : goal.returns-clause-found
returns-clause-found c = offends_parts

pub returns-clause-given : goal.returns-clause-given
returns-clause-given c = parts_offend

pub returns-clause-of_tokens : goal.returns-clause-of_tokens
returns-clause-of_tokens c = tok_offences
