use Rattle.tla_token.proofs.Given.{given_tokens_ok, given_fine_ok, given_refused}
use Rattle.tla_token.proofs.scan.tokens.Goals as goal

pub returns-in-None-clause-tokens : goal.returns-in-None-clause-tokens
returns-in-None-clause-tokens c = given_tokens_ok c.tokens_as.result c.args.text.now c.args.from c.args.to c.in-None.ensures c.tokens_as.ensures.tokens

pub returns-in-None-clause-fine : goal.returns-in-None-clause-fine
returns-in-None-clause-fine c = given_fine_ok c.tokens_as.result c.args.text.now c.args.from c.args.to c.in-None.ensures c.tokens_as.ensures.fine

pub returns-in-None-clause-refused : goal.returns-in-None-clause-refused
returns-in-None-clause-refused c r h = given_refused c.args.text.now c.args.from c.args.to r c.in-None.ensures (c.tokens_as.ensures.refused r h)
