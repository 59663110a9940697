use Rattle.tla_token.proofs.Given.{tok_ok}
use Rattle.tla_token.proofs.scan.tokens_as.Goals as goal

pub returns-clause-tokens : goal.returns-clause-tokens
returns-clause-tokens c = tok_ok c.args.reading c.rest_of.result c.args.text.now c.args.from c.args.to _ c.new.ensures.items c.rest_of.ensures.tokens c.rest_of.ensures.fine
