-- Proves what is asked of `passes`.
use Rattle.value_text.proofs.Tokens.{pass_answer}
use Rattle.value_text.proofs.token.passes.Goals as goal

pub returns-else-same : goal.returns-else-same
returns-else-same c = pass_answer c.args.text.now c.args.at.now c.in-Some.token c.args.punct c.is_punct-same.result c.in-Some.ensures c.if-same.false c.is_punct-same.ensures.1
