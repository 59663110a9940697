use Rattle.std.proofs.Common.{◌∙◌, arith}
use Rattle.tla_token.proofs.Steps.{short_mark}
use Rattle.tla_token.proofs.bytes.has_mark.Goals as goal

pub returns : goal.returns
returns c = short_mark c.loop-at.at c.args.bytes.now (omega arith) ∙ c.loop-at.invariant
