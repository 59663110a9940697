use Rattle.std.proofs.Common.{arith}
use Rattle.tla_token.proofs.Steps.{too_big}
use Rattle.tla_token.proofs.bytes.number_value.Goals as goal

pub returns-then-value-digit : goal.returns-then-value-digit
returns-then-value-digit c = too_big c.loop-b.value c.loop-b.b-index c.args.digits.now (omega arith) c.loop-b.invariant (omega (arith, c.saturating_sub-digit.ensures, c.if-value-digit.true))
