-- Proves the law `digits_are_too_big`.
use Rattle.tla_token.proofs.TokenKinds.{too_big_by_digits}
use Rattle.tla_token.proofs.laws.digits_are_too_big.Goals as goal

pub returns : goal.returns
returns c = too_big_by_digits
