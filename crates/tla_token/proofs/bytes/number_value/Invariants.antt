use Rattle.std.proofs.Common.{◌≡◌, ◌-◌, ◌+◌, ◌*◌, drop, fold}
use Rattle.tla_token.specs.Lexemes.{number_of}
use Rattle.tla_token.proofs.bytes.number_value.Given as goal

abbrev pub invariant-loop-b : goal.invariant-loop-b
invariant-loop-b l = fold (λ n b. 10 * n + (b - 48)) l.value (drop l.b-index l.digits) ≡ number_of l.digits
