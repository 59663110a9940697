use Rattle.std.proofs.Common.{◌≡◌, ◌-◌, drop}
use Rattle.tla_token.specs.Tokens.{holds_mark}
use Rattle.tla_token.proofs.bytes.has_mark.Given as goal

abbrev pub invariant-loop-at : goal.invariant-loop-at
invariant-loop-at l = holds_mark (drop (l.at - 1) l.bytes) ≡ holds_mark l.bytes
