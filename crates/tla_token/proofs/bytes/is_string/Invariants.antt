use Rattle.std.proofs.Common.{◌≡◌, ◌-◌, ◌≤◌, length, drop, is_some}
use Rattle.tla_token.specs.Lexemes.{unquoted}
use Rattle.tla_token.proofs.bytes.is_string.Given as goal

abbrev pub invariant-loop-at : goal.invariant-loop-at
invariant-loop-at l = record { within : l.at ≤ length l.raw; so_far : is_some (unquoted (drop l.at l.raw)) ≡ is_some (unquoted l.raw) }

abbrev pub decreases-loop-at : goal.decreases-loop-at
decreases-loop-at l = length l.raw - l.at
