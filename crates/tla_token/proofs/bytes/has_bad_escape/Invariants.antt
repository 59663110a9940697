use Rattle.std.proofs.Common.{◌≡◌, ◌-◌, ◌≤◌, length, drop}
use Rattle.tla_token.specs.Offences.{has_bad_escape}
use Rattle.tla_token.proofs.bytes.has_bad_escape.Given as goal

abbrev pub invariant-loop-at : goal.invariant-loop-at
invariant-loop-at l = record { within : l.at ≤ length l.raw; so_far : has_bad_escape (drop l.at l.raw) ≡ has_bad_escape l.raw }

abbrev pub decreases-loop-at : goal.decreases-loop-at
decreases-loop-at l = length l.raw - l.at
