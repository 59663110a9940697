use Rattle.std.proofs.Common.{◌≡◌, ◌≤◌, ◌+◌, ◌*◌, drop}
use Rattle.tla_token.specs.Places.{after}
use Rattle.tla_token.proofs.place.place_after.Given as goal

abbrev pub invariant-loop-b : goal.invariant-loop-b
invariant-loop-b l = record {
  value : after l.now (drop l.b-index l.bytes) ≡ after l.fn.place l.bytes;
  line : l.now.line ≤ l.fn.place.line + l.b-index;
  col : l.now.col ≤ l.fn.place.col + 8 * l.b-index;
}
