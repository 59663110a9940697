use Rattle.std.proofs.Common.{◌≡◌, ◌-◌, ◌+◌, ◌≤◌, length, drop}
use Rattle.tla_token.specs.Cut.{plus, comment_len}
use Rattle.tla_token.proofs.bytes.comment_len.Given as goal

abbrev pub invariant-loop-depth : goal.invariant-loop-depth
invariant-loop-depth l = record {
  within : l.at ≤ length l.text;
  small : l.depth ≤ l.at + 1;
  so_far : plus l.at (comment_len l.depth (drop l.at l.text)) ≡ comment_len 1 l.text;
}

abbrev pub decreases-loop-depth : goal.decreases-loop-depth
decreases-loop-depth l = length l.text - l.at
