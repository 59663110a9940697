-- No END line begins after the first line and before the one that is looked at.
use Rattle.std.proofs.Common.{◌≡◌, ◌-◌, ◌≤◌, true, false, length, drop}
use Rattle.tla_token.specs.Cut.{plus}
use Rattle.module_split.specs.Walking.{end_at}
use Rattle.module_split.proofs.line.before_end.Given as goal

abbrev pub invariant-loop-at : goal.invariant-loop-at
invariant-loop-at l = record {
  within : l.at ≤ length l.text;
  so_far : plus l.at (end_at true (drop l.at l.text)) ≡ end_at false l.text;
}

abbrev pub decreases-loop-at : goal.decreases-loop-at
decreases-loop-at l = length l.text - l.at
