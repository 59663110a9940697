use Rattle.std.proofs.Common.{◌≡◌, ◌+◌, drop}
use Rattle.std.specs.List.{position_or_len}
use Rattle.module_split.specs.SplitSeen.{is_region_stand}
use Rattle.module_split.proofs.seek.region_index.Given as goal

abbrev pub invariant-loop-i : goal.invariant-loop-i
invariant-loop-i l = l.i + position_or_len is_region_stand (drop l.i l.stands) ≡ position_or_len is_region_stand l.stands
