use Rattle.std.proofs.Common.{◌≡◌, ◌+◌, drop}
use Rattle.std.specs.List.{position_or_len}
use Rattle.module_split.specs.StandsSeen.{stands_seen}
use Rattle.module_tree.specs.FileParts.{is_newline}
use Rattle.module_split.proofs.seek.newline_index.Given as goal

abbrev pub invariant-loop-i : goal.invariant-loop-i
invariant-loop-i l = l.i + position_or_len is_newline (stands_seen l.text (drop l.i l.stands)) ≡ position_or_len is_newline (stands_seen l.text l.stands)
