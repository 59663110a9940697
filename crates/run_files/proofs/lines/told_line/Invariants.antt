-- Why the loop of `told_line` ends, and what it keeps: the lines that aren't passed over.
use Rattle.std.proofs.Common.{◌≡◌, ◌≤◌, ◌-◌, length}
use Rattle.run_files.specs.Lines.{told_from}
use Rattle.run_files.proofs.lines.told_line.Given as goal

abbrev pub decreases-loop-from : goal.decreases-loop-from
decreases-loop-from l = length l.text - l.from

abbrev pub invariant-loop-from : goal.invariant-loop-from
invariant-loop-from l = (told_from l.text l.start ≡ told_from l.text l.from) × (l.start ≤ l.from) × (l.from ≤ length l.text)
