-- What is kept: what is left still gives the whole.
use Rattle.std.proofs.Common.{◌≡◌, ◌++◌, drop}
use Rattle.source_map.specs.Lines.{lines_text}
use Rattle.label_lines.specs.Found.{lines_seen}
use Rattle.checking.proofs.map.write_lines.Given as goal

abbrev pub invariant-loop-line : goal.invariant-loop-line
invariant-loop-line l = l.out.items ++ lines_text (lines_seen (drop l.line-index l.lines)) ≡ lines_text (lines_seen l.lines)
