-- What the loop of `write_blanks` keeps.
use Rattle.std.proofs.Common.{◌≡◌, ◌++◌}
use Rattle.module_tree.specs.Layout.{blanks}
use Rattle.module_lines.proofs.line.write_blanks.Given as goal

abbrev pub invariant-loop-i : goal.invariant-loop-i
invariant-loop-i l = l.into ≡ l.fn.into ++ blanks l._i
