-- What the loop of `write_blanks` keeps.
use Rattle.std.proofs.Common.{◌≡◌, ◌++◌}
use Rattle.pcal_tree.specs.Printed.{blanks}
use Rattle.syntax_print.proofs.write_part.write_blanks.Given as goal

abbrev pub invariant-loop-i : goal.invariant-loop-i
invariant-loop-i l = l.into ≡ l.fn.into ++ blanks l._i
