-- What the loop of `write_names` keeps.
use Rattle.std.proofs.Common.{◌≡◌, ◌++◌, take}
use Rattle.pcal_tree.specs.Printed.{names_text}
use Rattle.syntax_print.proofs.write_part.write_names.Given as goal

abbrev pub invariant-loop-i : goal.invariant-loop-i
invariant-loop-i l = l.into ≡ l.fn.into ++ names_text (take l.i l.names)
