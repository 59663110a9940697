-- What the loop of `write_joined` keeps.
use Rattle.std.proofs.Common.{◌≡◌, ◌++◌, take}
use Rattle.module_tree.specs.ExprText.{joined}
use Rattle.module_lines.proofs.line.write_joined.Given as goal

abbrev pub invariant-loop-i : goal.invariant-loop-i
invariant-loop-i l = l.into ≡ l.fn.into ++ joined (take l.i l.names)
