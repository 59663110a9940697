-- What the loop of `write_declarations` keeps.
use Rattle.std.proofs.Common.{◌≡◌, ◌++◌, take}
use Rattle.pcal_tree.specs.Printed.{declarations_text}
use Rattle.pcal_tree.specs.InMemory.{declarations_at}
use Rattle.syntax_print.proofs.write_part.write_declarations.Given as goal

abbrev pub invariant-loop-i : goal.invariant-loop-i
invariant-loop-i l = l.into ≡ l.fn.into ++ declarations_text (declarations_at l.pool (take l.i l.declarations))
