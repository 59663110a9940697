-- What the loop of `write_assignments` keeps.
use Rattle.std.proofs.Common.{◌≡◌, ◌++◌, take}
use Rattle.std.specs.Prelude.{codes}
use Rattle.pcal_tree.specs.Printed.{separated, assignments_texts}
use Rattle.pcal_tree.specs.InMemory.{assignments_at}
use Rattle.syntax_print.proofs.write_part.write_assignments.Given as goal

abbrev pub invariant-loop-i : goal.invariant-loop-i
invariant-loop-i l = l.into ≡ l.fn.into ++ separated (codes " || ") (assignments_texts (assignments_at l.pool (take l.i l.assignments)))
