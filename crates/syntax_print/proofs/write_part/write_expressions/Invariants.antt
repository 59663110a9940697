-- What the loop of `write_expressions` keeps.
use Rattle.std.proofs.Common.{◌≡◌, ◌++◌, take}
use Rattle.pcal_tree.specs.Printed.{listed, trees_texts}
use Rattle.tla_tree.specs.Pool.{trees_at}
use Rattle.syntax_print.proofs.write_part.write_expressions.Given as goal

abbrev pub invariant-loop-i : goal.invariant-loop-i
invariant-loop-i l = l.into ≡ l.fn.into ++ listed (trees_texts (trees_at l.pool (take l.i l.es)))
