-- What the loop of `write_binds` keeps.
use Rattle.std.proofs.Common.{◌≡◌, ◌++◌, take}
use Rattle.pcal_tree.specs.Printed.{listed, binds_texts}
use Rattle.pcal_tree.specs.InMemory.{binds_at}
use Rattle.syntax_print.proofs.write_part.write_binds.Given as goal

abbrev pub invariant-loop-i : goal.invariant-loop-i
invariant-loop-i l = l.into ≡ l.fn.into ++ listed (binds_texts (binds_at l.pool (take l.i l.binds)))
