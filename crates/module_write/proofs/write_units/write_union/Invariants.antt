-- What the loop of `write_union` keeps.
use Rattle.std.proofs.Common.{◌≡◌, ◌++◌, take, map}
use Rattle.tla_tree.specs.Pool.{at}
use Rattle.module_tree.specs.Layout.{union_text}
use Rattle.module_write.proofs.write_units.write_union.Given as goal

abbrev pub invariant-loop-i : goal.invariant-loop-i
invariant-loop-i l = l.into ≡ l.fn.into ++ union_text (map (at l.pool) (take l.i l.sets))
