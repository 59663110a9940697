-- What the loop of `write_conjuncts` keeps.
use Rattle.std.proofs.Common.{◌≡◌, ◌++◌, take, map}
use Rattle.tla_tree.specs.Pool.{at}
use Rattle.tla_tree.specs.Written.{written}
use Rattle.module_tree.specs.Layout.{conjuncts_text}
use Rattle.module_write.proofs.write_units.write_conjuncts.Given as goal

abbrev pub invariant-loop-e : goal.invariant-loop-e
invariant-loop-e l = l.into ≡ l.fn.into ++ conjuncts_text (map written (map (at l.pool) (take l.e-index l.conjuncts)))
