-- What the loop of `write_ways` keeps.
use Rattle.std.proofs.Common.{◌≡◌, ◌++◌, take}
use Rattle.module_write.specs.InMemory.{ways_at}
use Rattle.module_tree.specs.Layout.{ways_text}
use Rattle.module_write.proofs.write_action.write_ways.Given as goal

abbrev pub invariant-loop-way : goal.invariant-loop-way
invariant-loop-way l = l.into ≡ l.fn.into ++ ways_text (ways_at l.pool (take l.way-index l.ways))
