-- What the loop keeps: one of those that are left is Terminating, if any is.
use Rattle.std.proofs.Common.{◌≡◌, List, drop}
use Rattle.std.specs.List.{list_any}
use Rattle.tla_tree.specs.Tree.{Tree}
use Rattle.module_tree.specs.Ways.{is_terminating}
use Rattle.module_write.specs.InMemory.{ways_at}
use Rattle.module_reading.proofs.translation.may_terminate.Given as goal

abbrev pub invariant-loop-way : goal.invariant-loop-way
invariant-loop-way l = (ts : List Tree) → list_any is_terminating (ways_at ts (drop l.way-index l.ways)) ≡ list_any is_terminating (ways_at ts l.ways)
