-- What the loop keeps: what is there, with the units that are left, is the whole.
use Rattle.std.proofs.Common.{◌≡◌, ◌++◌, drop, map}
use Rattle.module_outside.specs.Passing.{passed_seen}
use Rattle.module_write.specs.InMemory.{opaque_of}
use Rattle.module_reading.proofs.outside.all_passed.Given as goal

abbrev pub invariant-loop-one : goal.invariant-loop-one
invariant-loop-one l = map opaque_of l.all.items ++ map passed_seen (drop l.one-index l.list) ≡ map passed_seen l.list
