use Rattle.std.proofs.Common.{◌≡◌, ◌++◌, ◌-◌, drop}
use Rattle.module_tree.specs.Beginnings.{begins_algorithm, all_at}
use Rattle.module_split.proofs.beginning.add_beginnings.Given as goal

abbrev pub invariant-places : goal.invariant-places
invariant-places l = l.into.items ++ all_at begins_algorithm l.at (drop l.at l.bytes) ≡ l.initial.into.items ++ all_at begins_algorithm l.from (drop l.from l.bytes)

abbrev pub decreases-places : goal.decreases-places
decreases-places l = l.to - l.at
