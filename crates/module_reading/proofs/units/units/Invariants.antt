-- What is kept while units are read.
use Rattle.std.proofs.Common.{◌≡◌, ◌≤◌, ◌<◌, ◌-◌, true, length}
use Rattle.tla_tree.specs.Pool.{Keeps}
use Rattle.module_tree.specs.FileUnits.{cut}
use Rattle.expr_nodes.specs.Ahead.{ahead}
use Rattle.module_outside.specs.Fronts.{front_begins}
use Rattle.region_made.specs.UnitsAt.{UnitsIn}
use Rattle.module_reading.proofs.UnitSteps.{SoFar}
use Rattle.module_reading.proofs.units.units.Given as goal

abbrev pub invariant-loop-at : goal.invariant-loop-at
invariant-loop-at l = record {
  bytes : l.bytes.items ≡ l.tokens.bytes.items;
  inside : l.at ≤ length l.tokens.items.items;
  begins : l.at < length l.tokens.items.items → front_begins (ahead l.tokens l.at) ≡ true;
  so_far : SoFar (cut (ahead l.tokens 0)).units l.pool l.list.items (cut (ahead l.tokens l.at)).units;
  within : UnitsIn (length l.pool) l.list.items;
  kept : Keeps l.fn.pool l.pool;
}

abbrev pub decreases-loop-at : goal.decreases-loop-at
decreases-loop-at l = length l.tokens.items.items - l.at
