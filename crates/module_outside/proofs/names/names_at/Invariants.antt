-- What is kept while names are read.
use Rattle.std.proofs.Common.{◌≡◌, ◌≤◌, ◌-◌, length}
use Rattle.expr_nodes.specs.Ahead.{ahead}
use Rattle.outside_reading.specs.PlainUnits.{names_in}
use Rattle.module_outside.specs.Fronts.{names_before}
use Rattle.module_outside.proofs.names.names_at.Given as goal

abbrev pub invariant-loop-at : goal.invariant-loop-at
invariant-loop-at l = record {
  inside : l.at ≤ length l.tokens.items.items;
  value : names_before l.names.items (names_in (ahead l.tokens l.at)) ≡ names_in (ahead l.tokens l.from);
}

abbrev pub decreases-loop-at : goal.decreases-loop-at
decreases-loop-at l = length l.tokens.items.items - l.at
