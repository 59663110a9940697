-- What is kept while units behind the translation are passed on.
use Rattle.std.proofs.Common.{◌≡◌, ◌≤◌, ◌<◌, ◌-◌, ◌++◌, true, length, map}
use Rattle.std.specs.List.{flat_map}
use Rattle.module_tree.specs.FileUnits.{cut}
use Rattle.expr_nodes.specs.Ahead.{ahead}
use Rattle.module_outside.specs.Fronts.{front_begins}
use Rattle.module_outside.specs.Passing.{passed_seen}
use Rattle.module_outside.proofs.FoundSteps.{passed_of}
use Rattle.module_outside.proofs.found.pass_all.Given as goal

abbrev pub invariant-loop-at : goal.invariant-loop-at
invariant-loop-at l = record {
  bytes : l.bytes.items ≡ l.tokens.bytes.items;
  inside : l.at ≤ length l.tokens.items.items;
  begins : l.at < length l.tokens.items.items → front_begins (ahead l.tokens l.at) ≡ true;
  passed : map passed_seen l.opaque.items ++ flat_map passed_of (cut (ahead l.tokens l.at)).units ≡ map passed_seen l.fn.opaque.items ++ flat_map passed_of (cut (ahead l.tokens 0)).units;
}

abbrev pub decreases-loop-at : goal.decreases-loop-at
decreases-loop-at l = length l.tokens.items.items - l.at
