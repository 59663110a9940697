-- What is kept while units before the translation are found.
use Rattle.std.proofs.Common.{◌≡◌, ◌≤◌, ◌<◌, ◌-◌, true, length}
use Rattle.tla_tree.specs.Pool.{Keeps}
use Rattle.module_tree.specs.FileUnits.{cut}
use Rattle.module_tree.specs.Outside as pure
use Rattle.expr_nodes.specs.Ahead.{ahead}
use Rattle.module_outside.specs.Fronts.{front_begins}
use Rattle.module_outside.specs.SightIn.{Sees}
use Rattle.module_outside.specs.FoundAt.{AreHeld}
use Rattle.module_outside.proofs.FoundSteps.{Sought}
use Rattle.module_outside.proofs.found.found_before.Given as goal

abbrev pub invariant-loop-at : goal.invariant-loop-at
invariant-loop-at l = record {
  bytes : l.bytes.items ≡ l.tokens.bytes.items;
  inside : l.at ≤ length l.tokens.items.items;
  begins : l.at < length l.tokens.items.items → front_begins (ahead l.tokens l.at) ≡ true;
  sought : (v : pure.Sight) → Sees l.fn.sight v → Sought v (cut (ahead l.tokens 0)).units l.sight l.pool l.found (cut (ahead l.tokens l.at)).units;
  held : AreHeld (length l.pool) l.found.definitions.items;
  kept : Keeps l.fn.pool l.pool;
}

abbrev pub decreases-loop-at : goal.decreases-loop-at
decreases-loop-at l = length l.tokens.items.items - l.at
