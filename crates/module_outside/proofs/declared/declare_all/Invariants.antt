-- What is kept while units are looked at.
use Rattle.std.proofs.Common.{◌≡◌, ◌≤◌, ◌<◌, ◌-◌, ◌++◌, true, length}
use Rattle.module_tree.specs.FileUnits.{cut}
use Rattle.expr_nodes.specs.Ahead.{ahead}
use Rattle.outside_reading.specs.PlainUnits.{all_modules, all_constants}
use Rattle.module_outside.specs.Fronts.{front_begins}
use Rattle.module_outside.proofs.declared.declare_all.Given as goal

abbrev pub invariant-loop-at : goal.invariant-loop-at
invariant-loop-at l = record {
  bytes : l.bytes.items ≡ l.tokens.bytes.items;
  inside : l.at ≤ length l.tokens.items.items;
  begins : l.at < length l.tokens.items.items → front_begins (ahead l.tokens l.at) ≡ true;
  extended : l.declared.extended.items ++ all_modules (cut (ahead l.tokens l.at)).units ≡ l.fn.declared.extended.items ++ all_modules (cut (ahead l.tokens 0)).units;
  constants : l.declared.constants.items ++ all_constants (cut (ahead l.tokens l.at)).units ≡ l.fn.declared.constants.items ++ all_constants (cut (ahead l.tokens 0)).units;
}

abbrev pub decreases-loop-at : goal.decreases-loop-at
decreases-loop-at l = length l.tokens.items.items - l.at
