-- What is kept while the first identifier is sought.
use Rattle.std.proofs.Common.{◌≡◌, []}
use Rattle.module_tree.specs.Outside.{identifiers}
use Rattle.expr_nodes.specs.Ahead.{ahead}
use Rattle.module_outside.proofs.passed.first_identifier.Given as goal

abbrev pub invariant-loop-at : goal.invariant-loop-at
invariant-loop-at l = record {
  none : l.names.items ≡ [];
  value : identifiers (ahead l.tokens l.at) ≡ identifiers (ahead l.tokens 0);
}
