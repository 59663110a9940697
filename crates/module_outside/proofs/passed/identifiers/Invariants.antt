-- What is kept while identifiers are gathered.
use Rattle.std.proofs.Common.{◌≡◌, ◌++◌}
use Rattle.module_tree.specs.Outside.{identifiers}
use Rattle.expr_nodes.specs.Ahead.{ahead}
use Rattle.module_outside.proofs.passed.identifiers.Given as goal

abbrev pub invariant-loop-at : goal.invariant-loop-at
invariant-loop-at l = l.names.items ++ identifiers (ahead l.tokens l.at) ≡ identifiers (ahead l.tokens l.from)
