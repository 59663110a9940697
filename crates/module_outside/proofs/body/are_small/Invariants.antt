-- What is kept while tokens are looked at.
use Rattle.std.proofs.Common.{◌≡◌}
use Rattle.expr_nodes.specs.Ahead.{ahead}
use Rattle.outside_reading.specs.SmallNumbers.{all_small}
use Rattle.module_outside.proofs.body.are_small.Given as goal

abbrev pub invariant-loop-at : goal.invariant-loop-at
invariant-loop-at l = all_small (ahead l.tokens l.at) ≡ all_small (ahead l.tokens 0)
