-- What is kept: what was found with what is still marked; there is one mark less each time.
use Rattle.std.proofs.Common.{◌≡◌, ◌≤◌, length}
use Rattle.declared_rules.specs.Finding.{finding}
use Rattle.declared_rules.proofs.found.Found.sweep.Given as goal

abbrev pub invariant-loop-marked : goal.invariant-loop-marked
invariant-loop-marked l = record {
  few : length l.self.marks.items ≤ length l.pool;
  same : finding l.pool l.self ≡ finding l.pool l.fn.self;
}

abbrev pub decreases-loop-marked : goal.decreases-loop-marked
decreases-loop-marked l = length l.self.marks.items
