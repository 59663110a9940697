-- What is kept: the names with those of what is still marked; there is one mark less each time.
use Rattle.std.proofs.Common.{◌≡◌, ◌≤◌, length}
use Rattle.tla_tree.specs.Tree.{Word}
use Rattle.declared_rules.specs.Met.{holds}
use Rattle.declared_rules.proofs.met.Met.sweep.Given as goal

abbrev pub invariant-loop-marked : goal.invariant-loop-marked
invariant-loop-marked l = record {
  few : length l.self.marks.items ≤ length l.pool;
  same : (w : Word) → holds l.pool l.self w ≡ holds l.pool l.fn.self w;
}

abbrev pub decreases-loop-marked : goal.decreases-loop-marked
decreases-loop-marked l = length l.self.marks.items
