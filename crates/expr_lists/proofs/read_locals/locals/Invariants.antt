-- What the loop keeps: the definitions so far, and the pool that grows.
use Rattle.std.proofs.Common.{◌≡◌, ◌≤◌, ◌-◌, length}
use Rattle.tla_tree.specs.Pool.{Keeps}
use Rattle.expr_lists.proofs.ReadLocals.{LocalsSoFar}
use Rattle.expr_lists.proofs.read_locals.locals.Given as goal

abbrev pub invariant-loop-word : goal.invariant-loop-word
invariant-loop-word g l =
    record {
      row : LocalsSoFar l.s.linked l.tokens l.pool l.s.left l.s.edge l.s.at l.at l.many.names.items l.many.ids.items l.many.nesting;
      kept : Keeps l.fn.pool l.pool;
      some : 1 ≤ length l.many.names.items;
      as_many : length l.many.ids.items ≡ length l.many.names.items;
      small : l.many.nesting ≤ l.s.left;
      inside : l.at ≤ length l.tokens.items.items;
      further : l.s.at ≤ l.at;
    }

abbrev pub decreases-loop-word : goal.decreases-loop-word
decreases-loop-word g l = length l.tokens.items.items - l.at
