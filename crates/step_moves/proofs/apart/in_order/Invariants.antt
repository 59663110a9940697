-- What the loop keeps: those that were taken, and then those in the map, are all; and why it ends.
use Rattle.std.proofs.Common.{◌≡◌, ◌++◌, List, length, map}
use Rattle.tla_tree.specs.Tree.{Tree}
use Rattle.step_moves.specs.InMemory.{actor_at, entry_at}
use Rattle.step_moves.proofs.apart.in_order.Given as goal

abbrev pub invariant-loop-identifier : goal.invariant-loop-identifier
invariant-loop-identifier l = (ts : List Tree) → map (actor_at ts) l.all.items ++ map (entry_at ts) l.known.entries ≡ map (entry_at ts) l.fn.known.entries

abbrev pub decreases-loop-identifier : goal.decreases-loop-identifier
decreases-loop-identifier l = length l.known.entries
