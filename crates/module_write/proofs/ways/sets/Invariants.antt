-- Why the loop of `sets` ends, and what it keeps: what is split off already is behind the rest.
use Rattle.std.proofs.Common.{◌≡◌, ◌-◌, ◌<◌, length, map, reverse}
use Rattle.tla_tree.specs.Pool.{at, AllBelow}
use Rattle.module_tree.specs.Ways.{sets_in, split_cup}
use Rattle.module_write.proofs.ways.sets.Given as goal

abbrev pub decreases-loop-left : goal.decreases-loop-left
decreases-loop-left l = l.left

abbrev pub invariant-loop-left : goal.invariant-loop-left
invariant-loop-left l =
    (l.rest < length l.pool) × AllBelow (length l.pool) l.found.items
    × (split_cup (l.left - 1) (at l.pool l.rest) (map (at l.pool) (reverse l.found.items)) ≡ sets_in l.fn.n (at l.pool l.fn.e))
