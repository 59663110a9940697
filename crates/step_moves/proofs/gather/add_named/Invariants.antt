-- What the loop keeps: those that were added, and then those of the values that are left, are all.
use Rattle.std.proofs.Common.{◌≡◌, ◌++◌, List, map, drop}
use Rattle.tla_tree.specs.Tree.{Tree}
use Rattle.tla_value.specs.Value.{values_in}
use Rattle.pcal_tree.specs.Processes.{actors_of}
use Rattle.step_spots.specs.InMemory.{routine_at}
use Rattle.step_moves.specs.InMemory.{named_at}
use Rattle.step_moves.proofs.gather.add_named.Given as goal

abbrev pub invariant-loop-v : goal.invariant-loop-v
invariant-loop-v l =
    (ts : List Tree) → map (named_at ts) l.into.items ++ actors_of (routine_at ts l.own) (values_in (drop l.v-index l.values))
    ≡ map (named_at ts) l.fn.into.items ++ actors_of (routine_at ts l.own) (values_in l.values)
