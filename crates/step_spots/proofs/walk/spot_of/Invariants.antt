-- What the loop keeps: none of the labels that were looked at has the name.
use Rattle.std.proofs.Common.{◌≡◌, List, drop, map}
use Rattle.tla_tree.specs.Tree.{Tree}
use Rattle.step_spots.specs.Spots.{spot_named}
use Rattle.step_spots.specs.InMemory.{spot_at}
use Rattle.step_spots.proofs.walk.spot_of.Given as goal

abbrev pub invariant-loop-i : goal.invariant-loop-i
invariant-loop-i l = (ts : List Tree) → spot_named (map (spot_at ts) (drop l.i l.spots)) l.name ≡ spot_named (map (spot_at ts) l.spots) l.name
