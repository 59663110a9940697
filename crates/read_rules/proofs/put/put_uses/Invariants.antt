-- What is kept: what is left still gives the whole.
use Rattle.std.proofs.Common.{◌≡◌, ◌++◌, [], drop}
use Rattle.std.specs.List.{flat_map}
use Rattle.tla_tree.specs.Pool.{trees_at}
use Rattle.pcal_tree.specs.laws.MacroSpots.{put_use}
use Rattle.pcal_tree.proofs.SpotGrafts.{putting}
use Rattle.read_rules.specs.UsesIn.{uses_of}
use Rattle.read_rules.proofs.put.put_uses.Given as goal

abbrev pub invariant-loop-one : goal.invariant-loop-one
invariant-loop-one l =
    let P = putting l.params (trees_at l.pool l.args) [] in
    uses_of l.list.items ++ flat_map (put_use P) (uses_of (drop l.one-index l.uses)) ≡ uses_of l.fn.list.items ++ flat_map (put_use P) (uses_of l.uses)
