-- What is kept: what was passed is seen.
use Rattle.std.proofs.Common.{take}
use Rattle.std.specs.List.{flat_map}
use Rattle.tla_tree.specs.Pool.{trees_at}
use Rattle.pcal_tree.specs.laws.MacroSpots.{before_on, put_seen}
use Rattle.pcal_tree.proofs.SpotGrafts.{putting}
use Rattle.read_rules.specs.SeenIn.{seen_of, Gains}
use Rattle.read_rules.specs.Sets.{trail_of}
use Rattle.read_rules.proofs.walk.add_groups.Given as goal

abbrev pub invariant-loop-group : goal.invariant-loop-group
invariant-loop-group l =
    Gains l.fn.seen.items l.seen.items (flat_map (put_seen (putting l.params (trees_at l.pool l.args) (before_on (trail_of l.before)))) (seen_of (take l.group-index l.groups)))
