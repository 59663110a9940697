-- Proves what is seen on one path with arguments put in.
use Rattle.std.proofs.Common.{[], ◌++◌, ◌∙◌}
use Rattle.std.specs.List.{flat_map}
use Rattle.tla_tree.specs.Pool.{trees_at}
use Rattle.pcal_tree.specs.laws.MacroSpots.{before_on, put_use}
use Rattle.pcal_tree.proofs.SpotGrafts.{putting}
use Rattle.read_rules.specs.Sets.{trail_of}
use Rattle.read_rules.specs.UsesIn.{uses_of}
use Rattle.read_rules.proofs.WalkLaws.{put_like}
use Rattle.read_rules.proofs.walk.put_group.Goals as goal

pub returns : goal.returns
returns c =
    let ps = c.args.params.now in
    let ts = trees_at c.args.pool.now c.args.args.now in
    put_like ps ts (before_on (trail_of c.args.before.now)) c.args.group.now (record { uses = c.put_uses.new.list; after = c.in_ok-put_assigned.field-0 })
    (c.in_ok-put_uses.ensures ∙ (λ i. uses_of (c.new-uses.ensures.items i) ++ flat_map (put_use (putting ps ts [])) (uses_of (c.deref.ensures.value i)))) c.in_ok-put_assigned.ensures
