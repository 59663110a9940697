-- Proves that all is seen with arguments put in.
use Rattle.tla_tree.specs.Pool.{trees_at}
use Rattle.pcal_tree.specs.laws.MacroSpots.{before_on, Put}
use Rattle.pcal_tree.proofs.SpotGrafts.{putting}
use Rattle.read_rules.specs.Sets.{trail_of}
use Rattle.read_rules.proofs.WalkLaws.{gains_none, gains_more, gains_all}
use Rattle.read_rules.proofs.walk.add_groups.Goals as goal

pub loop-group-init : goal.loop-group-init
loop-group-init c = gains_none c.args.seen.now.items

pub loop-group-preserved : goal.loop-group-preserved
loop-group-preserved c =
    let P : Put = putting c.args.params.now (trees_at c.args.pool.now c.args.args.now) (before_on (trail_of c.args.before.now)) in
    gains_more P c.args.seen.now.items c.loop-group.seen.items c.push.new.self.items c.args.groups.now c.loop-group.group-index c.group-item.result c.in_ok-put_group.field-0
    c.group-item.is c.loop-group-test.true c.in_ok-push.ensures.items c.loop-group.invariant c.in_ok-put_group.ensures

pub returns : goal.returns
returns c =
    gains_all (putting c.args.params.now (trees_at c.args.pool.now c.args.args.now) (before_on (trail_of c.args.before.now))) c.args.seen.now.items c.loop-group.seen.items c.args.groups.now c.loop-group.group-index
    c.loop-group-test.false c.loop-group.invariant
