-- Proves that the numbers are of the pool, and that places come in order.
use Rattle.std.proofs.Common.{length, ◌∙◌, sym, ap}
use Rattle.tla_tree.specs.Pool.{Entry}
use Rattle.tla_tree.specs.Tree.{root_place}
use Rattle.tla_tree.proofs.PoolNumbers.{AllBelow-at}
use Rattle.step_flow.proofs.PlaceLists.{one_place}
use Rattle.step_flow.proofs.simple.places.Goals as goal

pub node-requires : goal.node-requires
node-requires c = AllBelow-at (length c.args.pool.now) c.args.list.now c.loop-e.e-index 0 c.requires c.loop-e-test.true

pub loop-e-preserved : goal.loop-e-preserved
loop-e-preserved c =
    one_place c.args.pool.now c.args.list.now c.loop-e.e-index c.loop-e.all.items c.push.new.self.items c.behind-pool.inside.place c.loop-e-test.true c.loop-e.invariant
    (ap root_place c.node.ensures.tree ∙ ap (λ (n : Entry). n.place) (sym c.behind-pool.view_is)) c.in_ok-push.ensures.items
