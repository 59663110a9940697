-- Proves that arguments are put into uses.
use Rattle.std.proofs.Common.{[], ◌∙◌}
use Rattle.tla_tree.specs.Pool.{trees_at}
use Rattle.pcal_tree.proofs.SpotGrafts.{putting}
use Rattle.read_rules.specs.UsesIn.{uses_of}
use Rattle.read_rules.proofs.PutLaws.{uses_then, uses_over}
use Rattle.read_rules.proofs.put.put_uses.Goals as goal

pub loop-one-preserved : goal.loop-one-preserved
loop-one-preserved c =
    uses_then (putting c.args.params.now (trees_at c.args.pool.now c.args.args.now) []) (uses_of c.loop-one.list.items) (uses_of c.put_use.new.list.items) c.args.uses.now c.loop-one.one-index c.one-item.result c.one-item.is c.loop-one-test.true
    c.in_ok-put_use.ensures
    ∙ c.loop-one.invariant

pub returns : goal.returns
returns c = uses_over (putting c.args.params.now (trees_at c.args.pool.now c.args.args.now) []) (uses_of c.loop-one.list.items) c.args.uses.now c.loop-one.one-index c.loop-one-test.false ∙ c.loop-one.invariant
