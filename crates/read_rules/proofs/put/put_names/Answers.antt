-- Proves that arguments are put in for names that were assigned.
use Rattle.tla_tree.specs.Pool.{trees_at}
use Rattle.read_rules.proofs.PutLaws.{words_more, words_all}
use Rattle.read_rules.proofs.put.put_names.Goals as goal

pub loop-name-preserved : goal.loop-name-preserved
loop-name-preserved c =
    words_more c.args.params.now (trees_at c.args.pool.now c.args.args.now) c.args.names.now c.loop-name.names c.put_name.new.names c.args.from.now c.loop-name.name-index c.name-item.result c.name-item.is c.loop-name-test.true
    c.loop-name.invariant c.in_ok-put_name.ensures

pub returns : goal.returns
returns c =
    words_all c.args.params.now (trees_at c.args.pool.now c.args.args.now) c.args.names.now c.loop-name.names c.args.from.now c.loop-name.name-index c.loop-name-test.false c.loop-name.invariant
