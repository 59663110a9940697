-- Proves that what pairs are is kept.
use Rattle.tla_tree.specs.Pool.{trees_at}
use Rattle.pcal_tree.specs.laws.MacroSummaries.{argument, put_pair}
use Rattle.label_steps.specs.PutIn.{pair_of}
use Rattle.label_steps.proofs.AddsLaws.{adds_none, adds_more, adds_all}
use Rattle.label_steps.proofs.gathered.Gathered.put_pairs.Goals as goal

pub loop-one-init : goal.loop-one-init
loop-one-init c = adds_none c.args.known.now c.args.self.now

pub loop-one-preserved : goal.loop-one-preserved
loop-one-preserved c =
    adds_more c.args.known.now (λ p. put_pair (argument c.args.params.now (trees_at c.args.pool.now c.args.args.now)) (pair_of p)) c.args.self.now c.loop-one.self c.put_pair.new.self c.args.pairs.now c.loop-one.one-index c.one-item.result c.one-item.is c.loop-one-test.true c.loop-one.invariant
    c.in_ok-put_pair.ensures

pub returns : goal.returns
returns c = adds_all c.args.known.now (λ p. put_pair (argument c.args.params.now (trees_at c.args.pool.now c.args.args.now)) (pair_of p)) c.args.self.now c.loop-one.self c.args.pairs.now c.loop-one.one-index c.loop-one-test.false c.loop-one.invariant
