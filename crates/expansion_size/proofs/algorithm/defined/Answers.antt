-- Proves that each definition counts.
use Rattle.std.proofs.Common.{sym, ◌∙◌, arith}
use Rattle.tla_tree.proofs.PoolNumbers.{past_at}
use Rattle.pcal_tree.specs.Algorithm.{Definition}
use Rattle.pcal_tree.specs.InMemory.{definition_at, past_definition}
use Rattle.expansion_size.specs.Budget.{budget}
use Rattle.expansion_size.specs.FramesIn.{put_by}
use Rattle.expansion_size.proofs.AlgorithmLaws.{each_more, each_done}
use Rattle.expansion_size.proofs.algorithm.defined.Goals as goal

pub whole-so_far-requires-clause-there : goal.whole-so_far-requires-clause-there
whole-so_far-requires-clause-there c =
    let past = past_at past_definition c.args.list.now c.loop-one.one-index c.one-item.result c.one-item.is c.loop-one-test.true in omega (arith, past, c.requires.there)

pub loop-one-preserved : goal.loop-one-preserved
loop-one-preserved c = λ d.
    let g = put_by c.args.pool.now c.args.frames.now in
    each_more g (λ (o : Definition). (budget g).expression o.body) (definition_at c.args.pool.now) c.args.list.now c.loop-one.one-index d c.one-item.result c.loop-one.so_far c.whole-so_far.result c.one-item.is c.loop-one-test.true
    (c.whole-so_far.ensures d)
    ∙ c.loop-one.invariant d

pub returns : goal.returns
returns c = λ d.
    let g = put_by c.args.pool.now c.args.frames.now in
    sym (each_done g (λ (o : Definition). (budget g).expression o.body) (definition_at c.args.pool.now) c.args.list.now c.loop-one.one-index d c.loop-one.so_far c.loop-one-test.false) ∙ c.loop-one.invariant d
