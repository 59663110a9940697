-- Proves that each first value counts.
use Rattle.std.proofs.Common.{sym, ◌∙◌, arith}
use Rattle.tla_tree.proofs.PoolNumbers.{past_at}
use Rattle.pcal_tree.specs.Algorithm.{Declaration}
use Rattle.pcal_tree.specs.InMemory.{declaration_at, past_declaration}
use Rattle.macro_expand.specs.Measured.{of_start}
use Rattle.expansion_size.specs.Budget.{budget}
use Rattle.expansion_size.specs.FramesIn.{put_by}
use Rattle.expansion_size.proofs.AlgorithmLaws.{each_more, each_done}
use Rattle.expansion_size.proofs.algorithm.declared.Goals as goal

pub start-so_far-requires-clause-there : goal.start-so_far-requires-clause-there
start-so_far-requires-clause-there c =
    let past = past_at past_declaration c.args.list.now c.loop-one.one-index c.one-item.result c.one-item.is c.loop-one-test.true in omega (arith, past, c.requires.there)

pub loop-one-preserved : goal.loop-one-preserved
loop-one-preserved c = λ d.
    let g = put_by c.args.pool.now c.args.frames.now in
    each_more g (λ (o : Declaration). of_start (budget g) o.start) (declaration_at c.args.pool.now) c.args.list.now c.loop-one.one-index d c.one-item.result c.loop-one.so_far c.start-so_far.result c.one-item.is c.loop-one-test.true
    (c.start-so_far.ensures d)
    ∙ c.loop-one.invariant d

pub returns : goal.returns
returns c = λ d.
    let g = put_by c.args.pool.now c.args.frames.now in
    sym (each_done g (λ (o : Declaration). of_start (budget g) o.start) (declaration_at c.args.pool.now) c.args.list.now c.loop-one.one-index d c.loop-one.so_far c.loop-one-test.false) ∙ c.loop-one.invariant d
