-- Proves that what a `with` names counts.
use Rattle.std.proofs.Common.{drop, ◌+◌, sym, ◌∙◌, arith}
use Rattle.tla_tree.proofs.PoolNumbers.{past_at}
use Rattle.pcal_tree.specs.InMemory.{binds_at, past_bind}
use Rattle.expansion_size.specs.FramesIn.{put_by}
use Rattle.expansion_size.proofs.BodyLaws.{binds_more, binds_done}
use Rattle.expansion_size.proofs.bodies.binds.Goals as goal

pub whole-so_far-requires-clause-there : goal.whole-so_far-requires-clause-there
whole-so_far-requires-clause-there c =
    let past = past_at past_bind c.args.list.now c.loop-bind.bind-index c.bind-item.result c.bind-item.is c.loop-bind-test.true in omega (arith, past, c.bound_to.ensures.past, c.requires.there)

pub loop-bind-preserved : goal.loop-bind-preserved
loop-bind-preserved c = λ d.
    let g = put_by c.args.pool.now c.args.frames.now in
    binds_more g c.args.pool.now c.args.list.now c.loop-bind.bind-index d c.bound_to.result c.bind-item.result c.loop-bind.so_far c.whole-so_far.result c.bind-item.is c.loop-bind-test.true (c.whole-so_far.ensures d)
    (c.bound_to.ensures.bound c.args.pool.now g (binds_at c.args.pool.now (drop (c.loop-bind.bind-index + 1) c.args.list.now)) d c.loop-bind.so_far)
    ∙ c.loop-bind.invariant d

pub returns : goal.returns
returns c = λ d. sym (binds_done (put_by c.args.pool.now c.args.frames.now) c.args.pool.now c.args.list.now c.loop-bind.bind-index d c.loop-bind.so_far c.loop-bind-test.false) ∙ c.loop-bind.invariant d
