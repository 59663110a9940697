-- Proves that each left and right side counts.
use Rattle.std.proofs.Common.{slice_index_or, sym, ap, ◌∙◌, arith}
use Rattle.std.proofs.lemmas.List.{get_or_default}
use Rattle.tla_tree.specs.Tree.{graft}
use Rattle.tla_tree.specs.Pool.{at}
use Rattle.tla_tree.proofs.PoolNumbers.{past_at}
use Rattle.pcal_tree.specs.declared.algorithm.Assignment.{Assignment}
use Rattle.pcal_tree.specs.InMemory.{past_assignment}
use Rattle.expansion_size.specs.FramesIn.{put_by}
use Rattle.expansion_size.specs.TreesSpent.{left_spent}
use Rattle.expansion_size.proofs.BodyLaws.{sides_more, sides_done}
use Rattle.expansion_size.proofs.bodies.assignments.Goals as goal

pub subscripts-sides-requires-clause-there : goal.subscripts-sides-requires-clause-there
subscripts-sides-requires-clause-there c =
    let none : Assignment = record { left = 0; right = 0 } in
    let o = slice_index_or c.args.list.now c.loop-one.one-index none in
    let past = past_at past_assignment c.args.list.now c.loop-one.one-index o (get_or_default c.args.list.now c.loop-one.one-index none o c.loop-one-test.true) c.loop-one-test.true in
    omega (arith, past, c.requires.there)

pub whole-so_far-requires-clause-there : goal.whole-so_far-requires-clause-there
whole-so_far-requires-clause-there c =
    let none : Assignment = record { left = 0; right = 0 } in
    let o = slice_index_or c.args.list.now c.loop-one.one-index none in
    let past = past_at past_assignment c.args.list.now c.loop-one.one-index o (get_or_default c.args.list.now c.loop-one.one-index none o c.loop-one-test.true) c.loop-one-test.true in
    omega (arith, past, c.requires.there)

pub loop-one-preserved : goal.loop-one-preserved
loop-one-preserved c = λ d.
    let none : Assignment = record { left = 0; right = 0 } in
    let o = slice_index_or c.args.list.now c.loop-one.one-index none in
    let g = put_by c.args.pool.now c.args.frames.now in
    sides_more g c.args.pool.now c.args.list.now c.loop-one.one-index d o c.loop-one.so_far c.subscripts-sides.result c.whole-so_far.result
    (get_or_default c.args.list.now c.loop-one.one-index none o c.loop-one-test.true) c.loop-one-test.true
    (c.subscripts-sides.ensures ∙ ap (left_spent (graft g (at c.args.pool.now o.left))) c.with_nodes.ensures) (c.whole-so_far.ensures d)
    ∙ c.loop-one.invariant d

pub returns : goal.returns
returns c = λ d. sym (sides_done (put_by c.args.pool.now c.args.frames.now) c.args.pool.now c.args.list.now c.loop-one.one-index d c.loop-one.so_far c.loop-one-test.false) ∙ c.loop-one.invariant d
