-- Proves that each expression of a list counts.
use Rattle.std.proofs.Common.{slice_index_or, length, sym, ◌∙◌}
use Rattle.std.proofs.lemmas.List.{get_or_default}
use Rattle.tla_tree.proofs.PoolNumbers.{AllBelow-at}
use Rattle.pcal_tree.proofs.InMemoryEach.{past_all_below}
use Rattle.expansion_size.specs.FramesIn.{put_by}
use Rattle.expansion_size.proofs.SideLaws.{list_more, list_done}
use Rattle.expansion_size.proofs.expressions.expressions.Goals as goal

pub whole-so_far-requires : goal.whole-so_far-requires
whole-so_far-requires c = record {
  there = AllBelow-at (length c.args.pool.now) c.args.es.now c.loop-i.i 0 (past_all_below (length c.args.pool.now) c.args.es.now c.requires.there) c.loop-i-test.true;
  inner = c.requires.inner;
}

pub loop-i-preserved : goal.loop-i-preserved
loop-i-preserved c = λ d.
    let e = slice_index_or c.args.es.now c.loop-i.i 0 in
    list_more (put_by c.args.pool.now c.args.frames.now) c.args.pool.now c.args.es.now c.loop-i.i e d c.loop-i.so_far c.whole-so_far.result (get_or_default c.args.es.now c.loop-i.i 0 e c.loop-i-test.true) c.loop-i-test.true (c.whole-so_far.ensures d)
    ∙ c.loop-i.invariant d

pub returns : goal.returns
returns c = λ d. sym (list_done (put_by c.args.pool.now c.args.frames.now) c.args.pool.now c.args.es.now c.loop-i.i d c.loop-i.so_far c.loop-i-test.false) ∙ c.loop-i.invariant d
