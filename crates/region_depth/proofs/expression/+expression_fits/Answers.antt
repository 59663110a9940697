-- Proves what is asked of the calls that look at an expression.
use Rattle.std.proofs.Common.{length, sym, ap, ◌∙◌, subst, arith}
use Rattle.tla_tree.specs.Pool.{Entry, AllBelow}
use Rattle.tla_tree.proofs.PoolNumbers.{AllBelow-more, AllBelow-at}
use Rattle.region_depth.proofs.expression.+expression_fits.Goals as goal

pub expression_fits-requires : goal.expression_fits-requires
expression_fits-requires t c =
    let m = length c.args.pool.now in
    let older = AllBelow-more c.args.e m c.node-node.result.now.parts (omega (arith, c.requires.there)) c.node-node.ensures.older in
    let below = subst (AllBelow m) (sym (c.deref-part-items.ensures.value ∙ ap (λ (n : Entry). n.parts) c.node.view_is)) older in
    (omega (arith, c.if-depth-gt-DEEPEST.false, c.decreases), (AllBelow-at m c.deref-part-items.result.now c.loop-part.part-index 0 below c.loop-part-test.true, omega (arith, c.if-depth-gt-DEEPEST.false)))
