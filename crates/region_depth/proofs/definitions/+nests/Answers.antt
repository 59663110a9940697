-- Proves what is asked of the functions that measure how deep an expression nests.
use Rattle.std.proofs.Common.{ℕ, ◌+◌, max, min, List, length, drop, slice_index_or, sym, ap, ◌∙◌, subst, arith}
use Rattle.std.proofs.lemmas.List.{get_or_default}
use Rattle.tla_tree.specs.Tree.{Word}
use Rattle.tla_tree.specs.Pool.{Entry, AllBelow, trees_at}
use Rattle.tla_tree.proofs.PoolNumbers.{AllBelow-more, AllBelow-at}
use Rattle.tla_pool.specs.FormOf.{form_of}
use Rattle.algorithm_limits.specs.DepthsIn.{seen_by, seen_next, nest_from, Hides}
use Rattle.algorithm_limits.proofs.BoundLemmas.{hides_then, hides_as, seen_more}
use Rattle.algorithm_limits.proofs.Greater.{max_is, greater_small}
use Rattle.algorithm_limits.proofs.NestLaws.{part_nests}
use Rattle.region_depth.proofs.DeepNodes.{node_found}
use Rattle.region_depth.proofs.definitions.+nests.Goals as goal

pub nests-parts_nest-requires : goal.nests-parts_nest-requires
nests-parts_nest-requires t c = (
  omega (arith, c.if-most-eq0.false, c.decreases),
  (
    subst (λ (ids : List ℕ). AllBelow (length c.args.pool.now) ids) (sym (c.deref.ensures.value ∙ ap (λ (n : Entry). n.parts) c.node.view_is))
        (AllBelow-more c.args.e (length c.args.pool.now) c.node-node.result.now.parts (omega (arith, c.requires.there)) c.node-node.ensures.older),
    omega (arith, c.if-most-eq0.false, c.requires.within),
  ),
)

pub nests-returns-clause-depth : goal.nests-returns-clause-depth
nests-returns-clause-depth t c =
    node_found 1201 c.args.most c.args.depths.now c.args.bound.now c.args.pool.now c.args.e c.node-node.result.now (form_of c.node.inside.form) c.deref.result.now c.form_depth-own.result c.in_ok-parts.parts c.min.result
    (omega (arith, c.if-most-eq0.false)) c.requires.within c.node-node.ensures.tree c.node-node.ensures.shaped (ap (λ (n : Entry). n.form) c.node.view_is) (c.deref.ensures.value ∙ ap (λ (n : Entry). n.parts) c.node.view_is) c.form_depth-own.ensures
    c.in_ok-parts.ensures.depth (omega (arith, c.min.ensures, c.max.ensures))

pub parts_nest-nests-requires : goal.parts_nest-nests-requires
parts_nest-nests-requires t c = (omega (arith, c.decreases), (AllBelow-at (length c.args.pool.now) c.args.parts.now c.loop-i.i 0 c.requires.there c.loop-i-test.true, omega (arith, c.requires.within)))

pub parts_nest-loop-i-preserved : goal.parts_nest-loop-i-preserved
parts_nest-loop-i-preserved t c = record {
  small = greater_small c.max-deepest.result c.loop-i.deepest c.in_ok-part.part c.args.most (c.max-deepest.ensures ∙ max_is c.loop-i.deepest (c.in_ok-part.part + 1)) c.loop-i.invariant.small c.in_ok-part.ensures.small;
  bound = hides_as c.args.bound.now c.add_next.new.self _ _ (seen_more (form_of c.args.form.now) c.loop-i.i)
      (hides_then c.args.bound.now c.loop-i.bound c.add_next.new.self (seen_by (form_of c.args.form.now) c.loop-i.i) (seen_next (form_of c.args.form.now) c.loop-i.i) c.loop-i.invariant.bound
      (subst (λ (b : List Word). Hides b c.add_next.new.self (seen_next (form_of c.args.form.now) c.loop-i.i)) c.in_ok-part.ensures.kept c.in_ok-add_next.ensures));
  depth = λ ds a.
      ap (λ (z : ℕ). min (c.args.most + 1) (max z (nest_from (form_of c.args.form.now) (c.loop-i.i + 1) (trees_at c.args.pool.now (drop (c.loop-i.i + 1) c.args.parts.now)) ds))) (c.max-deepest.ensures ∙ max_is c.loop-i.deepest (c.in_ok-part.part + 1))
      ∙ part_nests 1201 c.args.most c.args.depths.now c.args.bound.now c.loop-i.bound (form_of c.args.form.now) c.args.pool.now c.args.parts.now c.loop-i.i (slice_index_or c.args.parts.now c.loop-i.i 0) c.in_ok-part.part c.loop-i.deepest
      (get_or_default c.args.parts.now c.loop-i.i 0 (slice_index_or c.args.parts.now c.loop-i.i 0) c.loop-i-test.true) c.loop-i-test.true c.loop-i.invariant.bound c.in_ok-part.ensures.depth c.loop-i.invariant.depth ds a;
}
