-- Proves what is asked of the functions that measure an expression.
use Rattle.std.proofs.Common.{ℕ, ◌+◌, ◌≤◌, ◌++◌, true, false, List, [], length, take, slice_index_or, Option, IfSome, sym, ap, ◌∙◌, subst, refl, arith}
use Rattle.std.proofs.lemmas.List.{get_or_default}
use Rattle.std.proofs.lemmas.Result.{IfOk-from_err}
use Rattle.std.proofs.Math.Seq.{take-append_seam}
use Rattle.tla_tree.specs.Tree.{Word, seen_names}
use Rattle.tla_tree.specs.Shapes.{Shaped}
use Rattle.tla_tree.specs.Pool.{Entry, trees_at, AllBelow}
use Rattle.tla_tree.proofs.PoolNumbers.{AllBelow-at}
use Rattle.tla_pool.specs.FormOf.{form_of}
use Rattle.tla_value.specs.DefinitionNesting.{depths, used}
use Rattle.tla_value.specs.StandardModules.{is_member}
use Rattle.module_tree.specs.Outside.{form_reads}
use Rattle.outside_reading.specs.TreeDepth.{trees_depth}
use Rattle.algorithm_limits.specs.DepthsIn.{seen_by, seen_next, Hides}
use Rattle.algorithm_limits.proofs.BoundLemmas.{hides_none, hides_then, hides_as, seen_first, seen_more}
use Rattle.algorithm_limits.proofs.Greater.{max_is}
use Rattle.module_outside.specs.SightIn.{Binds}
use Rattle.module_outside.proofs.SightLaws.{binds_more, used_seen}
use Rattle.module_outside.proofs.DepthLaws.{part_more, part_none, parts_first, parts_end, node_depth}
use Rattle.module_outside.proofs.depth.+tree_depth.Goals as goal

pub parts_depth-tree_depth-requires : goal.parts_depth-tree_depth-requires
parts_depth-tree_depth-requires t c =
    let below = AllBelow-at c.args.past c.args.parts.now c.loop-i.i 0 c.requires.there c.loop-i-test.true in
    (omega (arith, below, c.decreases), omega (arith, below, c.requires.inside))

pub parts_depth-returns-in-None-clause-depth : goal.parts_depth-returns-in-None-clause-depth
parts_depth-returns-in-None-clause-depth t c v bs s b =
    let m = form_of c.args.form.now in
    let e = slice_index_or c.args.parts.now c.loop-i.i 0 in
    part_none v bs c.args.pool.now m c.args.parts.now c.loop-i.i e (get_or_default c.args.parts.now c.loop-i.i 0 e c.loop-i-test.true) c.loop-i-test.true c.is_last_of_member-infinite.result c.loop-i.deepest
    c.is_last_of_member-infinite.ensures c.requires.shaped (sym c.in-None.is ∙ c.in_ok-depth.ensures.depth v (seen_by m c.loop-i.i ++ bs) s (binds_more c.args.bound.now c.loop-i.bound (seen_by m c.loop-i.i) bs b c.loop-i.invariant.bound))
    (c.loop-i.invariant.depth v bs s b)

pub parts_depth-loop-i-preserved : goal.parts_depth-loop-i-preserved
parts_depth-loop-i-preserved t c =
    let m = form_of c.args.form.now in
    let e = slice_index_or c.args.parts.now c.loop-i.i 0 in
    let small = subst (λ (o : Option ℕ). IfSome o (λ n. n ≤ 500)) c.in-Some.is c.in_ok-depth.ensures.small in
    let more = c.max-deepest.ensures ∙ max_is c.loop-i.deepest (c.in-Some.depth + 1) in
    record {
      small = (let h = c.loop-i.invariant.small in omega (arith, small, more, h));
      bound = hides_as c.args.bound.now c.add_next.new.self _ _ (seen_more m c.loop-i.i)
          (hides_then c.args.bound.now c.loop-i.bound c.add_next.new.self (seen_by m c.loop-i.i) (seen_next m c.loop-i.i) c.loop-i.invariant.bound
          (subst (λ (b : List Word). Hides b c.add_next.new.self (seen_next m c.loop-i.i)) c.in_ok-depth.ensures.kept c.in_ok-add_next.ensures));
      depth = λ v bs s b.
          part_more v bs c.args.pool.now m c.args.parts.now c.loop-i.i e (get_or_default c.args.parts.now c.loop-i.i 0 e c.loop-i-test.true) c.loop-i-test.true c.is_last_of_member-infinite.result c.loop-i.deepest c.in-Some.depth c.max-deepest.result
          c.is_last_of_member-infinite.ensures c.requires.shaped (sym c.in-Some.is ∙ c.in_ok-depth.ensures.depth v (seen_by m c.loop-i.i ++ bs) s (binds_more c.args.bound.now c.loop-i.bound (seen_by m c.loop-i.i) bs b c.loop-i.invariant.bound))
          more (c.loop-i.invariant.depth v bs s b);
    }

pub tree_depth-returns-then-not-reads-clause-depth : goal.tree_depth-returns-then-not-reads-clause-depth
tree_depth-returns-then-not-reads-clause-depth t c v bs s b =
    let n = c.node-node.result.now in
    node_depth v bs c.args.pool.now c.args.e n c.args.infinite false (used (depths [] v.earlier) n.form) (trees_depth v (depths [] v.earlier) bs (seen_names n.form) (is_member n.form) (trees_at c.args.pool.now n.parts)) c.node-node.ensures.tree
    (sym c.if-not-reads.true ∙ c.in_ok-reads.ensures.value v bs s b
    ∙ (λ i. form_reads v bs c.args.infinite ((ap (λ (n : Entry). n.form) c.node.view_is) i) ((ap (λ (is : List ℕ). length is) c.deref-parts.ensures.value ∙ ap (λ (n : Entry). length n.parts) c.node.view_is) i))) refl refl

pub tree_depth-returns-clause-depth : goal.tree_depth-returns-clause-depth
tree_depth-returns-clause-depth t c v bs s b =
    let n = c.node-node.result.now in
    let m = form_of c.node.inside.form in
    let f = ap (λ (n : Entry). n.form) c.node.view_is in
    let kept = c.truncate.ensures ∙ ap (λ (k : ℕ). take k c.form_reads.new.bound) c.len-around.ensures ∙ c.in_ok-reads.ensures.kept in
    c.with_parts.ensures.value
    ∙ node_depth v bs c.args.pool.now c.args.e n c.args.infinite true c.use_depth.result c.in_ok-deepest.deepest c.node-node.ensures.tree
    (sym c.if-not-reads.false ∙ c.in_ok-reads.ensures.value v bs s b ∙ (λ i. form_reads v bs c.args.infinite (f i) ((ap (λ (is : List ℕ). length is) c.deref-parts.ensures.value ∙ ap (λ (n : Entry). length n.parts) c.node.view_is) i)))
    (c.use_depth.ensures ∙ used_seen c.args.sight.now v s m ∙ ap (used (depths [] v.earlier)) f)
    (c.in_ok-deepest.ensures.depth v bs s (subst (λ (hs : List Word). Binds hs bs) (sym kept) b)
    ∙ (λ i. trees_depth v (depths [] v.earlier) bs (seen_names (f i)) (is_member (f i)) (trees_at c.args.pool.now ((c.deref-parts.ensures.value ∙ ap (λ (n : Entry). n.parts) c.node.view_is) i))))

pub parts_depth-loop-i-init : goal.parts_depth-loop-i-init
parts_depth-loop-i-init t c = record {
  small = omega arith;
  bound = hides_as c.args.bound.now c.args.bound.now [] _ (sym (seen_first (form_of c.args.form.now))) (hides_none c.args.bound.now);
  depth = λ v bs s b. parts_first _;
}

pub parts_depth-overflow_add-depth : goal.parts_depth-overflow_add-depth
parts_depth-overflow_add-depth t c = let h = subst (λ (o : Option ℕ). IfSome o (λ n. n ≤ 500)) c.in-Some.is c.in_ok-depth.ensures.small in omega (arith, h)

pub parts_depth-returns-in-None-clause-kept : goal.parts_depth-returns-in-None-clause-kept
parts_depth-returns-in-None-clause-kept t c =
    ap (take (length c.args.bound.now)) (c.in_ok-depth.ensures.kept ∙ c.loop-i.invariant.bound.behind) ∙ take-append_seam c.args.bound.now c.loop-i.invariant.bound.more

pub parts_depth-returns-clause-depth : goal.parts_depth-returns-clause-depth
parts_depth-returns-clause-depth t c v bs s b =
    parts_end v bs c.args.pool.now (form_of c.args.form.now) c.args.parts.now c.loop-i.i c.loop-i.deepest _ c.loop-i-test.false (c.loop-i.invariant.depth v bs s b)

pub parts_depth-returns-clause-kept : goal.parts_depth-returns-clause-kept
parts_depth-returns-clause-kept t c = ap (take (length c.args.bound.now)) c.loop-i.invariant.bound.behind ∙ take-append_seam c.args.bound.now c.loop-i.invariant.bound.more

pub tree_depth-returns-then-not-reads-clause-small : goal.tree_depth-returns-then-not-reads-clause-small
tree_depth-returns-then-not-reads-clause-small t c = tt

pub tree_depth-returns-then-not-reads-clause-kept : goal.tree_depth-returns-then-not-reads-clause-kept
tree_depth-returns-then-not-reads-clause-kept t c = c.truncate.ensures ∙ ap (λ (k : ℕ). take k c.form_reads.new.bound) c.len-around.ensures ∙ c.in_ok-reads.ensures.kept

pub tree_depth-returns-clause-small : goal.tree_depth-returns-clause-small
tree_depth-returns-clause-small t c = c.with_parts.ensures.small

pub tree_depth-returns-clause-kept : goal.tree_depth-returns-clause-kept
tree_depth-returns-clause-kept t c =
    let kept = c.truncate.ensures ∙ ap (λ (k : ℕ). take k c.form_reads.new.bound) c.len-around.ensures ∙ c.in_ok-reads.ensures.kept in
    c.truncate-2.ensures ∙ ap (λ (k : ℕ). take k c.parts_depth.new.bound) (c.len-around.ensures ∙ ap (λ (ws : List Word). length ws) (sym kept)) ∙ c.in_ok-deepest.ensures.kept ∙ kept

pub tree_depth-parts_depth-requires : goal.tree_depth-parts_depth-requires
tree_depth-parts_depth-requires t c =
    let parts = c.deref-parts.ensures.value ∙ ap (λ (n : Entry). n.parts) c.node.view_is in (
      omega (arith, c.decreases),
      (
        subst (λ (is : List ℕ). AllBelow c.args.e is) (sym parts) c.node-node.ensures.older,
        (
          omega (arith, c.requires),
          subst (λ (is : List ℕ). Shaped (form_of c.node.inside.form) (length is)) (sym c.deref-parts.ensures.value) (subst (λ (k : Entry). Shaped k.form (length k.parts)) (sym c.node.view_is) c.node-node.ensures.shaped),
        ),
      ),
    )

pub parts_depth-returns-in_err-depth-clause-depth : goal.parts_depth-returns-in_err-depth-clause-depth
parts_depth-returns-in_err-depth-clause-depth t c = IfOk-from_err c.from_residual.result _ c.from_residual.ensures.0

pub parts_depth-returns-in_err-depth-clause-kept : goal.parts_depth-returns-in_err-depth-clause-kept
parts_depth-returns-in_err-depth-clause-kept t c = IfOk-from_err c.from_residual.result _ c.from_residual.ensures.0

pub parts_depth-returns-in_err-add_next-clause-depth : goal.parts_depth-returns-in_err-add_next-clause-depth
parts_depth-returns-in_err-add_next-clause-depth t c = IfOk-from_err c.from_residual-in_err-add_next.result _ c.from_residual-in_err-add_next.ensures.0

pub parts_depth-returns-in_err-add_next-clause-kept : goal.parts_depth-returns-in_err-add_next-clause-kept
parts_depth-returns-in_err-add_next-clause-kept t c = IfOk-from_err c.from_residual-in_err-add_next.result _ c.from_residual-in_err-add_next.ensures.0

pub tree_depth-returns-in_err-reads-clause-depth : goal.tree_depth-returns-in_err-reads-clause-depth
tree_depth-returns-in_err-reads-clause-depth t c = IfOk-from_err c.from_residual.result _ c.from_residual.ensures.0

pub tree_depth-returns-in_err-reads-clause-small : goal.tree_depth-returns-in_err-reads-clause-small
tree_depth-returns-in_err-reads-clause-small t c = IfOk-from_err c.from_residual.result _ c.from_residual.ensures.0

pub tree_depth-returns-in_err-reads-clause-kept : goal.tree_depth-returns-in_err-reads-clause-kept
tree_depth-returns-in_err-reads-clause-kept t c = IfOk-from_err c.from_residual.result _ c.from_residual.ensures.0

pub tree_depth-returns-in_err-deepest-clause-depth : goal.tree_depth-returns-in_err-deepest-clause-depth
tree_depth-returns-in_err-deepest-clause-depth t c = IfOk-from_err c.from_residual-in_err-deepest.result _ c.from_residual-in_err-deepest.ensures.0

pub tree_depth-returns-in_err-deepest-clause-small : goal.tree_depth-returns-in_err-deepest-clause-small
tree_depth-returns-in_err-deepest-clause-small t c = IfOk-from_err c.from_residual-in_err-deepest.result _ c.from_residual-in_err-deepest.ensures.0

pub tree_depth-returns-in_err-deepest-clause-kept : goal.tree_depth-returns-in_err-deepest-clause-kept
tree_depth-returns-in_err-deepest-clause-kept t c = IfOk-from_err c.from_residual-in_err-deepest.result _ c.from_residual-in_err-deepest.ensures.0
