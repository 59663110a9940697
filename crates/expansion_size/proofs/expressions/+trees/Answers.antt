-- Proves what is asked of the functions that go through an expression.
use Rattle.std.proofs.Common.{◌≡◌, ℕ, ◌+◌, ◌*◌, ◌≤◌, min, drop, false-eqb, List, length, slice_index_or, sym, ap, ◌∙◌, subst, arith}
use Rattle.std.proofs.lemmas.List.{get_or_default}
use Rattle.tla_tree.specs.Tree.{Form, Tree, name, graft, grafts, grafted_node}
use Rattle.tla_tree.specs.Pool.{Entry, at, trees_at}
use Rattle.tla_tree.proofs.PoolNumbers.{AllBelow-more, AllBelow-at}
use Rattle.tla_pool.specs.FormOf.{form_of}
use Rattle.pcal_tree.specs.InMemory.{past_numbers}
use Rattle.pcal_tree.proofs.InMemoryEach.{all_below_past, past_all_below}
use Rattle.expansion_size.specs.FramesIn.{put_by}
use Rattle.expansion_size.specs.TreesSpent.{lengths, tree_spent, parts_spent}
use Rattle.expansion_size.proofs.TreeLaws.{parts_more, parts_too_deep, form_spent, name_alone, name_put}
use Rattle.expansion_size.proofs.expressions.+trees.Goals as goal

pub expression-parts-requires : goal.expression-parts-requires
expression-parts-requires t c =
    let parts = c.deref.ensures.value ∙ ap (λ (n : Entry). n.parts) c.node.view_is in (
      omega (arith, c.decreases),
      (
        subst (λ (is : List ℕ). past_numbers is ≤ length c.args.pool.now) (sym parts)
            (all_below_past (length c.args.pool.now) c.node-node.result.now.parts (AllBelow-more c.args.e (length c.args.pool.now) c.node-node.result.now.parts (omega (arith, c.requires.there)) c.node-node.ensures.older)),
        c.requires.inner,
      ),
    )

pub expression-returns-in-None : goal.expression-returns-in-None
expression-returns-in-None t c =
    let n = c.node-node.result.now in
    let g = put_by c.args.pool.now c.args.frames.now in
    let us = grafts g (trees_at c.args.pool.now n.parts) in
    let named : n.form ≡ name c.in-Name.name = sym (ap (λ (n : Entry). n.form) c.node.view_is) ∙ ap form_of c.in-Name.is in
    c.with_nodes.ensures
    ∙ name_alone g c.in-Name.name n.place us c.args.weight c.args.depth c.args.left (c.in-None.ensures.tree c.args.pool.now n.place)
    ∙ ap (λ (f : Form). tree_spent c.args.weight c.args.depth (grafted_node g f n.place us) c.args.left) (sym named)
    ∙ ap (λ (u : Tree). tree_spent c.args.weight c.args.depth (graft g u) c.args.left) (sym c.node-node.ensures.tree)

pub expression-returns-in-Some : goal.expression-returns-in-Some
expression-returns-in-Some t c =
    let n = c.node-node.result.now in
    let ts = c.args.pool.now in
    let g = put_by ts c.args.frames.now in
    let us = grafts g (trees_at ts n.parts) in
    let named : n.form ≡ name c.in-Name.name = sym (ap (λ (n : Entry). n.form) c.node.view_is) ∙ ap form_of c.in-Name.is in
    c.expression.ensures
    ∙ name_put g c.in-Name.name n.place us (graft (put_by ts c.in-Some.found.around.now) (at ts c.in-Some.found.argument)) c.args.weight c.args.depth c.args.left (c.in-Some.ensures.tree ts n.place)
    ∙ ap (λ (f : Form). tree_spent c.args.weight c.args.depth (grafted_node g f n.place us) c.args.left) (sym named)
    ∙ ap (λ (u : Tree). tree_spent c.args.weight c.args.depth (graft g u) c.args.left) (sym c.node-node.ensures.tree)

pub expression-returns-in_default : goal.expression-returns-in_default
expression-returns-in_default t c =
    let n = c.node-node.result.now in
    let ts = c.args.pool.now in
    let g = put_by ts c.args.frames.now in
    let w = c.args.weight in
    let d = c.args.depth in
    let parts = c.deref.ensures.value ∙ ap (λ (n : Entry). n.parts) c.node.view_is in
    c.parts.ensures
    ∙ (λ z. parts_spent w d (c.groups.ensures z) (grafts g (trees_at ts (parts z))) (c.with_nodes-so_far.ensures z))
    ∙ form_spent c.node.inside.form g n.place (grafts g (trees_at ts n.parts)) w d c.args.left c.in_default.not-Name
    ∙ ap (λ (f : Form). tree_spent w d (grafted_node g f n.place (grafts g (trees_at ts n.parts))) c.args.left) (ap (λ (n : Entry). n.form) c.node.view_is)
    ∙ ap (λ (u : Tree). tree_spent w d (graft g u) c.args.left) (sym c.node-node.ensures.tree)

pub parts-returns-then-depth-eq0 : goal.parts-returns-then-depth-eq0
parts-returns-then-depth-eq0 t c =
    c.past.ensures
    ∙ parts_too_deep c.args.weight c.args.depth (lengths c.args.groups.now) (put_by c.args.pool.now c.args.frames.now) c.args.pool.now c.args.parts.now c.args.left c.if-depth-eq0.true
    (let some = false-eqb (length c.args.parts.now) 0 c.if-is_empty.ensures in omega (arith, some))

pub parts-expression-so_far-requires : goal.parts-expression-so_far-requires
parts-expression-so_far-requires t c =
    let below = AllBelow-at (length c.args.pool.now) c.args.parts.now c.loop-i.i 0 (past_all_below (length c.args.pool.now) c.args.parts.now c.requires.there) c.loop-i-test.true in
    (omega (arith, c.decreases, c.if-depth-eq0.false), (below, c.requires.inner))

pub parts-loop-i-preserved : goal.parts-loop-i-preserved
parts-loop-i-preserved t c =
    let e = slice_index_or c.args.parts.now c.loop-i.i 0 in
    let ks = lengths c.args.groups.now in
    let g = put_by c.args.pool.now c.args.frames.now in
    ap (parts_spent c.args.weight c.args.depth (drop (c.loop-i.i + 1) ks) (grafts g (trees_at c.args.pool.now (drop (c.loop-i.i + 1) c.args.parts.now)))) c.expression-so_far.ensures
    ∙ parts_more c.args.weight c.args.depth ks g c.args.pool.now c.args.parts.now c.loop-i.i e c.product-each.result c.loop-i.so_far (omega (arith, c.if-depth-eq0.false))
    (get_or_default c.args.parts.now c.loop-i.i 0 e c.loop-i-test.true) c.loop-i-test.true
    (c.product-each.ensures ∙ ap (λ (k : ℕ). min (c.args.weight * k) c.loop-i.so_far.nodes) c.times.ensures)
    ∙ c.loop-i.invariant
