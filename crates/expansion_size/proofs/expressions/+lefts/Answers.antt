-- Proves what is asked of the functions that go through a left side.
use Rattle.std.proofs.Common.{◌≡◌, ℕ, List, sym, ap, ◌∙◌}
use Rattle.tla_tree.specs.Tree.{Form, Tree, name, strict, graft, grafts, grafted_node, node}
use Rattle.tla_tree.specs.Pool.{Entry, at, trees_at}
use Rattle.tla_pool.specs.FormOf.{strict_of, form_of}
use Rattle.expansion_size.specs.FramesIn.{put_by}
use Rattle.expansion_size.specs.TreesSpent.{left_spent}
use Rattle.expansion_size.proofs.SideLaws.{root_alone, root_put}
use Rattle.expansion_size.proofs.expressions.+lefts.Goals as goal

pub subscripts-returns-in-None : goal.subscripts-returns-in-None
subscripts-returns-in-None t c =
    let n = c.node-node.result.now in
    let g = put_by c.args.pool.now c.args.frames.now in
    let us = grafts g (trees_at c.args.pool.now n.parts) in
    let named : n.form ≡ name c.in-Name.name = sym (ap (λ (n : Entry). n.form) c.node.view_is) ∙ ap form_of c.in-Name.is in
    root_alone g c.in-Name.name n.place us c.args.left (c.in-None.ensures.tree c.args.pool.now n.place)
    ∙ ap (λ (f : Form). left_spent (grafted_node g f n.place us) c.args.left) (sym named)
    ∙ ap (λ (u : Tree). left_spent (graft g u) c.args.left) (sym c.node-node.ensures.tree)

pub subscripts-returns-in-Some : goal.subscripts-returns-in-Some
subscripts-returns-in-Some t c =
    let n = c.node-node.result.now in
    let ts = c.args.pool.now in
    let g = put_by ts c.args.frames.now in
    let us = grafts g (trees_at ts n.parts) in
    let named : n.form ≡ name c.in-Name.name = sym (ap (λ (n : Entry). n.form) c.node.view_is) ∙ ap form_of c.in-Name.is in
    c.subscripts.ensures
    ∙ root_put g c.in-Name.name n.place us (graft (put_by ts c.in-Some.found.around.now) (at ts c.in-Some.found.argument)) c.args.left (c.in-Some.ensures.tree ts n.place)
    ∙ ap (λ (f : Form). left_spent (grafted_node g f n.place us) c.args.left) (sym named)
    ∙ ap (λ (u : Tree). left_spent (graft g u) c.args.left) (sym c.node-node.ensures.tree)

pub subscripts-returns-in-Strict : goal.subscripts-returns-in-Strict
subscripts-returns-in-Strict t c =
    let n = c.node-node.result.now in
    let ts = c.args.pool.now in
    let g = put_by ts c.args.frames.now in
    let formed : n.form ≡ strict (strict_of c.in-Strict.strict) = sym (ap (λ (n : Entry). n.form) c.node.view_is) ∙ ap form_of c.in-Strict.is in
    let parts = c.deref.ensures.value ∙ ap (λ (n : Entry). n.parts) c.node.view_is in
    c.strict_subscripts.ensures n.place
    ∙ ap (λ (is : List ℕ). left_spent (node (strict (strict_of c.in-Strict.strict)) n.place (grafts g (trees_at ts is))) c.args.left) parts
    ∙ ap (λ (f : Form). left_spent (grafted_node g f n.place (grafts g (trees_at ts n.parts))) c.args.left) (sym formed)
    ∙ ap (λ (u : Tree). left_spent (graft g u) c.args.left) (sym c.node-node.ensures.tree)
