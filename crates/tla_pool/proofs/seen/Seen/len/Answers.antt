-- Proves what is asked of `len`.
use Rattle.std.proofs.Common.{arith, ap, sym, ◌∙◌, length}
use Rattle.std.proofs.lemmas.List.{length-map}
use Rattle.tla_tree.specs.Pool.{at, tree_in}
use Rattle.tla_tree.proofs.TreeLemmas.{root_parts-entry}
use Rattle.tla_pool.proofs.seen.Seen.len.Goals as goal

pub returns : goal.returns
returns c =
    let trees = c.self.inside.pool.now in
    let parts = root_parts-entry trees _ c.args.self.now (sym c.self.view_is ∙ c.node-node.ensures.tree ∙ ap (tree_in trees) (sym c.node.view_is)) in
    omega (arith, c.len.ensures, c.node.inside.parts.ok.0, length-map c.node.inside.parts.items (at trees), ap length parts)
