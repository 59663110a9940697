-- Proves what is asked of `shaped`.
use Rattle.std.proofs.Common.{ℕ, sym, ap, subst, ◌∙◌, length}
use Rattle.std.proofs.lemmas.List.{length-map}
use Rattle.tla_tree.specs.Tree.{Form}
use Rattle.tla_tree.specs.Shapes.{Shaped}
use Rattle.tla_tree.specs.TreeOf.{root_form, root_parts}
use Rattle.tla_tree.specs.Pool.{at}
use Rattle.tla_tree.proofs.TreeLemmas.{root_parts-entry}
use Rattle.tla_pool.proofs.seen.Seen.shaped.Goals as goal

pub returns : goal.returns
returns c =
    let trees = c.self.inside.pool.now in
    let node = c.node-node.result.now in
    let whole = sym c.self.view_is ∙ c.node-node.ensures.tree in
    let count = sym (length-map node.parts (at trees)) ∙ ap length (sym (root_parts-entry trees node c.args.self.now whole)) in
    subst (λ (m : Form). Shaped m (length (root_parts c.args.self.now))) (sym (ap root_form whole)) (subst (λ (n : ℕ). Shaped node.form n) count c.node-node.ensures.shaped)
