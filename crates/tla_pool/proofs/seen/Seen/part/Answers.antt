-- Proves what is asked of `part`.
use Rattle.std.proofs.Common.{◌<◌, arith, ap, sym, ◌∙◌, length, subst, Some}
use Rattle.std.specs.Prelude.{slice_get}
use Rattle.std.proofs.lemmas.List.{length-map}
use Rattle.std.proofs.lemmas.Option.{slice_get-get_or}
use Rattle.tla_tree.specs.Pool.{Entry, at, tree_in, AllBelow}
use Rattle.tla_tree.proofs.PoolNumbers.{AllBelow-at}
use Rattle.tla_tree.proofs.TreeLemmas.{root_parts-entry, map-slice_get}
use Rattle.tla_pool.proofs.seen.Seen.part.Goals as goal

pub index-requires : goal.index-requires
index-requires c =
    let trees = c.self.inside.pool.now in
    let parts = root_parts-entry trees _ c.args.self.now (sym c.self.view_is ∙ c.node-node.ensures.tree ∙ ap (tree_in trees) (sym c.node.view_is)) in
    omega (arith, c.requires, c.node.inside.parts.ok.0, length-map c.node.inside.parts.items (at trees), ap length parts)

pub invariant_of-result : goal.invariant_of-result
invariant_of-result c =
    let trees = c.self.inside.pool.now in
    let items = c.node.inside.parts.items in
    let parts = root_parts-entry trees _ c.args.self.now (sym c.self.view_is ∙ c.node-node.ensures.tree ∙ ap (tree_in trees) (sym c.node.view_is)) in
    let lt : c.args.i < length items = omega (arith, c.requires, length-map items (at trees), ap length parts) in
    let older = subst (λ (n : Entry). AllBelow c.self.inside.id n.parts) (sym c.node.view_is) c.node-node.ensures.older in
    omega (arith, AllBelow-at c.self.inside.id items c.args.i c.index.result.now older lt, c.index.ensures, c.self.invariant)

pub returns : goal.returns
returns c =
    let trees = c.self.inside.pool.now in
    let items = c.node.inside.parts.items in
    let parts = root_parts-entry trees _ c.args.self.now (sym c.self.view_is ∙ c.node-node.ensures.tree ∙ ap (tree_in trees) (sym c.node.view_is)) in
    let lt : c.args.i < length items = omega (arith, c.requires, length-map items (at trees), ap length parts) in
    ap (λ l. slice_get l c.args.i) parts ∙ map-slice_get (at trees) items c.args.i c.index.result.now (slice_get-get_or items c.args.i c.index.result.now lt ∙ ap Some (sym c.index.ensures))
