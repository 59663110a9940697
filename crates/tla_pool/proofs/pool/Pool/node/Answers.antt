-- Proves what is asked of `node`.
use Rattle.std.proofs.Common.{◌≡◌, ◌<◌, arith, ap, length, subst, sym, [], ◌∙◌}
use Rattle.std.specs.Option.{option_copied}
use Rattle.tla_tree.specs.Pool.{at, tree_in}
use Rattle.tla_pool.proofs.PoolGrown.{got-shaped, length-grown, got-tree, got-below}
use Rattle.tla_pool.proofs.pool.Pool.node.Goals as goal

pub unwrap-requires : goal.unwrap-requires
unwrap-requires c = c.get_index.ensures.found.1 (omega (arith, length-grown [] c.self.inside.nodes.keys, ap length c.self.view_is, c.requires))

pub returns-clause-tree : goal.returns-clause-tree
returns-clause-tree c =
    let ns = c.self.inside.nodes.keys in
    let lt : c.args.id < length ns = omega (arith, length-grown [] ns, ap length c.self.view_is, c.requires) in
    subst (λ ts. at ts c.args.id ≡ tree_in ts c.unwrap.result.now) c.self.view_is
    (got-tree ns c.args.id c.unwrap.result.now c.self.invariant.0 lt (sym c.get_index.ensures.key ∙ ap option_copied c.unwrap.ensures))

pub returns-clause-older : goal.returns-clause-older
returns-clause-older c =
    let ns = c.self.inside.nodes.keys in
    let lt : c.args.id < length ns = omega (arith, length-grown [] ns, ap length c.self.view_is, c.requires) in
    got-below ns c.args.id c.unwrap.result.now c.self.invariant.0 lt (sym c.get_index.ensures.key ∙ ap option_copied c.unwrap.ensures)

pub returns-clause-shaped : goal.returns-clause-shaped
returns-clause-shaped c = got-shaped c.self.inside.nodes.keys c.args.id c.unwrap.result.now c.self.invariant.1 (sym c.get_index.ensures.key ∙ ap option_copied c.unwrap.ensures)
