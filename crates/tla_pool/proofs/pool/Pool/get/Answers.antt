-- Proves what is found of a number.
use Rattle.std.proofs.Common.{◌≡◌, List, IfSome, IfNone, subst}
use Rattle.std.specs.Borrow.{Bor}
use Rattle.tla_tree.specs.Tree.{Tree}
use Rattle.tla_tree.specs.Pool.{Entry, at, nothing, tree_in}
use Rattle.tla_pool.proofs.PoolGrown.{some_tree, some_older, some_shaped, none_tree}
use Rattle.tla_pool.proofs.pool.Pool.get.Goals as goal

pub returns-clause-some : goal.returns-clause-some
returns-clause-some c =
    subst (λ (ts : List Tree). IfSome c.get_index.result (λ (n : Bor Entry). at ts c.args.id ≡ tree_in ts n.now)) c.self.view_is
    (some_tree c.self.inside.nodes.keys c.args.id c.get_index.result c.self.invariant.0 c.get_index.ensures.key)

pub returns-clause-none : goal.returns-clause-none
returns-clause-none c =
    subst (λ (ts : List Tree). IfNone c.get_index.result (at ts c.args.id ≡ nothing)) c.self.view_is
    (none_tree c.self.inside.nodes.keys c.args.id c.get_index.result c.get_index.ensures.key)

pub returns-clause-older : goal.returns-clause-older
returns-clause-older c = some_older c.self.inside.nodes.keys c.args.id c.get_index.result c.self.invariant.0 c.get_index.ensures.key

pub returns-clause-shaped : goal.returns-clause-shaped
returns-clause-shaped c = some_shaped c.self.inside.nodes.keys c.args.id c.get_index.result c.self.invariant.1 c.get_index.ensures.key
