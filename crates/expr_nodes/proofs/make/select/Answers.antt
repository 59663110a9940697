-- Proves what is asked of `select`.
use Rattle.std.proofs.Common.{ℕ, List, ap, ◌∙◌}
use Rattle.tla_tree.specs.Tree.{node}
use Rattle.tla_tree.specs.Pool.{trees_at}
use Rattle.tla_tree.specs.Tree as pure
use Rattle.expr_nodes.specs.ReadIn.{field_seen}
use Rattle.expr_nodes.proofs.MakeLemmas.{ok_three, select_in}
use Rattle.expr_nodes.proofs.make.select.Goals as goal

pub returns-clause-read : goal.returns-clause-read
returns-clause-read c = ok_three c.put.result c.put.ensures.within c.put.ensures.tree c.put.ensures.shape (λ x l t s a p g.
    select_in p (field_seen c.args.tokens.now.bytes.items c.args.field) c.in_ok-name_of.field-0 l (t ∙ ap (λ (is : List ℕ). node (pure.strict (pure.select c.in_ok-name_of.field-0)) c.args.r.shape.start (trees_at c.args.pool.now is)) c.in_ok-parts.ensures.items) c.in_ok-name_of.ensures (s ∙ c.select_shape-shape.ensures) g)
