-- Proves what is asked of `infix`.
use Rattle.std.proofs.Common.{ℕ, List, ap, ◌∙◌}
use Rattle.tla_tree.specs.Tree.{node}
use Rattle.tla_pool.specs.FormOf.{form_of}
use Rattle.tla_tree.specs.Pool.{trees_at}
use Rattle.expr_nodes.proofs.MakeLemmas.{ok_three, infix_in}
use Rattle.expr_nodes.proofs.make.infix.Goals as goal

pub returns-clause-read : goal.returns-clause-read
returns-clause-read c = ok_three c.put.result c.put.ensures.within c.put.ensures.tree c.put.ensures.shape (λ x l t s w i j p g h.
    infix_in c.args.op p (form_of c.operation.result) l (t ∙ ap (λ (is : List ℕ). node (form_of c.operation.result) c.args.a.shape.start (trees_at c.args.pool.now is)) c.in_ok-parts.ensures.items) c.operation.ensures (s ∙ c.infix_shape-shape.ensures) g h)
