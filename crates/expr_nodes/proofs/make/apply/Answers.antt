-- Proves what is asked of `apply`.
use Rattle.std.proofs.Common.{ℕ, List, ap, ◌∙◌}
use Rattle.tla_tree.specs.Tree.{node}
use Rattle.tla_tree.specs.Pool.{trees_at}
use Rattle.tla_tree.specs.Tree as pure
use Rattle.expr_nodes.proofs.MakeLemmas.{ok_three, apply_in, subscript_in}
use Rattle.expr_nodes.proofs.make.apply.Goals as goal

pub returns-clause-read : goal.returns-clause-read
returns-clause-read c = ok_three c.put.result c.put.ensures.within c.put.ensures.tree c.put.ensures.shape (λ x l t s a xs p q g h.
    apply_in c.in_ok-index.index p q c.in_ok-index.ensures.kept l (t ∙ ap (λ (is : List ℕ). node (pure.strict pure.apply) c.args.f.shape.start (trees_at c.subscript.new.pool is)) c.in_ok-parts.ensures.items) (c.in_ok-index.ensures.tree ∙ subscript_in h) (s ∙ c.apply_shape-shape.ensures) g h)
