-- Proves what is asked of `binding`.
use Rattle.std.proofs.Common.{List, ℕ, sym, subst, length}
use Rattle.tla_tree.specs.Pool.{AllBelow}
use Rattle.tla_tree.proofs.PoolNumbers.{AllBelow-push}
use Rattle.expr_nodes.proofs.gather.binding.Goals as goal

pub put-requires-clause-below : goal.put-requires-clause-below
put-requires-clause-below c = subst (λ (is : List ℕ). AllBelow (length c.args.pool.now) is) (sym c.in_ok-push.ensures.items) (AllBelow-push (length c.args.pool.now) c.args.sets.items c.args.body.id c.requires.below c.requires.body_in)
