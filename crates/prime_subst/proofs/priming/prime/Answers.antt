-- Proves that an expression without these variables is the same one, as any is where there is none of them.
use Rattle.std.proofs.Common.{sym}
use Rattle.std.proofs.lemmas.Result.{IfOk-weaker}
use Rattle.tla_token.specs.Signs.{is_among}
use Rattle.tla_tree.specs.Tree.{next, node, no_trees}
use Rattle.tla_tree.specs.Pool.{at}
use Rattle.name_bits.specs.NamesIn.{names_in}
use Rattle.prime_subst.proofs.LeftAlone.{left_alone, nothing_put}
use Rattle.prime_subst.proofs.priming.prime.Goals as goal

pub returns-clause-same : goal.returns-clause-same
returns-clause-same c =
    IfOk-weaker c.grafted.result _ _
    (λ r h lacks. h (left_alone (is_among (names_in c.args.order.now c.args.assigned.now)) (λ x p. node (next x) p no_trees) (at c.args.pool.now c.args.e) lacks))
    c.grafted.ensures.same

pub returns-then-is_empty-clause-tree : goal.returns-then-is_empty-clause-tree
returns-then-is_empty-clause-tree c =
    sym (nothing_put (λ x p. node (next x) p no_trees) (names_in c.args.order.now c.args.assigned.now) (c.is_empty.ensures.names c.if-is_empty.true c.args.order.now) (at c.args.pool.now c.args.e))

pub returns-then-is_literal-clause-tree : goal.returns-then-is_literal-clause-tree
returns-then-is_literal-clause-tree c =
    let A = is_among (names_in c.args.order.now c.args.assigned.now) in
    sym (left_alone A (λ x p. node (next x) p no_trees) (at c.args.pool.now c.args.e) (c.is_literal.ensures c.if-is_literal.true A))
