-- Proves that an expression without these names is the same one, as any is where there is none of them.
use Rattle.std.proofs.Common.{sym}
use Rattle.std.proofs.lemmas.Result.{IfOk-weaker}
use Rattle.tla_token.specs.Signs.{is_among}
use Rattle.tla_tree.specs.Pool.{at}
use Rattle.tla_value.specs.Grafts.{own_part}
use Rattle.name_bits.specs.NamesIn.{names_in}
use Rattle.prime_subst.proofs.LeftAlone.{left_alone, nothing_put}
use Rattle.prime_subst.proofs.localising.with_own.Goals as goal

pub returns-then-is_empty-clause-tree : goal.returns-then-is_empty-clause-tree
returns-then-is_empty-clause-tree c =
    let own = c.args.own.now in
    sym (nothing_put (own_part own.this.now) (names_in own.order.now own.own.now) (c.is_empty.ensures.names c.if-is_empty.true own.order.now) (at c.args.pool.now c.args.e))

pub returns-clause-same : goal.returns-clause-same
returns-clause-same c =
    let own = c.args.own.now in
    IfOk-weaker c.grafted.result _ _ (λ r h lacks. h (left_alone (is_among (names_in own.order.now own.own.now)) (own_part own.this.now) (at c.args.pool.now c.args.e) lacks)) c.grafted.ensures.same
