-- Proves that an expression without these names is the same one, as any is where there is none of them.
use Rattle.std.proofs.Common.{sym}
use Rattle.std.proofs.lemmas.Result.{IfOk-weaker}
use Rattle.tla_token.specs.Signs.{is_among}
use Rattle.tla_tree.specs.Tree.{name, node, no_trees}
use Rattle.tla_tree.specs.Pool.{at}
use Rattle.written_names.specs.Units.{naming_of}
use Rattle.prime_subst.proofs.LeftAlone.{left_alone, nothing_put, no_member}
use Rattle.prime_subst.proofs.localising.with_names.Goals as goal

pub returns-then-len-eq0-clause-tree : goal.returns-then-len-eq0-clause-tree
returns-then-len-eq0-clause-tree c =
    let local = c.args.local.now in
    sym (nothing_put (λ x p. node (name ((naming_of local.naming.now).local local.unit x)) p no_trees) local.locals.now (no_member local.locals.now c.len.result c.len.ensures c.if-len-eq0.true) (at c.args.pool.now c.args.e))

pub returns-clause-same : goal.returns-clause-same
returns-clause-same c =
    let local = c.args.local.now in
    IfOk-weaker c.grafted.result _ _
    (λ r h lacks. h (left_alone (is_among local.locals.now) (λ x p. node (name ((naming_of local.naming.now).local local.unit x)) p no_trees) (at c.args.pool.now c.args.e) lacks)) c.grafted.ensures.same
