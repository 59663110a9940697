-- Proves what is asked of `expression`.
use Rattle.std.proofs.Common.{Some}
use Rattle.std.proofs.lemmas.Result.{err_from_is_err_and}
use Rattle.tla_tree.specs.Whole.{whole_in}
use Rattle.tla_tree.proofs.Whole.{expr_is}
use Rattle.expr_nodes.specs.ShapeOf.{context_seen}
use Rattle.expr_nodes.specs.Ahead.{ahead}
use Rattle.expr_rows.proofs.ReadFirst.{read_same, read_lost}
use Rattle.expr_rows.proofs.ReadNames.{read_on}
use Rattle.tla_expr.proofs.read_first.expression.Goals as goal

pub returns : goal.returns
returns g c =
    let v = c.args.tokens.now in
    let s = c.args.s in
    read_same v _ _ s.at s.left c.climb.result _ _ (expr_is c.args.s.linked (Some s.left) s.edge (context_seen c.args.context) (ahead v s.at))
    (read_on v _ _ _ s.at c.in_ok-a.at s.left c.in_ok-a.a c.climb.result _ (λ a. (whole_in c.args.s.linked (Some s.left)).climb s.edge (context_seen c.args.context) a)
    c.in_ok-a.ensures c.climb.ensures.kept c.climb.ensures.read c.climb.ensures.stands)

pub returns-in_err-a : goal.returns-in_err-a
returns-in_err-a g c =
    let s = c.args.s in
    let p = err_from_is_err_and c.from_residual.result c.from_residual.ensures.1 in
    read_lost c.args.tokens.now _ _ s.at s.left _ _ _ _ _ (λ a. (whole_in c.args.s.linked (Some s.left)).climb s.edge (context_seen c.args.context) a) p.1 p.2 (expr_is c.args.s.linked (Some s.left) s.edge (context_seen c.args.context) (ahead c.args.tokens.now s.at)) c.in_err-a.ensures
