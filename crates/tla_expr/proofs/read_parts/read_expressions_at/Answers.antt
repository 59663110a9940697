-- Proves what is asked of `read_expressions_at`.
use Rattle.std.proofs.lemmas.Result.{err_from_is_err_and}
use Rattle.tla_expr.proofs.ReadEnough.{reads_trees, fails_trees, all_further}
use Rattle.tla_expr.proofs.read_parts.read_expressions_at.Goals as goal

pub returns-clause-read : goal.returns-clause-read
returns-clause-read c = reads_trees c.args.tokens.now c.args.at _ _ c.in_ok-many.many.ids c.in_ok-many.many.row _ c.in_ok-many.ensures.read

pub returns-clause-further : goal.returns-clause-further
returns-clause-further c = all_further c.args.tokens.now c.args.at _ _ c.in_ok-many.many.ids.items c.in_ok-many.many.row _ c.requires.there c.in_ok-many.ensures.inside c.in_ok-many.ensures.read

pub returns-in_err-many-clause-read : goal.returns-in_err-many-clause-read
returns-in_err-many-clause-read c =
    let p = err_from_is_err_and c.from_residual.result c.from_residual.ensures.1 in
    rw (p.1, p.2) (fails_trees c.args.tokens.now c.args.at c.args.pool.now _ c.in_err-many.field-0.0 c.in_err-many.ensures.read)
