-- Proves what is asked of `read_expression_at`.
use Rattle.std.proofs.lemmas.Result.{err_from_is_err_and}
use Rattle.tla_expr.proofs.ReadEnough.{reads_tree, fails_tree, reads_further}
use Rattle.tla_expr.proofs.read_parts.read_expression_at.Goals as goal

pub returns-clause-read : goal.returns-clause-read
returns-clause-read c = reads_tree c.args.tokens.now c.args.at _ _ _ _ c.in_ok-e.ensures.read

pub returns-clause-further : goal.returns-clause-further
returns-clause-further c = reads_further c.args.tokens.now c.args.at _ _ _ _ _ _ c.requires.there c.in_ok-e.ensures.inside c.in_ok-e.ensures.read

pub returns-in_err-e-clause-read : goal.returns-in_err-e-clause-read
returns-in_err-e-clause-read c =
    let p = err_from_is_err_and c.from_residual.result c.from_residual.ensures.1 in
    rw (p.1, p.2) (fails_tree c.args.tokens.now c.args.at c.args.pool.now _ c.in_err-e.field-0.0 c.in_err-e.ensures.read)
